-- The records that win among the messages of a reading. Assumes nothing: these are definitions.
use Rattle.std.specs.Prelude.{List, [], ◌∷◌}
use Rattle.records.specs.Defaults.{default_data_space, default_link_info, default_group_info, default_attribute_info, default_data_type, default_data_layout}
use Rattle.records.specs.declared.DataSpace.{DataSpace}
use Rattle.records.specs.declared.LinkInfo.{LinkInfo}
use Rattle.records.specs.declared.GroupInfo.{GroupInfo}
use Rattle.records.specs.declared.AttributeInfo.{AttributeInfo}
use Rattle.records.specs.declared.DataType.{DataType}
use Rattle.records.specs.declared.DataLayout.{DataLayout}
use Rattle.grammar.specs.Message.{Kept, Message}
use Rattle.grammar.specs.Message as messages

-- the records that win: the last dataspace, type, link info, group info, attribute info and data layout
pub record Wins : Type 0 where
  pub ds : DataSpace
  pub dt : DataType
  pub li : LinkInfo
  pub gi : GroupInfo
  pub ai : AttributeInfo
  pub layout : DataLayout

-- a missing one is its default
abbrev pub defaults : Wins
defaults = record { ds = default_data_space; dt = default_data_type; li = default_link_info; gi = default_group_info; ai = default_attribute_info; layout = default_data_layout }

-- what a message puts in place of an earlier record
abbrev pub win : Kept → Wins → Wins
win messages.nothing w = w
win (messages.data_space d) w = record { ds = d; dt = w.dt; li = w.li; gi = w.gi; ai = w.ai; layout = w.layout }
win (messages.link_info l) w = record { ds = w.ds; dt = w.dt; li = l; gi = w.gi; ai = w.ai; layout = w.layout }
win (messages.data_type t) w = record { ds = w.ds; dt = t; li = w.li; gi = w.gi; ai = w.ai; layout = w.layout }
win (messages.data_layout d) w = record { ds = w.ds; dt = w.dt; li = w.li; gi = w.gi; ai = w.ai; layout = d }
win (messages.group_info g) w = record { ds = w.ds; dt = w.dt; li = w.li; gi = g; ai = w.ai; layout = w.layout }
win (messages.attribute a) w = w
win (messages.attribute_info a) w = record { ds = w.ds; dt = w.dt; li = w.li; gi = w.gi; ai = a; layout = w.layout }

-- the records that win among messages, in their order
abbrev pub wins_after : Wins → List Message → Wins
wins_after w [] = w
wins_after w (m ∷ ms) = wins_after (win m.kept w) ms

abbrev pub wins_of : List Message → Wins
wins_of ms = wins_after defaults ms
