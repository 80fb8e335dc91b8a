-- Type by type: the position of each body's reading is what its call promises.
use Rattle.grammar.specs.Message as messages
use Rattle.format.specs.Format.{read}
use Rattle.ohdr_info.specs.Info.{link_info, group_info, attribute_info}
use Rattle.ohdr_datatype.specs.DataTypes.{data_type}
use Rattle.ohdr_dataspace.specs.DataSpaces.{data_space}
use borrow.Author.Tests.{ne_eqb}
use native.Mathlib.Omega.{arith}
use borrow.Author.Rules.{rules}
use Rattle.ohdr_entry.specs.Facts.{position_kept, position_self}
use Rattle.ohdr_entry.specs.Entries.{plain_body}
use Rattle.format.specs.Steps.{read_done}
use Rattle.ohdr_entry.proofs.plain_body.Goals as goal

pub returns-in-1 : goal.returns-in-1
unfolding plain_body
returns-in-1 c = rw (c.in-1.is, position_kept _ _ messages.data_space) (c.position.ensures (read c.args.file.now (data_space c.args.state) c.args.at) (λ r h. search rules))

pub returns-in-2 : goal.returns-in-2
unfolding plain_body
returns-in-2 c = rw (c.in-2.is, position_kept _ _ messages.link_info) (c.position-in-2.ensures (read c.args.file.now (link_info c.args.state) c.args.at) (λ r h. search rules))

pub returns-in-3 : goal.returns-in-3
unfolding plain_body
returns-in-3 c = rw (c.in-3.is, position_kept _ _ messages.data_type) (c.position-in-3.ensures (read c.args.file.now (data_type 32) c.args.at) (λ r h. search rules))

pub returns-in-4 : goal.returns-in-4
unfolding plain_body
returns-in-4 c = rw (c.in-4.is, position_kept _ _ (λ _. messages.nothing), position_self) c.message_data_fill_old.ensures

pub returns-in-5 : goal.returns-in-5
unfolding plain_body
returns-in-5 c = rw (c.in-5.is, position_kept _ _ (λ _. messages.nothing), position_self) c.message_data_fill.ensures

pub returns-in-10 : goal.returns-in-10
unfolding plain_body
returns-in-10 c = rw (c.in-10.is, position_kept _ _ messages.group_info) (c.position-in-10.ensures (read c.args.file.now group_info c.args.at) (λ r h. search rules))

pub returns-in-11 : goal.returns-in-11
unfolding plain_body
returns-in-11 c = rw (c.in-11.is, position_kept _ _ (λ _. messages.nothing), position_self) c.message_filter_pipeline.ensures

pub returns-in-21 : goal.returns-in-21
unfolding plain_body
returns-in-21 c = rw (c.in-21.is, position_kept _ _ messages.attribute_info) (c.position-in-21.ensures (read c.args.file.now (attribute_info c.args.state) c.args.at) (λ r h. search rules))

pub returns-in_default : goal.returns-in_default
unfolding plain_body
returns-in_default c = let k = c.args.kind in rw (ne_eqb k 1 (λ e. omega arith), ne_eqb k 2 (λ e. omega arith), ne_eqb k 3 (λ e. omega arith), ne_eqb k 4 (λ e. omega arith), ne_eqb k 5 (λ e. omega arith), ne_eqb k 10 (λ e. omega arith), ne_eqb k 11 (λ e. omega arith), ne_eqb k 21 (λ e. omega arith), read_done)
