-- What is handed out of a header of the specification that no listed limit or refusal turns back: its messages, entry by entry, each with the fields
-- that the specification's message has. Assumes nothing: these are definitions.
use Rattle.std.specs.Prelude.{ℕ, ◌≡◌, List, [], ◌∷◌, length, Ok}
use Rattle.records.specs.declared.DataSpace.{DataSpace}
use Rattle.records.specs.declared.LinkInfo.{LinkInfo}
use Rattle.records.specs.declared.GroupInfo.{GroupInfo}
use Rattle.records.specs.declared.AttributeInfo.{AttributeInfo}
use Rattle.records.specs.declared.DataType.{DataType}
use Rattle.records.specs.declared.DataLayout.{DataLayout}
use Rattle.records.specs.declared.Attribute as ours
use Rattle.row.specs.Clearing.{table}
use Rattle.parser.specs.declared.State.{State}
use Rattle.parser.specs.States.{state_for}
use Rattle.grammar.specs.Message.{Kept, Message, Held, message, continuation}
use Rattle.grammar.specs.Message as messages
use Rattle.grammar.specs.Grammar.{Item}
use Rattle.grammar.specs.Table.{messages_of, rows_of}
use Rattle.data_object_winners.specs.Wins.{wins_of}
use Rattle.data_object.specs.declared.DataObject.{DataObject}
use Rattle.data_object.specs.Decoded.{wins_in}
use Rattle.standard.specs.Tie.{Every}
use Rattle.standard.specs.Headers.{HeaderMessage}
use Rattle.standard_messages.specs.Same.{SameSpace, SameLinkInfo, SameGroupInfo, SameAttributeInfo, SameLayout}
use Rattle.standard_datatype.specs.Same.{SameType}
use Rattle.standard_attribute.specs.Same.{SameName, SameAttribute}
use Rattle.standard_header.specs.Same.{SameMessage, SameContinued, no_continuations}
use Rattle.standard_header.specs.ReadHeaders.{ReadBody, dataspace, link_info_lem, datatype, fill_value_old_lem, fill_value, data_layout_lem, group_info_lem, attribute_info_lem, filter_pipeline_lem, attribute, attribute_of_version_1, attribute_of_version_3, not_read, ReadMessage, CheckedObjectHeader, next_after}

module _ (file : List ℕ) (s : State) where
  -- What is kept of a message: the record with the fields of the specification's message that stands in its data. Of an attribute that is accepted by
  -- its name alone it is the name; of fill values, of pipelines and of types that are not read nothing is.
  abbrev pub BodyAs : {b e type : ℕ} → ReadBody file s b e type → Kept → Type 0
  BodyAs (dataspace c x h l r) k = (d : DataSpace) × (k ≡ messages.data_space d) × SameSpace d x
  BodyAs (link_info_lem c x h l) k = (i : LinkInfo) × (k ≡ messages.link_info i) × SameLinkInfo i x
  BodyAs (datatype longest c x h l r) k = (t : DataType) × (k ≡ messages.data_type t) × SameType t x
  BodyAs (fill_value_old_lem c x h l) k = k ≡ messages.nothing
  BodyAs (fill_value c x h l r) k = k ≡ messages.nothing
  BodyAs (data_layout_lem c x h l r) k = (d : DataLayout) × (k ≡ messages.data_layout d) × SameLayout s d x
  BodyAs (group_info_lem c x h l) k = (g : GroupInfo) × (k ≡ messages.group_info g) × SameGroupInfo g x
  BodyAs (attribute_info_lem c x h l) k = (i : AttributeInfo) × (k ≡ messages.attribute_info i) × SameAttributeInfo i x
  BodyAs (filter_pipeline_lem c x h l r) k = k ≡ messages.nothing
  BodyAs (attribute longest c x h l r) k = (a : ours.Attribute) × (k ≡ messages.attribute a) × SameAttribute file a x
  BodyAs (attribute_of_version_1 m x h l r f) k = (a : ours.Attribute) × (k ≡ messages.attribute a) × SameName file a.name (record { position = m; length = x.name_size })
  BodyAs (attribute_of_version_3 m x h l r f) k = (a : ours.Attribute) × (k ≡ messages.attribute a) × SameName file a.name (record { position = m; length = x.name_size })
  BodyAs (not_read h) k = k ≡ messages.nothing

  -- a message of the reading: type, size, flags and place of the header message, and what is kept of its data
  pub record MessageAs (x : HeaderMessage) (r : ReadMessage file s x) (m : Message) : Type 0 where
    pub same : SameMessage m x
    pub kept : BodyAs (r.body_read same.no_continuation) m.kept

  abbrev pub HeldAs : (x : HeaderMessage) → ReadMessage file s x → Held → Type 0
  HeldAs x r (message m) = MessageAs x r m
  HeldAs x r (continuation o l) = SameContinued file s o l x

  -- as many entries as header messages, each with what is said of it
  abbrev pub EntriesAs : (xs : List HeaderMessage) → Every (ReadMessage file s) xs → List Item → Type 0
  EntriesAs [] r [] = Unit {0}
  EntriesAs [] r (i ∷ is) = ⊥
  EntriesAs (x ∷ xs) r [] = ⊥
  EntriesAs (x ∷ xs) r (i ∷ is) = HeldAs x r.0 i.held × EntriesAs xs r.1 is

-- Over a file, the widths of offsets and lengths, an end-of-file address, a header position, and a table of n words, which ends as t.
module _ (file : List ℕ) (offsets lengths end at n : ℕ) where
  -- the call's answer: it ends where the header ends, and counts its messages; they are the entries, those that are no continuations are the rows, in
  -- their order, and the records are those that win
  pub record AcceptedAs (xs : List HeaderMessage) (h : CheckedObjectHeader file offsets lengths end at xs) (r : DataObject) (t : List ℕ) : Type 0 where
    pub answer : r.answer ≡ Ok (next_after h.header, length xs)
    pub row_count : r.rows ≡ length (no_continuations xs)
    pub items : List Item
    pub entries : EntriesAs file (state_for offsets lengths end) xs h.messages_read items
    pub table_rows : t ≡ table n (rows_of items)
    pub records : wins_in r ≡ wins_of (messages_of items)
