-- When a header of the specification is accepted. Each condition names the entry of docs/DIFFERENCES.md, part one, that it excludes.
-- Assumes nothing: these are definitions.
use Rattle.std.specs.Prelude.{ℕ, suc, ◌+◌, ◌/◌, ◌≤◌, ◌<◌, max, ◌≡◌, false, List, length}
use Rattle.std.specs.Int.Bits.{bit_and}
use Rattle.format.specs.Bits.{bit}
use Rattle.format.specs.Bytes.{to_multiple_of8}
use Rattle.format.specs.Format.{Stands}
use Rattle.row.specs.Rows.{row_words}
use Rattle.parser.specs.declared.State.{State}
use Rattle.parser.specs.States.{file_limit, Widths, state_for}
use Rattle.grammar.specs.Grammar.{block_levels}
use Rattle.grammar.specs.Walk.{entry_limit}
use Rattle.records.specs.declared.Value.{Value}
use Rattle.ohdr_datatype.specs.DataTypes.{type_levels}
use Rattle.ohdr_attribute.specs.Attributes.{type_space_value}
use Rattle.standard.specs.Fields.{defined}
use Rattle.standard.specs.Tie.{Every}
use Rattle.standard.specs.Headers.{ObjectHeaderPrefix, HeaderMessage, ContinuationMessage, continuation_message}
use Rattle.standard.specs.Chunks.{Messages, gap, next, continued, ContinuationBlock, block, ObjectHeader}
use Rattle.standard.specs.Dataspaces.{Dataspace, dataspace_message}
use Rattle.standard.specs.Datatypes.{Datatype, datatype_message}
use Rattle.standard.specs.DatatypeRules.{Each}
use Rattle.standard.specs.Infos.{LinkInfoMessage, link_info_message, GroupInfoMessage, group_info_message, AttributeInfoMessage, attribute_info_message}
use Rattle.standard.specs.Storage.{FillValueOld, fill_value_old, FillValue, fill_value_message, DataLayout3, data_layout3, FilterPipeline, filter_pipeline_message}
use Rattle.standard.specs.Attributes.{Sizes1, sizes1, Sizes3, sizes3, Attribute, attribute_message}
use Rattle.standard_datatype.specs.ReadTypes.{ReadType}
use Rattle.standard_messages.specs.ReadMessages.{ReadSpace, ReadFill, ReadLayout, ReadPipeline}
use Rattle.standard_attribute.specs.ReadValues.{ReadDescribed, ReadAttribute}
use Rattle.standard_header.specs.Same.{no_continuations}
use Rattle.standard_header.specs.Is.{read_types}

-- 6: no numbers of attributes; 8: chunk #0 of at most 16,777,216 bytes
pub record ReadPrefix (x : ObjectHeaderPrefix) : Type 0 where
  pub no_attribute_numbers : bit x.flags 4 ≡ false
  pub small : x.size_of_chunk_0 ≤ 16777216

module _ (file : List ℕ) (s : State) where
  -- ReadBody b e type: in the data of a message of this type, from b to e, the specification's message stands, within them (12), and no refusal
  -- that is listed applies to it
  pub data ReadBody (b e : ℕ) : ℕ → Type 0 where
    dataspace : (c : ℕ) (x : Dataspace) → Stands file (dataspace_message s.size_of_lengths) b c x → c ≤ e → ReadSpace s.size_of_lengths x → ReadBody b e 1
    link_info_lem : (c : ℕ) (x : LinkInfoMessage) → Stands file (link_info_message s.size_of_offsets) b c x → c ≤ e → ReadBody b e 2
    datatype : (longest c : ℕ) (x : Datatype) → Stands file (datatype_message longest type_levels) b c x → c ≤ e → Each ReadType x → ReadBody b e 3
    fill_value_old_lem : (c : ℕ) (x : FillValueOld) → Stands file fill_value_old b c x → c ≤ e → ReadBody b e 4
    fill_value : (c : ℕ) (x : FillValue) → Stands file fill_value_message b c x → c ≤ e → ReadFill x → ReadBody b e 5
    data_layout_lem : (c : ℕ) (x : DataLayout3) → Stands file (data_layout3 s.size_of_offsets s.size_of_lengths) b c x → c ≤ e → ReadLayout file s x.properties → ReadBody b e 8
    group_info_lem : (c : ℕ) (x : GroupInfoMessage) → Stands file group_info_message b c x → c ≤ e → ReadBody b e 10
    attribute_info_lem : (c : ℕ) (x : AttributeInfoMessage) → Stands file (attribute_info_message s.size_of_offsets) b c x → c ≤ e → ReadBody b e 21
    filter_pipeline_lem : (c : ℕ) (x : FilterPipeline) → Stands file filter_pipeline_message b c x → c ≤ e → ReadPipeline x → ReadBody b e 11
    -- the whole attribute; version 2 (48), and shared datatypes and dataspaces (50), are not in the specification's formats as they are written here
    attribute : (longest c : ℕ) (x : Attribute) → Stands file (attribute_message longest type_levels s.size_of_lengths) b c x → c ≤ e → ReadAttribute (ReadDescribed s.size_of_lengths) x → ReadBody b e 12
    -- An attribute is accepted by its name alone (56): fields and name lie within the data, as has to what else is read of it (12); 52: names of at
    -- most 4,096 bytes.
    attribute_of_version_1 : (m : ℕ) (x : Sizes1) → Stands file sizes1 b m x → x.name_size ≤ 4096 → m + x.name_size + to_multiple_of8 x.name_size ≤ e
        → ((q : ℕ) (v : Value) → Stands file (type_space_value 1 s) (m + x.name_size + to_multiple_of8 x.name_size) q v → q ≤ e) → ReadBody b e 12
    attribute_of_version_3 : (m : ℕ) (x : Sizes3) → Stands file sizes3 b m x → x.name_size ≤ 4096 → m + x.name_size + 0 ≤ e
        → ((q : ℕ) (v : Value) → Stands file (type_space_value 3 s) (m + x.name_size + 0) q v → q ≤ e) → ReadBody b e 12
    -- 15: of other types nothing is read
    not_read : {type : ℕ} → Every (λ n. type ≡ n → ⊥) read_types → ReadBody b e type

  pub record ReadMessage (x : HeaderMessage) : Type 0 where
    -- 10, 11: flags other than bits 0 and 2
    pub flags : bit_and x.prefix.header_message_flags 0b11111010 ≡ 0
    pub body_read : (x.prefix.header_message_type ≡ 16 → ⊥) → ReadBody x.header_message_data.position (x.header_message_data.position + x.header_message_data.length) x.prefix.header_message_type
    -- of a continuation: its fields within its data (12), an offset other than 0 (16), and a block below the end-of-file address
    pub block_read : (q : ℕ) (c : ContinuationMessage) (offset : ℕ) → x.prefix.header_message_type ≡ 16 → Stands file (continuation_message s.size_of_offsets s.size_of_lengths) x.header_message_data.position q c → c.offset ≡ defined offset
        → (q ≤ x.header_message_data.position + x.header_message_data.length) × (0 < offset) × (offset + c.length ≤ s.end_of_file_address)

-- how many levels of blocks are under the messages of a chunk
module _ (file : List ℕ) (size_of_offsets size_of_lengths : ℕ) where
  unfoldable pub levels : {header-flags p e : ℕ} {xs : List HeaderMessage} → Messages file size_of_offsets size_of_lengths header-flags p e xs → ℕ
  levels h = elim h as (λ p e xs y. ℕ) (λ o n xs y. ℕ) [
    | gap a b ↦ 0
    | next h n (r → i) ↦ i
    | continued q c o h t k d (b → j) (r → i) ↦ max (suc j) i
    | block start signature h (r → i) t ↦ i
  ]

  unfoldable pub block_levels_of : {header-flags o n : ℕ} {xs : List HeaderMessage} → ContinuationBlock file size_of_offsets size_of_lengths header-flags o n xs → ℕ
  block_levels_of h = elim h as (λ p e xs y. ℕ) (λ o n xs y. ℕ) [
    | gap a b ↦ 0
    | next h n (r → i) ↦ i
    | continued q c o h t k d (b → j) (r → i) ↦ max (suc j) i
    | block start signature h (r → i) t ↦ i
  ]

-- Over a file, the widths of offsets and lengths, an end-of-file address, and a header position.
module _ (file : List ℕ) (offsets lengths end at : ℕ) where
  -- A header that no listed limit or refusal turns back: widths of 2 to 8 (2; part two, 1), a file that is not too large (part two, 2), the header's
  -- own fields (6, 8), at most 25 levels of blocks (17), each message by itself, and at most 4,096 of them (part two, 6).
  pub record CheckedObjectHeader (xs : List HeaderMessage) : Type 0 where
    pub header : ObjectHeader file offsets lengths at xs
    pub widths : Widths (state_for offsets lengths end)
    pub small : length file ≤ file_limit
    pub prefix_read : ReadPrefix header.prefix
    pub few_levels : levels file offsets lengths header.chunk ≤ block_levels
    pub messages_read : Every (ReadMessage file (state_for offsets lengths end)) xs
    pub few : length xs ≤ entry_limit

  -- and with a table of n words: no more messages than it has rows (part two, 7)
  pub record ReadObjectHeader (n : ℕ) (xs : List HeaderMessage) : Type 0 where
    pub checked : CheckedObjectHeader xs
    pub room : length (no_continuations xs) ≤ n / row_words

-- behind the checksum, which follows chunk #0
abbrev pub next_after : {file : List ℕ} {offsets lengths at : ℕ} {xs : List HeaderMessage} → ObjectHeader file offsets lengths at xs → ℕ
next_after h = h.start + h.prefix.size_of_chunk_0 + 4
