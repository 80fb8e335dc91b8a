-- What one message of a reading is, in the words of the specification: its entry a header message, its body the message of its type. Entries are those of
-- docs/DIFFERENCES.md, part one. Assumes nothing: these are definitions.
use Rattle.std.specs.Prelude.{ℕ, ◌≤◌, ◌+◌, ◌<◌, ◌≡◌, ◌⊎◌, List, [], ◌∷◌, Option, Some}
use Rattle.format.specs.Bytes.{AreBytes}
use Rattle.format.specs.Format.{Stands}
use Rattle.records.specs.declared.Part.{Part}
use Rattle.records.specs.declared.DataLayout.{DataLayout}
use Rattle.records.specs.declared.DataSpace.{DataSpace}
use Rattle.records.specs.declared.LinkInfo.{LinkInfo}
use Rattle.records.specs.declared.GroupInfo.{GroupInfo}
use Rattle.records.specs.declared.AttributeInfo.{AttributeInfo}
use Rattle.records.specs.declared.DataType.{DataType}
use Rattle.records.specs.declared.Attribute.{Attribute}
use Rattle.records.specs.declared.Number.{Number}
use Rattle.records.specs.declared.Value.{Value}
use Rattle.records.specs.Numbers.{number_case, number_bits, value_text, value_case, value_bits}
use Rattle.row.specs.declared.Row.{Row}
use Rattle.parser.specs.declared.State.{State}
use Rattle.grammar.specs.Message.{Kept, Message}
use Rattle.grammar.specs.Message as messages
use Rattle.ohdr_datatype.specs.DataTypes.{type_levels}
use Rattle.ohdr_entry.specs.Entries.{body}
use Rattle.standard.specs.Tie.{Stood, Every}
use Rattle.standard.specs.Dataspaces.{dataspace_message}
use Rattle.standard.specs.Datatypes.{datatype_message}
use Rattle.standard.specs.Attributes as standard
use Rattle.standard.specs.Attributes.{attribute_message}
use Rattle.standard.specs.Infos.{link_info_message, group_info_message, attribute_info_message}
use Rattle.standard.specs.Storage.{fill_value_old, fill_value_message, data_layout3, filter_pipeline_message}
use Rattle.standard_messages.specs.Same.{SameDataspace, SameLinkInfo, SameGroupInfo, SameAttributeInfo, SameLayout, ValidFill, ValidPipeline, SameContinuation}
use Rattle.standard_messages.specs.Differences.{FillDiffers, PipelineDiffers}
use Rattle.standard_datatype.specs.Differences.{TypeDiffers}
use Rattle.standard_datatype.specs.Same.{SameType, HeaderStood}
use Rattle.standard_attribute.specs.Differences.{AttributeDiffers}
use Rattle.standard_attribute.specs.Same.{Less, SameAttribute, NameStood}
use Rattle.standard_attribute.specs.SameNumbers.{SameNumber}
use Rattle.standard_attribute.specs.ReadValues.{TextValue, NumberValue, described_of, data_of}
use Rattle.standard.specs.Headers.{MessagePrefix, message_prefix, header_message, continuation_message}

-- the types whose messages are read in place; 16 is the continuation
abbrev pub read_types : List ℕ
read_types = 1 ∷ 2 ∷ 3 ∷ 4 ∷ 5 ∷ 8 ∷ 10 ∷ 11 ∷ 12 ∷ 21 ∷ []

-- What stands from b to q, by the type of the message: the specification's message, whose fields are those of the record; or a listed difference.
module _ (file : List ℕ) (s : State) where
  abbrev pub SpaceAt : ℕ → ℕ → DataSpace → Type 0
  SpaceAt b q d = Stood SameDataspace (dataspace_message s.size_of_lengths) file b q d

  abbrev pub LinkInfoAt : ℕ → ℕ → LinkInfo → Type 0
  LinkInfoAt b q l = Stood SameLinkInfo (link_info_message s.size_of_offsets) file b q l

  abbrev pub LayoutAt : ℕ → ℕ → DataLayout → Type 0
  LayoutAt b q l = Stood (SameLayout s) (data_layout3 s.size_of_offsets s.size_of_lengths) file b q l

  abbrev pub AttributeInfoAt : ℕ → ℕ → AttributeInfo → Type 0
  AttributeInfoAt b q a = Stood SameAttributeInfo (attribute_info_message s.size_of_offsets) file b q a

  -- where the specification's attribute stands with a text, and no listed difference applies, the part is the bytes of its data field, less the
  -- zeros at their end; whatever bounds its format has
  abbrev pub TextAt : ℕ → ℕ → Option Part → Type 0
  TextAt b q part =
      (longest levels upto : ℕ) (x : standard.Attribute) → Stands file (attribute_message longest levels s.size_of_lengths) b upto x → TextValue s.size_of_lengths x
      → (q ≡ upto) × ((text : Part) × (part ≡ Some text) × Less file text (data_of x))

  -- Where it stands with a number, the two words are the case and the bits of the number that its data field is by the table of its class. What is
  -- said of numbers is said of a file of bytes.
  abbrev pub NumberAt : ℕ → ℕ → ℕ → ℕ → Type 0
  NumberAt b q case bits =
      AreBytes file → (longest levels upto : ℕ) (x : standard.Attribute) → Stands file (attribute_message longest levels s.size_of_lengths) b upto x → NumberValue s.size_of_lengths x
      → (q ≡ upto) × ((n : Number) × (case ≡ number_case n) × (bits ≡ number_bits n) × SameNumber file (described_of x).datatype (data_of x).position n)

  -- what an attribute's row has of its value
  abbrev pub ValueAt : ℕ → ℕ → Value → Type 0
  ValueAt b q v = TextAt b q (value_text v) × NumberAt b q (value_case v) (value_bits v)

-- A row of type 12 has the number that the specification's attribute message at its body has: wherever that stands with one, whatever bounds its format
-- has, the row's last two words are case and bits of the number that its data field is by the table of its class.
abbrev pub NumberInRow : List ℕ → ℕ → Row → Type 0
NumberInRow file size_of_lengths row =
    row.kind ≡ 12 → (longest levels upto : ℕ) (x : standard.Attribute) → Stands file (attribute_message longest levels size_of_lengths) row.body upto x → NumberValue size_of_lengths x
    → (n : Number) × (row.number_case ≡ number_case n) × (row.number_bits ≡ number_bits n) × SameNumber file (described_of x).datatype (data_of x).position n

module _ (file : List ℕ) where
  abbrev pub GroupInfoAt : ℕ → ℕ → GroupInfo → Type 0
  GroupInfoAt b q g = Stood SameGroupInfo group_info_message file b q g

  -- `longest` is the longest name of a member that the specification's format is asked for: 4,095 bytes or more
  pub record TypeAt (longest b q : ℕ) (t : DataType) : Type 0 where
    -- class, version, class bit field and size are the specification's whatever follows them
    pub header : HeaderStood file b t
    pub whole : TypeDiffers longest file b ⊎ Stood SameType (datatype_message longest type_levels) file b q t

  abbrev pub FillValueOldAt : ℕ → ℕ → Type 0
  FillValueOldAt b q = Stood {A = Unit {0}} (λ _ _. Unit {0}) fill_value_old file b q tt

  abbrev pub FillValueAt : ℕ → ℕ → Type 0
  FillValueAt b q = FillDiffers file b ⊎ Stood {A = Unit {0}} (λ _ x. ValidFill x) fill_value_message file b q tt

  abbrev pub FilterPipelineAt : ℕ → ℕ → Type 0
  FilterPipelineAt b q = PipelineDiffers file b ⊎ Stood {A = Unit {0}} (λ _ x. ValidPipeline x) filter_pipeline_message file b q tt

module _ (file : List ℕ) (s : State) (longest : ℕ) where
  pub record AttributeAt (b q : ℕ) (a : Attribute) : Type 0 where
    -- the name is the specification's whatever follows it
    pub name : NameStood file b a.name
    pub whole : AttributeDiffers file s longest b ⊎ Stood (SameAttribute file) (attribute_message longest type_levels s.size_of_lengths) file b q a
    pub value : ValueAt file s b q a.value

  -- BodyIs b q type kept: the message of this type stands from b to q, and what is kept of it is its record.
  -- Of the types that are not read no field is read and nothing is kept (entry 15).
  pub data BodyIs (b : ℕ) : ℕ → ℕ → Kept → Type 0 where
    dataspace : {q : ℕ} (d : DataSpace) → SpaceAt file s b q d → BodyIs b q 1 (messages.data_space d)
    link_info_lem : {q : ℕ} (l : LinkInfo) → LinkInfoAt file s b q l → BodyIs b q 2 (messages.link_info l)
    datatype : {q : ℕ} (t : DataType) → TypeAt file longest b q t → BodyIs b q 3 (messages.data_type t)
    fill_value_old_lem : {q : ℕ} → FillValueOldAt file b q → BodyIs b q 4 messages.nothing
    fill_value : {q : ℕ} → FillValueAt file b q → BodyIs b q 5 messages.nothing
    data_layout_lem : {q : ℕ} (l : DataLayout) → LayoutAt file s b q l → BodyIs b q 8 (messages.data_layout l)
    group_info_lem : {q : ℕ} (g : GroupInfo) → GroupInfoAt file b q g → BodyIs b q 10 (messages.group_info g)
    filter_pipeline_lem : {q : ℕ} → FilterPipelineAt file b q → BodyIs b q 11 messages.nothing
    attribute_message_lem : {q : ℕ} (a : Attribute) → AttributeAt b q a → BodyIs b q 12 (messages.attribute a)
    attribute_info_lem : {q : ℕ} (a : AttributeInfo) → AttributeInfoAt file s b q a → BodyIs b q 21 (messages.attribute_info a)
    not_read : {type : ℕ} → Every (λ n. type ≡ n → ⊥) read_types → BodyIs b b type messages.nothing

-- over the flags of the header too
module _ (file : List ℕ) (s : State) (header-flags : ℕ) where
  -- EntryIs p q b c type size flags: an entry from p to q with its body at b, whose fields end at c, is the specification's header message
  pub record EntryIs (p q b c type size flags : ℕ) : Type 0 where
    pub prefix_of : MessagePrefix
    pub prefix_stands : Stands file (message_prefix header-flags) p b prefix_of
    pub header_message_type : type ≡ prefix_of.header_message_type
    pub size_of_header_message_data : size ≡ prefix_of.size_of_header_message_data
    pub header_message_flags : flags ≡ prefix_of.header_message_flags
    -- its data are as many bytes as its size says, and the next message follows them; the fields may use less (entry 14)
    pub within : c ≤ b + size → Stands file (header_message header-flags) p q (record { prefix = prefix_of; header_message_data = record { position = b; length = size } })
    -- or the fields use more, and the next message follows the fields (entry 12)
    pub beyond : b + size < c → q ≡ c

  -- a message and its entry
  pub record MessageEntry (p q : ℕ) (m : Message) : Type 0 where
    pub fields_end : ℕ
    pub entry_is : EntryIs p q m.body fields_end m.type m.size m.flags
    pub fields_stand : Stands file (body s m.type) m.body fields_end m.kept
    pub no_continuation : m.type ≡ 16 → ⊥

  -- a continuation and its entry
  pub record ContinuationEntry (p q offset length : ℕ) : Type 0 where
    pub at : ℕ
    pub size : ℕ
    pub flags : ℕ
    pub fields_end : ℕ
    pub entry_is : EntryIs p q at fields_end 16 size flags
    pub fields_stand : Stood SameContinuation (continuation_message s.size_of_offsets s.size_of_lengths) file at fields_end (record { offset = offset; length = length })
