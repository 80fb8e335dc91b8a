-- What a header that is accepted is, in the words of the specification: its chunks, each entry and each row, the records, and all of them together.
-- Entries are those of docs/DIFFERENCES.md, part one. Assumes nothing: these are definitions.
use Rattle.std.specs.Prelude.{ℕ, ◌+◌, ◌-◌, ◌≤◌, ◌<◌, ◌≡◌, ◌⊎◌, List, [], ◌∷◌, ◌++◌, length}
use Rattle.format.specs.Format.{Stands}
use Rattle.parser.specs.declared.State.{State}
use Rattle.grammar.specs.Message.{Message, message, continuation, row_of}
use Rattle.grammar.specs.Grammar.{Item, item}
use Rattle.standard.specs.Headers.{HeaderMessage, header_message, continuation_signature, ObjectHeaderPrefix, object_header_prefix}
use Rattle.standard.specs.Chunks.{ChecksumStands, ObjectHeader}
use Rattle.standard_header.specs.Same.{SameEntries, SameHeader, OneByOne, SameMessage, no_continuations}
use Rattle.standard_header.specs.Is.{MessageEntry, ContinuationEntry, BodyIs, TextAt, NumberAt, SpaceAt, LinkInfoAt, TypeAt, LayoutAt, GroupInfoAt, AttributeInfoAt}
use Rattle.standard_header.specs.Differences.{BlockDiffers, ChunkDiffers, InBlocks}
use Rattle.grammar.specs.Table.{messages_of, messages, rows_of}
use Rattle.grammar.specs.Each.{All}
use Rattle.data_object_header.specs.declared.HeaderFields.{HeaderFields}
use Rattle.records.specs.Defaults.{default_data_space, default_link_info, default_group_info, default_attribute_info, default_data_type, default_data_layout}
use Rattle.data_object_winners.specs.Wins.{Wins}
use Rattle.row.specs.Clearing.{table}
use Rattle.parser.specs.States.{state_for}
use Rattle.data_object.specs.declared.DataObject.{DataObject}
use Rattle.data_object.specs.Decoded.{wins_in}

-- OwnMessages p e xs: in a file, with the flags of the header, from p on these messages of the specification stand, one after another, then a gap
-- of less than 4 bytes up to e. They are its `Messages` (standard, Chunks) without those in the blocks of continuations.
abbrev pub OwnMessages : List ℕ → ℕ → ℕ → ℕ → List HeaderMessage → Type 0
OwnMessages file header-flags p e [] = (p ≤ e) × (e < p + 4)
OwnMessages file header-flags p e (x ∷ xs) = (m : ℕ) × Stands file (header_message header-flags) p m x × OwnMessages file header-flags m e xs

-- over a file, the widths, and the flags of the header
module _ (file : List ℕ) (s : State) (header-flags : ℕ) where
  -- the entries that are read in the chunk from p to e itself are its messages
  pub record ChunkIs (p e : ℕ) (own : List Item) : Type 0 where
    pub messages : List HeaderMessage
    pub stand : OwnMessages file header-flags p e messages
    pub same : SameEntries file s own messages

  -- the same of the chunk in a block, which is the specification's: signature, messages, gap, and checksum
  pub record BlockIs (offset size : ℕ) (own : List Item) : Type 0 where
    pub start : ℕ
    pub signature : ℕ
    pub signature_stands : Stands file continuation_signature offset start signature
    pub chunk : ChunkIs start (offset + size - 4) own
    pub checksum_stands : ChecksumStands file offset (offset + size - 4)

-- and the longest name of a member that the specification's formats are asked for
module _ (file : List ℕ) (s : State) (longest header-flags : ℕ) where
  -- a message of a reading: the entry that it stands in, and the message of its type in its body
  pub record MessageIs (p q : ℕ) (m : Message) : Type 0 where
    pub in_entry : MessageEntry file s header-flags p q m
    pub body_of : BodyIs file s longest m.body in_entry.fields_end m.type m.kept

  -- EntriesAre own all: of the entries `all` those in a chunk itself are `own`; just after a continuation come the entries of its block, and
  -- those in that chunk itself are `block-own`. Each entry is a header message of the specification. Each block is the specification's by itself
  -- unless a difference applies in it; what applies in other chunks plays no part.
  pub data EntriesAre : List Item → List Item → Type 0 where
    none : EntriesAre [] []
    a_message : {p q : ℕ} {m : Message} {own all : List Item} → MessageIs p q m → EntriesAre own all → EntriesAre (item p q (message m) ∷ own) (item p q (message m) ∷ all)
    a_continuation : {p q o l : ℕ} {own all block-own block-all : List Item} → ContinuationEntry file s header-flags p q o l
        → BlockDiffers file s header-flags o l ⊎ BlockIs file s header-flags o l block-own → EntriesAre block-own block-all
        → EntriesAre own all → EntriesAre (item p q (continuation o l) ∷ own) (item p q (continuation o l) ∷ (block-all ++ all))

module _ (file : List ℕ) (s : State) where
  -- the first chunk by itself; the header ends with the checksum of 4 bytes behind its end e
  pub record FirstChunkIs (header-flags start e after : ℕ) (own : List Item) : Type 0 where
    pub chunk : ChunkIs file s header-flags start e own
    pub end : after ≡ e + 4

  -- The header at a position as a whole: what its messages are, in its first chunk and in its blocks; how many there are; and where it ends.
  pub record WholeIs (at after count rows : ℕ) (xs : List Item) : Type 0 where
    pub messages : List HeaderMessage
    pub header : ObjectHeader file s.size_of_offsets s.size_of_lengths at messages
    -- the entries are its messages, one by one
    pub entries : SameEntries file s xs messages
    pub entry_count : count ≡ length messages
    -- the messages that have rows are those of them that are no continuations, one by one
    pub with_rows : OneByOne SameMessage (messages_of xs) (no_continuations messages)
    pub row_count : rows ≡ length (no_continuations messages)
    pub end : after ≡ header.start + header.prefix.size_of_chunk_0 + 4

module _ (file : List ℕ) (s : State) (longest : ℕ) where
  -- A header at a position, up to the next, with its fields, its entries and those of its blocks in the reading's order, and numbers of entries and rows.
  pub record HeaderIs (at after count rows : ℕ) (fields : HeaderFields) (xs : List Item) : Type 0 where
    pub prefix : ObjectHeaderPrefix
    pub start : ℕ
    pub prefix_stands : Stands file object_header_prefix at start prefix
    pub prefix_same : SameHeader fields prefix
    -- its checksum, whichever difference applies
    pub checksum_stands : ChecksumStands file at (start + prefix.size_of_chunk_0)
    -- its first chunk by itself, with the entries that are read there, unless a difference applies in it
    pub own : List Item
    pub first_chunk : ChunkDiffers file s prefix.flags start (start + prefix.size_of_chunk_0) ⊎ FirstChunkIs file s prefix.flags start (start + prefix.size_of_chunk_0) after own
    -- each entry, and each block by itself
    pub entries : EntriesAre file s longest prefix.flags own xs
    -- as a whole, unless a difference applies in its first chunk or in a block
    pub whole : (ChunkDiffers file s prefix.flags start (start + prefix.size_of_chunk_0) ⊎ InBlocks file s prefix.flags xs) ⊎ WholeIs file s at after count rows xs

  -- each message, by itself
  pub record RowIs (header-flags : ℕ) (m : Message) : Type 0 where
    pub from : ℕ
    pub upto : ℕ
    pub is : MessageIs file s longest header-flags from upto m
    -- an attribute's row has the text that the specification's message has
    pub text : m.type ≡ 12 → TextAt file s m.body is.in_entry.fields_end (row_of m).part
    -- and the number
    pub number : m.type ≡ 12 → NumberAt file s m.body is.in_entry.fields_end (row_of m).number_case (row_of m).number_bits

-- no message of a type
abbrev pub NoneOf : ℕ → List Message → Type 0
NoneOf n [] = Unit {0}
NoneOf n (m ∷ ms) = (m.type ≡ n → ⊥) × NoneOf n ms

-- the last message of a type is there, and of its body and the record X holds
pub data LastOf {A : Type 0} (n : ℕ) (X : ℕ → ℕ → A → Type 0) (a : A) : List Message → Type 0 where
  last : {m : Message} {ms : List Message} → m.type ≡ n → NoneOf n ms → (q : ℕ) → X m.body q a → LastOf n X a (m ∷ ms)
  before : {m : Message} {ms : List Message} → LastOf n X a ms → LastOf n X a (m ∷ ms)

-- a record that is handed out: that of the last message of its type, or its default where there is none (entries 80 and 81)
abbrev pub Given : {A : Type 0} → ℕ → (ℕ → ℕ → A → Type 0) → A → A → List Message → Type 0
Given n X a₀ a ms = LastOf n X a ms ⊎ (NoneOf n ms × (a ≡ a₀))

module _ (file : List ℕ) (s : State) where
  -- the records that a header with these messages gives
  pub record WinsAre (longest : ℕ) (ms : List Message) (w : Wins) : Type 0 where
    pub dataspace : Given 1 (SpaceAt file s) default_data_space w.ds ms
    pub link_info_lem : Given 2 (LinkInfoAt file s) default_link_info w.li ms
    pub datatype : Given 3 (TypeAt file longest) default_data_type w.dt ms
    pub data_layout_lem : Given 8 (LayoutAt file s) default_data_layout w.layout ms
    pub group_info_lem : Given 10 (GroupInfoAt file) default_group_info w.gi ms
    pub attribute_info_lem : Given 21 (AttributeInfoAt file s) default_attribute_info w.ai ms

-- Over a file, the widths of offsets and lengths, an end-of-file address, a header position and a table of so many words, which ends as t;
-- and the longest name of a member that the specification's formats are asked for.
module _ (file : List ℕ) (offsets lengths end at n longest : ℕ) where
  -- the state that the widths and the end-of-file address make
  abbrev state : State
  state = state_for offsets lengths end

  -- of an accepted header with the answer `Read after count`, and what is handed back of it
  pub record Standard (after count : ℕ) (r : DataObject) (t : List ℕ) : Type 0 where
    -- the entries of the header and of its blocks: `count` is their number, and there are as many rows as messages among them
    pub items : List Item
    pub entry_count : count ≡ length items
    pub row_count : r.rows ≡ messages items
    pub fields : HeaderFields
    -- the header's prefix, its chunks, and each entry; where it is the specification's as a whole, count and rows are those of its messages
    pub header : HeaderIs file state longest at after count r.rows fields items
    -- each row: type, flags, size and body position are fields of the header message that stands there, and name and part those of its body
    pub rows : All (RowIs file state longest header.prefix.flags) (messages_of items)
    pub table : t ≡ table n (rows_of items)
    -- each record
    pub records : WinsAre file state longest (messages_of items) (wins_in r)
