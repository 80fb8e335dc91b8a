-- Where a chunk of a header that is read is not the specification's, in the words of its formats. Each case is an entry of docs/DIFFERENCES.md, part one.
-- Assumes nothing: these are definitions.
use Rattle.std.specs.Prelude.{ℕ, ◌+◌, ◌-◌, ◌≤◌, ◌<◌, ◌≡◌, ◌⊎◌, true, List, [], ◌∷◌}
use Rattle.format.specs.Bits.{bit}
use Rattle.format.specs.Format.{Stands}
use Rattle.parser.specs.declared.State.{State}
use Rattle.grammar.specs.Message.{Message, message, continuation, Held}
use Rattle.grammar.specs.Grammar.{Item}
use Rattle.standard.specs.Headers.{HeaderMessage, header_message, continuation_signature}
use Rattle.standard.specs.Chunks.{ChecksumStands}
use Rattle.standard_header.specs.Is.{MessageEntry, ContinuationEntry}

-- over a file, the widths, and the flags of the header
module _ (file : List ℕ) (s : State) (header-flags : ℕ) where
  -- ChunkDiffers p e: in the chunk from p to e so many messages stand by the specification, and where the next is due, since 4 bytes or more
  -- are left, a listed difference applies
  pub data ChunkDiffers : ℕ → ℕ → Type 0 where
    -- a gap of 4 or 5 bytes (entry 9)
    wide_gap : {p e : ℕ} → bit header-flags 2 ≡ true → p + 4 ≤ e → e < p + 6 → ChunkDiffers p e
    -- the fields of a message use more bytes than its size says (entry 12)
    message_past_its_size : {p e : ℕ} → p + 4 ≤ e → (q : ℕ) (m : Message) (x : MessageEntry file s header-flags p q m) → m.body + m.size < x.fields_end → ChunkDiffers p e
    continuation_past_its_size : {p e : ℕ} → p + 4 ≤ e → (q o l : ℕ) (x : ContinuationEntry file s header-flags p q o l) → x.at + x.size < x.fields_end → ChunkDiffers p e
    -- a message ends past the chunk (entry 13)
    past_the_chunk : {p e : ℕ} → p + 4 ≤ e → (m : ℕ) (x : HeaderMessage) → Stands file (header_message header-flags) p m x → e < m → ChunkDiffers p e
    -- one applies after a message
    later : {p e : ℕ} → p + 4 ≤ e → (m : ℕ) (x : HeaderMessage) → Stands file (header_message header-flags) p m x → ChunkDiffers m e → ChunkDiffers p e

  -- the same of the chunk in a block, between the specification's signature and its checksum
  pub record BlockDiffers (offset size : ℕ) : Type 0 where
    pub start : ℕ
    pub signature : ℕ
    pub signature_stands : Stands file continuation_signature offset start signature
    pub chunk : ChunkDiffers start (offset + size - 4)
    pub checksum_stands : ChecksumStands file offset (offset + size - 4)

  -- in the block of what an entry holds a listed difference applies, and in that of one of these entries
  abbrev pub InBlock : Held → Type 0
  InBlock (message m) = ⊥
  InBlock (continuation o l) = BlockDiffers o l

  abbrev pub InBlocks : List Item → Type 0
  InBlocks [] = ⊥
  InBlocks (i ∷ is) = InBlock i.held ⊎ InBlocks is
