-- IV.A.1.b and IV.A.2.q: the messages of a header in its first chunk and in its continuation blocks, with what follows them in each.
-- Assumes nothing: these are definitions.
use Rattle.std.specs.Prelude.{ℕ, ◌+◌, ◌-◌, ◌≤◌, ◌<◌, ◌≡◌, List, [], ◌∷◌, ◌++◌, length}
use Rattle.format.specs.Format.{Stands}
use Rattle.lookup3.specs.Lookup3.{Matches}
use Rattle.standard.specs.Fields.{defined}
use Rattle.standard.specs.Headers.{ObjectHeaderPrefix, object_header_prefix, HeaderMessage, header_message, ContinuationMessage, continuation_message, continuation_signature}

-- Checksum, by I.A lookup3 of the bytes from a position up to where it stands, in 4 bytes of the file
abbrev pub ChecksumStands : List ℕ → ℕ → ℕ → Type 0
ChecksumStands file from at = (at + 4 ≤ length file) × Matches file from at

-- over a file, and the widths of offsets and lengths
module _ (file : List ℕ) (size_of_offsets size_of_lengths : ℕ) where
  mutual
    -- Messages header-flags p e xs: messages stand from p on, and the last ends at e or before a gap that is smaller than type, size and flags of a
    -- message, which are 4 bytes; xs are these and, after each continuation message (type 16), those of its block.
    pub data Messages (header-flags : ℕ) : ℕ → ℕ → List HeaderMessage → Type 0 where
      gap : {p e : ℕ} → p ≤ e → e < p + 4 → Messages header-flags p e []
      next : {p m e : ℕ} {x : HeaderMessage} {xs : List HeaderMessage} → Stands file (header_message header-flags) p m x → (x.prefix.header_message_type ≡ 16 → ⊥) → Messages header-flags m e xs
          → Messages header-flags p e (x ∷ xs)
      continued : {p m e : ℕ} {x : HeaderMessage} {xs ys : List HeaderMessage} (q : ℕ) (c : ContinuationMessage) (offset : ℕ) → Stands file (header_message header-flags) p m x → x.prefix.header_message_type ≡ 16
          → Stands file (continuation_message size_of_offsets size_of_lengths) x.header_message_data.position q c → c.offset ≡ defined offset → ContinuationBlock header-flags offset c.length ys
          → Messages header-flags m e xs → Messages header-flags p e (x ∷ (ys ++ xs))

    -- Layout: Version 2 Object Header Continuation Block, of so many bytes: signature, messages, gap, and the checksum of these
    pub data ContinuationBlock (header-flags : ℕ) : ℕ → ℕ → List HeaderMessage → Type 0 where
      block : {offset size : ℕ} {xs : List HeaderMessage} (start signature : ℕ) → Stands file continuation_signature offset start signature
          → Messages header-flags start (offset + size - 4) xs → ChecksumStands file offset (offset + size - 4) → ContinuationBlock header-flags offset size xs

  -- Layout: Version 2 Object Header: the prefix, messages, gap, and the checksum of these; all its messages, in this order
  pub record ObjectHeader (at : ℕ) (messages : List HeaderMessage) : Type 0 where
    pub prefix : ObjectHeaderPrefix
    pub start : ℕ
    pub prefix_stands : Stands file object_header_prefix at start prefix
    pub chunk : Messages prefix.flags start (start + prefix.size_of_chunk_0) messages
    pub checksum_stands : ChecksumStands file at (start + prefix.size_of_chunk_0)
