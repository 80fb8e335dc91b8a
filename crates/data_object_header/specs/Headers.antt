-- IV.A.1.b, a version 2 object header: its fields, its reading, and what decoding it gives. Assumes nothing: these are definitions.
use Rattle.std.specs.Prelude.{ℕ, ◌+◌, ◌%◌, ◌^◌, ◌≤◌, not, ◌&&◌, List, length, eqb, leb}
use Rattle.format.specs.Bits.{bit}
use Rattle.format.specs.Format.{Format, done, number, skip, bind, check, pick, signature, Stands, read}
use Rattle.parser.specs.declared.State.{State}
use Rattle.parser.specs.States.{file_limit, Widths, width_allowed, state_for}
use Rattle.grammar.specs.Grammar.{Item, Reading}
use Rattle.grammar.specs.Walk.{choose, Went, stopped, and_then, begun, Limits, entry_limit, walk}
use Rattle.ohdr_walk.specs.Sources.{source}
use Rattle.data_object_header.specs.declared.HeaderFields.{HeaderFields}

-- `OHDR`, the bytes 4F 48 44 52
unfoldable pub ohdr : Format (Unit {0})
ohdr = signature 0x5244484F 4

-- signature, version 2, and flags, of which bit 4 refuses; bit 5 brings 16 bytes of times; bits 0 and 1, as a number k, give the
-- chunk size 2 ^ k bytes, and it is at most 16,777,216
unfoldable pub header_fields : Format HeaderFields
header_fields =
    bind ohdr (λ _.
    number 1 (λ version.
    check (eqb version 2) 5 (
    number 1 (λ flags.
    check (not (bit flags 4)) 6 (
    skip (pick (bit flags 5) 16 0) (
    number (2 ^ (flags % 4)) (λ size.
    check (leb size 16777216) 7 (
    done {A = HeaderFields} (record { flags = flags; size = size })))))))))

-- A reading of a header at a position: its fields, a run from there within the chunk end, and what closes it. Its end is `next`.
-- Reading is document 01's term; the standard's is version 2 object header, with its prefix and chunk #0 (IV.A.1.b).
pub record HeaderReading (file : List ℕ) (s : State) (at next : ℕ) (xs : List Item) : Type 0 where
  pub fields : HeaderFields
  pub start : ℕ
  pub head : Stands file header_fields at start fields
  pub rest : Reading (source file s fields.flags) at start (start + fields.size) next xs

-- what a header at a position gives, within limits; no entry is begun before its fields are read
unfoldable pub header : List ℕ → State → Limits → ℕ → Went (List Item)
header file s l at =
    and_then (begun 0 (read file header_fields at)) (λ f start.
    walk (source file s f.flags) l at (start + f.size) start)

-- 1, then 2, come first
unfoldable pub decode : List ℕ → ℕ → ℕ → ℕ → ℕ → Limits → Went (List Item)
decode file offsets lengths end at l =
    choose (width_allowed offsets && width_allowed lengths) (λ _.
    choose (leb (length file) file_limit) (λ _.
    header file (state_for offsets lengths end) l at)
    (λ _. stopped 2 0)) (λ _. stopped 1 0)

-- A header that has a reading, whatever table is lent: widths of 2 to 8 bytes, a file of at most 2,147,483,648 bytes, and a reading of at most 4,096
-- entries.
pub record Checkable (file : List ℕ) (offsets lengths end at next : ℕ) (xs : List Item) : Type 0 where
  pub widths : Widths (state_for offsets lengths end)
  pub small : length file ≤ file_limit
  pub reading : HeaderReading file (state_for offsets lengths end) at next xs
  pub few : length xs ≤ entry_limit
