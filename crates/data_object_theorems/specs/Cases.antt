-- The marked cases as one table, and that the definition gives each its outcome. Assumes nothing.
use Rattle.std.specs.Prelude.{ℕ, ◌≡◌, refl, List, [], ◌∷◌, ◌++◌}
use Rattle.format.specs.Bytes.{le}
use Rattle.format.specs.Format.{Out, found, refused, read, bind, times}
use Rattle.ohdr_info.specs.Info.{cond, group_info}
use Rattle.helpers.specs.Addresses.{address, defined_address}
use Rattle.ohdr_entry.specs.Continuations.{continuation}
use Rattle.ohdr_layout.specs.DataLayouts.{data_from, raw_data_lem, contiguous, data_layout}
use Rattle.ohdr_datatype.specs.DataTypes.{data_type, type_layer, data_type_header, known_type, known_class, properties, plain}
use Rattle.ohdr_dataspace.specs.DataSpaces.{data_space, data_space2, dimensions, dimensions_from, dimension, maximum_sizes}
use Rattle.grammar.specs.Grammar.{ochk, block_end, header_end}
use Rattle.grammar.specs.Walk.{lent, hold, entry_by, run_by, block_by, entry_at, run_at, walk}
use Rattle.ohdr_entry.specs.Entries.{entry, prefix, creation_order, closed, message_held, continuation_held, body, plain_body, layout_body}
use Rattle.lookup3.specs.Lookup3.{plus, minus, rotate, mix_line, mix, final_line, final_mix, add_block, blocks, sum_of, sum_matches}
use Rattle.data_object_header.specs.Headers.{ohdr, header_fields, header, decode}
use Rattle.data_object.specs.Decoded.{counts}

-- a file with a header at its first byte, the widths, an end-of-file address, and the outcome: entries and next position, or a refusal
pub record Case : Type 0 where
  pub file : List ℕ
  pub offsets : ℕ
  pub lengths : ℕ
  pub end : ℕ
  pub outcome : Out ℕ

-- what the definition gives, with two rows lent
abbrev pub given : Case → Out ℕ
given c = counts (decode c.file c.offsets c.lengths c.end 0 (lent 2))

-- `OHDR`, version 2 and flags 0
abbrev pub opening : List ℕ
opening = 0x4F ∷ 0x48 ∷ 0x44 ∷ 0x52 ∷ 2 ∷ 0 ∷ []

-- a dataspace with one size, of three bytes; here and below the last parameter is the header's checksum
abbrev space3 : ℕ → List ℕ → List ℕ
space3 low sum = opening ++ (11 ∷ 1 ∷ 7 ∷ 0 ∷ 0 ∷ 2 ∷ 1 ∷ 0 ∷ 1 ∷ low ∷ 0x42 ∷ 0x0F ∷ []) ++ sum

-- a dataspace with one size and its maximum, of eight bytes
abbrev space8 : ℕ → List ℕ → List ℕ
space8 low sum =
    opening
    ++ (24 ∷ 1 ∷ 20 ∷ 0 ∷ 0 ∷ 2 ∷ 1 ∷ 1 ∷ 1 ∷ 1 ∷ 0 ∷ 0 ∷ 0 ∷ 0 ∷ 0 ∷ 0 ∷ 0 ∷ low ∷ 0xFF ∷ 0xFF ∷ 0xFF ∷ 0xFF ∷ 0xFF ∷ 0xFF ∷ 0xFF ∷ [])
    ++ sum

-- a text type of a size
abbrev typed : ℕ → List ℕ → List ℕ
typed size sum = opening ++ (12 ∷ 3 ∷ 8 ∷ 0 ∷ 0 ∷ 0x13 ∷ 0 ∷ 0 ∷ 0 ∷ size ∷ 0 ∷ 0 ∷ 0 ∷ []) ++ sum

-- a continuation to the block that follows the header, of a length, and the block's `OCHK`
abbrev continued : ℕ → List ℕ → List ℕ
continued length sum = opening ++ (8 ∷ 16 ∷ 4 ∷ 0 ∷ 0 ∷ 19 ∷ 0 ∷ length ∷ 0 ∷ []) ++ sum ++ (0x4F ∷ 0x43 ∷ 0x48 ∷ 0x4B ∷ [])

-- a continuation, and a contiguous layout of one byte, at 65,280 and a number of bytes more
abbrev continued_far : ℕ → List ℕ → List ℕ
continued_far low sum = opening ++ (8 ∷ 16 ∷ 4 ∷ 0 ∷ 0 ∷ low ∷ 0xFF ∷ 8 ∷ 0 ∷ []) ++ sum

abbrev stored_far : ℕ → List ℕ → List ℕ
stored_far low sum = opening ++ (10 ∷ 8 ∷ 6 ∷ 0 ∷ 0 ∷ 3 ∷ 1 ∷ low ∷ 0xFF ∷ 1 ∷ 0 ∷ []) ++ sum

-- the checksum of a block of 8 bytes
abbrev block_sum : List ℕ
block_sum = 0x9D ∷ 0xD6 ∷ 0xB8 ∷ 0x85 ∷ []

abbrev pub marked : List Case
marked =
    -- no messages
    record { file = opening ++ (0 ∷ 0xEF ∷ 0x17 ∷ 0x04 ∷ 0xAC ∷ []); offsets = 8; lengths = 8; end = 11; outcome = found 0 11 }
    -- a gap of 3 bytes
    ∷ record { file = opening ++ (3 ∷ 0x61 ∷ 0x62 ∷ 0x63 ∷ 0x89 ∷ 0xA8 ∷ 0x2F ∷ 0xFB ∷ []); offsets = 8; lengths = 8; end = 14; outcome = found 0 14 }
    -- a size of 1,000,000 and one above
    ∷ record { file = space3 0x40 (0x25 ∷ 0x90 ∷ 0xF8 ∷ 0x34 ∷ []); offsets = 8; lengths = 3; end = 22; outcome = found 1 22 }
    ∷ record { file = space3 0x41 (0x58 ∷ 0x40 ∷ 0x4F ∷ 0xCF ∷ []); offsets = 8; lengths = 3; end = 22; outcome = refused 9 }
    -- a maximum of all ones, and one below
    ∷ record { file = space8 0xFF (0x15 ∷ 0xE4 ∷ 0xCB ∷ 0x1F ∷ []); offsets = 8; lengths = 8; end = 35; outcome = found 1 35 }
    ∷ record { file = space8 0xFE (0x61 ∷ 0x10 ∷ 0xD9 ∷ 0x98 ∷ []); offsets = 8; lengths = 8; end = 35; outcome = refused 9 }
    -- a type size of 63 and of 64
    ∷ record { file = typed 63 (0x7B ∷ 0xAA ∷ 0xB1 ∷ 0xA5 ∷ []); offsets = 8; lengths = 8; end = 23; outcome = found 1 23 }
    ∷ record { file = typed 64 (0x77 ∷ 0xB3 ∷ 0x70 ∷ 0x22 ∷ []); offsets = 8; lengths = 8; end = 23; outcome = refused 11 }
    -- a continuation of length 8, which ends at end-of-file, and of 7; one that ends past it
    ∷ record { file = continued 8 (0x14 ∷ 0x9C ∷ 0x70 ∷ 0x6E ∷ []) ++ block_sum; offsets = 2; lengths = 2; end = 27; outcome = found 1 19 }
    ∷ record { file = continued 7 (0x72 ∷ 0x0A ∷ 0xF3 ∷ 0x4B ∷ []) ++ block_sum; offsets = 2; lengths = 2; end = 27; outcome = refused 19 }
    ∷ record { file = continued 9 (0x51 ∷ 0x29 ∷ 0xB9 ∷ 0xCF ∷ []) ++ block_sum; offsets = 2; lengths = 2; end = 27; outcome = refused 19 }
    -- an undefined offset, and one below it, which lies past the file; the same of a data address. End-of-file is above both.
    ∷ record { file = continued_far 0xFF (0x80 ∷ 0xB4 ∷ 0x17 ∷ 0x6C ∷ []); offsets = 2; lengths = 2; end = 70000; outcome = refused 19 }
    ∷ record { file = continued_far 0xFE (0x46 ∷ 0x21 ∷ 0xA4 ∷ 0x4F ∷ []); offsets = 2; lengths = 2; end = 70000; outcome = refused 3 }
    ∷ record { file = stored_far 0xFF (0xED ∷ 0xD4 ∷ 0x96 ∷ 0x89 ∷ []); offsets = 2; lengths = 2; end = 70000; outcome = found 1 21 }
    ∷ record { file = stored_far 0xFE (0xAA ∷ 0xA9 ∷ 0xC4 ∷ 0xD3 ∷ []); offsets = 2; lengths = 2; end = 70000; outcome = refused 3 }
    -- a checksum that does not match: of a header by its last bit, of a block by its first; one that the file's end cuts
    ∷ record { file = opening ++ (0 ∷ 0xEF ∷ 0x17 ∷ 0x04 ∷ 0x2C ∷ []); offsets = 8; lengths = 8; end = 11; outcome = refused 28 }
    ∷ record { file = continued 8 (0x14 ∷ 0x9C ∷ 0x70 ∷ 0x6E ∷ []) ++ (0x9C ∷ 0xD6 ∷ 0xB8 ∷ 0x85 ∷ []); offsets = 2; lengths = 2; end = 27; outcome = refused 28 }
    ∷ record { file = opening ++ (0 ∷ 0xEF ∷ 0x17 ∷ 0x14 ∷ []); offsets = 8; lengths = 8; end = 10; outcome = refused 3 }
    ∷ []

-- what a function gives at each case
abbrev pub each : (Case → Out ℕ) → List Case → List (Out ℕ)
each f [] = []
each f (c ∷ cs) = f c ∷ each f cs

-- the definition gives each marked case its outcome
pub marked_cases : each given marked ≡ each (λ c. c.outcome) marked
unfolding le read bind times cond group_info address defined_address continuation data_from raw_data_lem contiguous data_layout data_type type_layer data_type_header known_type known_class properties plain data_space data_space2 dimensions dimensions_from dimension maximum_sizes ochk block_end header_end plus minus rotate mix_line mix final_line final_mix add_block blocks sum_of sum_matches hold entry_by run_by block_by entry_at run_at walk entry prefix creation_order closed message_held continuation_held body plain_body layout_body ohdr header_fields header decode
marked_cases = refl
