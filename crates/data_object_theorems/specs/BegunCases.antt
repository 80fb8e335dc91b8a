-- Headers that are refused, with the entries begun by then as literal numbers, computed. Assumes nothing.
use Rattle.std.specs.Prelude.{ℕ, ◌≡◌, refl, List, [], ◌∷◌, ◌++◌, map}
use Rattle.format.specs.Bytes.{le}
use Rattle.format.specs.Format.{read, bind}
use Rattle.helpers.specs.Addresses.{address, defined_address}
use Rattle.ohdr_entry.specs.Continuations.{continuation}
use Rattle.grammar.specs.Grammar.{ochk, block_end, header_end}
use Rattle.grammar.specs.Walk.{stopped, Limits, within, lent, without_table, hold, entry_by, run_by, block_by, entry_at, run_at, walk}
use Rattle.ohdr_entry.specs.Entries.{entry, prefix, creation_order, closed, message_held, continuation_held, body, plain_body}
use Rattle.lookup3.specs.Lookup3.{plus, minus, rotate, mix_line, mix, final_line, final_mix, add_block, blocks, sum_of, sum_matches}
use Rattle.data_object_header.specs.Headers.{ohdr, header_fields, header, decode}
use Rattle.data_object_theorems.specs.Cases.{opening}

-- a file with a header at its first byte, the limits, the number of the refusal, and the entries begun by then
pub record Refused : Type 0 where
  pub file : List ℕ
  pub limits : Limits
  pub number : ℕ
  pub begun : ℕ

-- a message without fields; the flags that refuse it as 8; a size that leaves the file
abbrev plain : List ℕ
plain = 0 ∷ 0 ∷ 0 ∷ 0 ∷ []

abbrev flagged : List ℕ
flagged = 0 ∷ 0 ∷ 0 ∷ 2 ∷ []

abbrev long : List ℕ
long = 0 ∷ 200 ∷ 0 ∷ 0 ∷ []

-- a continuation to a block of a length, at a position
abbrev to : ℕ → ℕ → List ℕ
to offset length = 16 ∷ 4 ∷ 0 ∷ 0 ∷ offset ∷ 0 ∷ length ∷ 0 ∷ []

-- four bytes in the place of a checksum, which do not match; `OCHK`
abbrev unmatched : List ℕ
unmatched = 1 ∷ 2 ∷ 3 ∷ 4 ∷ []

abbrev mark : List ℕ
mark = 0x4F ∷ 0x43 ∷ 0x48 ∷ 0x4B ∷ []

-- a header with a message and a continuation to the block that follows it, of 16 bytes
abbrev led : List ℕ
led = opening ++ 12 ∷ plain ++ to 23 16 ++ unmatched

abbrev pub refused_cases : List Refused
refused_cases =
    -- the second message finds no row: it is begun
    record { file = opening ++ 8 ∷ plain ++ plain ++ unmatched; limits = lent 1; number = 24; begun = 2 }
    -- a message and a continuation to their own block, in each of 25 levels: the last continuation is begun
    ∷ record { file = opening ++ 8 ∷ to 19 20 ++ unmatched ++ mark ++ plain ++ to 19 20 ++ unmatched; limits = lent 25; number = 21; begun = 51 }
    -- the third entry has a flag that refuses it, or is not closed in the file: it is begun
    ∷ record { file = opening ++ 12 ∷ plain ++ plain ++ flagged ++ unmatched; limits = without_table; number = 8; begun = 3 }
    ∷ record { file = opening ++ 12 ∷ plain ++ plain ++ long ++ unmatched; limits = without_table; number = 3; begun = 3 }
    -- a third entry where two are allowed: it is not begun, whatever it holds
    ∷ record { file = opening ++ 12 ∷ plain ++ plain ++ flagged ++ unmatched; limits = within 2 23 9; number = 23; begun = 2 }
    -- a header after its two entries: its checksum is cut, or does not match
    ∷ record { file = opening ++ 8 ∷ plain ++ plain; limits = without_table; number = 3; begun = 2 }
    ∷ record { file = opening ++ 8 ∷ plain ++ plain ++ unmatched; limits = without_table; number = 28; begun = 2 }
    -- a block, after the message and the continuation before it: it has no `OCHK`; its second message refuses; its checksum does not match after both
    ∷ record { file = led ++ plain ++ plain ++ plain ++ unmatched; limits = without_table; number = 20; begun = 2 }
    ∷ record { file = led ++ mark ++ plain ++ flagged ++ unmatched; limits = without_table; number = 8; begun = 4 }
    ∷ record { file = led ++ mark ++ plain ++ plain ++ unmatched; limits = without_table; number = 28; begun = 4 }
    -- a header's own fields
    ∷ record { file = plain ++ plain; limits = without_table; number = 4; begun = 0 }
    ∷ []

-- the definition refuses each case with its number and its entries begun
pub refused_cases_lem : map (λ (c : Refused). decode c.file 2 2 64 0 c.limits) refused_cases ≡ map (λ (c : Refused). stopped c.number c.begun) refused_cases
unfolding le read bind address defined_address continuation ochk block_end header_end plus minus rotate mix_line mix final_line final_mix add_block blocks sum_of sum_matches hold entry_by run_by block_by entry_at run_at walk entry prefix creation_order closed message_held continuation_held body plain_body ohdr header_fields header decode
refused_cases_lem = refl
