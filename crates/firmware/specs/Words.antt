-- The words that are handed to C for a lookup, a set of names, a check and a part: each case of each answer has its number and its values. Assumes nothing: these are
-- definitions.
use Rattle.std.specs.Prelude.{ℕ, Option, Some, None, Result, Ok, Err}
use Rattle.records.specs.Refusals.{refusal_number}
use Rattle.records.specs.declared.Refusal.{Refusal}
use Rattle.records.specs.declared.Part.{Part}
use Rattle.data_object_check.specs.declared.HeaderFigures.{HeaderFigures}
use Rattle.firmware.specs.declared.PartWords.{PartWords}
use Rattle.firmware.specs.declared.LookupWords.{LookupWords}
use Rattle.firmware.specs.declared.CheckWords.{CheckWords}

abbrev pub in_words : Part → PartWords
in_words p = record { position = p.position; length = p.length }

-- no bytes, at the file's start
abbrev pub no_part : PartWords
no_part = record { position = 0; length = 0 }

-- 0, 1 and the row; zeros where there is none; the refusal's number and zeros
abbrev pub found_row : ℕ → ℕ → ℕ → LookupWords
found_row refused found row = record { refused = refused; found = found; row = row }

abbrev pub lookup_of : Result (Option ℕ) Refusal → LookupWords
lookup_of (Ok (Some i)) = found_row 0 1 i
lookup_of (Ok None) = found_row 0 0 0
lookup_of (Err r) = found_row (refusal_number r) 0 0

-- 0, or the refusal's number
abbrev pub names_of : Result (Unit {0}) Refusal → ℕ
names_of (Ok u) = 0
names_of (Err r) = refusal_number r

-- 0 and the figures; the refusal's number and zeros
abbrev pub check_of : Result HeaderFigures Refusal → CheckWords
check_of (Ok f) = record { refused = 0; next = f.next; entries = f.entries; rows = f.rows }
check_of (Err r) = record { refused = refusal_number r; next = 0; entries = 0; rows = 0 }
