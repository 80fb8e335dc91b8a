-- What a lookup, a set of names, a check and a part are handed over as. Assumes nothing: these are definitions.
use Rattle.std.specs.Prelude.{ℕ, ◌+◌, ◌≤◌, ◌≡◌, List, length, take, drop, leb, Option, Result}
use Rattle.format.specs.Format.{pick}
use Rattle.records.specs.declared.Refusal.{Refusal}
use Rattle.records.specs.declared.Part.{Part}
use Rattle.data_object.specs.Decoded.{bytes_of}
use Rattle.lookup.specs.Lookup.{Looked}
use Rattle.lookup_names.specs.Names.{LookedNames}
use Rattle.data_object_check.specs.declared.HeaderFigures.{HeaderFigures}
use Rattle.firmware.specs.declared.PartWords.{PartWords}
use Rattle.firmware.specs.declared.LookupWords.{LookupWords}
use Rattle.firmware.specs.declared.CheckWords.{CheckWords}
use Rattle.firmware.specs.Words.{no_part, in_words, lookup_of, names_of, check_of}

-- the words of what a lookup yields
pub record HandedRow (file table : List ℕ) (rows : ℕ) (name : List ℕ) (r : LookupWords) : Type 0 where
  pub answer : Result (Option ℕ) Refusal
  pub looked : Looked file table rows name answer
  pub words : r ≡ lookup_of answer

-- the word of what a set of names yields, and the answers that it leaves
pub record HandedNames (file table : List ℕ) (rows : ℕ) (text names : List ℕ) (lent : ℕ) (answers : List ℕ) (r : ℕ) : Type 0 where
  pub answer : Result (Unit {0}) Refusal
  pub looked : LookedNames file table rows text names lent answers answer
  pub word : r ≡ names_of answer

-- the words of what a check yields, of which P is said
pub record HandedCheck (P : Result HeaderFigures Refusal → Type 0) (r : CheckWords) : Type 0 where
  pub answer : Result HeaderFigures Refusal
  pub checked : P answer
  pub words : r ≡ check_of answer

-- the part itself where it lies in the file, and none where it leaves it; what is handed over lies in the file, and its bytes are the part's
pub record HandedPart (file : List ℕ) (p : Part) (r : PartWords) : Type 0 where
  pub itself : r ≡ pick (leb (p.position + p.length) (length file)) (in_words p) no_part
  pub inside : r.position + r.length ≤ length file
  pub bytes : take r.length (drop r.position file) ≡ bytes_of file p
