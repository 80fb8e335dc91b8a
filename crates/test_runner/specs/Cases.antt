-- A file of cases, and a run of them. Assumes nothing: these are definitions.
use Rattle.std.specs.Prelude.{ℕ, ◌+◌, ◌≤◌, ◌<◌, ◌≡◌, ◌⊎◌, Bool, true, false, List, length, take, drop, Option, Some, None, Result, IfOk}
use Rattle.format.specs.Bytes.{le}
use Rattle.test_runner.specs.declared.Case.{Case}
use Rattle.test_runner.specs.declared.Summary.{Summary}
use Rattle.test_runner.specs.declared.NotRun.{NotRun}

-- the end of the part at a position: its length in 4 bytes, and its bytes
unfoldable pub part_end : List ℕ → ℕ → ℕ
part_end s at = at + 4 + le s at 4

-- and its bytes
unfoldable pub part_bytes : List ℕ → ℕ → List ℕ
part_bytes s at = take (le s at 4) (drop (at + 4) s)

abbrev pub Ends : List ℕ → ℕ → Option ℕ → Type 0
Ends s at (Some e) = (e ≡ part_end s at) × (e ≤ length s)
Ends s at None = length s < part_end s at

-- of the case at a position: where its input and what is expected stand, and where it ends
abbrev pub input_at : List ℕ → ℕ → ℕ
input_at s at = part_end s at

abbrev pub expected_at : List ℕ → ℕ → ℕ
expected_at s at = part_end s (input_at s at)

abbrev pub case_end : List ℕ → ℕ → ℕ
case_end s at = part_end s (expected_at s at)

pub record CaseIs (s : List ℕ) (at : ℕ) (c : Case) : Type 0 where
  pub name_end : c.name_end ≡ input_at s at
  pub input_end : c.input_end ≡ expected_at s at
  pub end : c.end ≡ case_end s at
  pub inside : c.end ≤ length s

-- its parts lie in the file, one behind the other, each behind its length
pub record InOrder (s : List ℕ) (at : ℕ) (c : Case) : Type 0 where
  pub name : at + 4 ≤ c.name_end
  pub input : c.name_end + 4 ≤ c.input_end
  pub expected : c.input_end + 4 ≤ c.end
  pub inside : c.end ≤ length s

-- a case that is not in the file as a whole is damaged
abbrev pub CaseOut : List ℕ → ℕ → Option Case → Type 0
CaseOut s at (Some c) = CaseIs s at c
CaseOut s at None = length s < case_end s at

-- a case more, which passed or failed
abbrev pub counted : Summary → Bool → Summary
counted t true = record { run = t.run + 1; failed = t.failed; whole = t.whole }
counted t false = record { run = t.run + 1; failed = t.failed + 1; whole = t.whole }

-- P input expected b: what it says that a case passed, or failed
module _ (P : List ℕ → List ℕ → Bool → Type 0) (s : List ℕ) where
  -- the case at a position, with its own input and what is expected of it
  abbrev pub Judged : ℕ → Bool → Type 0
  Judged at b = P (part_bytes s (input_at s at)) (part_bytes s (expected_at s at)) b

  abbrev pub StepIs : ℕ → Option (Bool × Case) → Type 0
  StepIs at (Some (b, c)) = CaseIs s at c × Judged at b
  StepIs at None = length s < case_end s at

  -- the cases from the start up to a position, each judged, and their count
  pub data Ran : ℕ → Summary → Type 0 where
    begun : Ran 0 (record { run = 0; failed = 0; whole = true })
    goes : {at : ℕ} {t : Summary} (b : Bool) → Ran at t → case_end s at ≤ length s → Judged at b → Ran (case_end s at) (counted t b)

  -- what a run says: the file's cases are counted up to its end, or up to one that is damaged
  pub record Tallied (r : Summary) : Type 0 where
    pub stop : ℕ
    pub tally : Summary
    pub ran : Ran stop tally
    pub ended :
        ((stop ≡ length s) × (r ≡ tally))
        ⊎ ((stop < length s) × (length s < case_end s stop) × (r ≡ record { run = tally.run; failed = tally.failed; whole = false }))

-- a file that was loaded leaves a byte of the buffer free
abbrev pub Loads : Result ℕ NotRun → List ℕ → Type 0
Loads r buf = IfOk r (λ n. n < length buf)

-- the run of a file that was loaded is that of the bytes at the start of the buffer
module _ (P : List ℕ → List ℕ → Bool → Type 0) (buf : List ℕ) where
  pub record LoadedRun (r : Summary) : Type 0 where
    pub count : ℕ
    pub free : count < length buf
    pub tallied : Tallied P (take count buf) r

  abbrev pub RunOf : Result Summary NotRun → Type 0
  RunOf r = IfOk r LoadedRun
