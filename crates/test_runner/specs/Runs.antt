-- A run of a file of cases, as a loop goes through it. Assumes nothing.
use Rattle.std.specs.Prelude.{ℕ, ◌+◌, ◌≤◌, ◌<◌, ◌≡◌, refl, Bool, true, false, List, length, Some, None}
use Rattle.std.proofs.Common.{sym, inl, inr, arith}
use Rattle.test_runner.specs.declared.Case.{Case}
use Rattle.test_runner.specs.declared.Summary.{Summary}
use Rattle.test_runner.specs.Cases.{counted, StepIs, Ran, begun, goes, Tallied}
use Rattle.test_runner.specs.Laws.{case_order}

run_more : (t : Summary) (b : Bool) → (counted t b).run ≡ t.run + 1
run_more t true = refl
run_more t false = refl

failed_more : (t : Summary) (b : Bool) → (counted t b).failed ≤ t.failed + 1
failed_more t true = omega arith
failed_more t false = omega arith

module _ (P : List ℕ → List ℕ → Bool → Type 0) (s : List ℕ) where
  -- the loop's invariant
  pub record Going (at : ℕ) (t : Summary) : Type 0 where
    pub inside : at ≤ length s
    pub run : t.run ≤ at
    pub failed : t.failed ≤ t.run
    pub ran : Ran P s at t

  pub going_begins : Going 0 (record { run = 0; failed = 0; whole = true })
  going_begins = record { inside = omega arith; run = omega arith; failed = omega arith; ran = begun }

  module _ {at : ℕ} {t : Summary} (g : Going at t) where
    pub going_on : {b : Bool} {c : Case} → StepIs P s at (Some (b, c)) → Going c.end (counted t b)
    going_on {b} {c} h =
        record {
          inside = h.0.inside;
          run = omega (arith, g.run, run_more t b, (case_order h.0).name, (case_order h.0).input, (case_order h.0).expected);
          failed = omega (arith, g.failed, run_more t b, failed_more t b);
          ran = rw h.0.end (goes b g.ran (rw (sym h.0.end) h.0.inside) h.1);
        }

    pub tallied_whole : length s ≤ at → Tallied P s t
    tallied_whole h = record { stop = at; tally = t; ran = g.ran; ended = inl (omega (arith, g.inside), refl) }

    pub tallied_cut : at < length s → StepIs P s at None → Tallied P s (record { run = t.run; failed = t.failed; whole = false })
    tallied_cut h d = record { stop = at; tally = t; ran = g.ran; ended = inr (h, d, refl) }
