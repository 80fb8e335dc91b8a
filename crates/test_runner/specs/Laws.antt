-- Laws of a file of cases. Assumes nothing.
use Rattle.std.specs.Prelude.{ℕ, ◌+◌, ◌-◌, ◌≤◌, ◌<◌, ◌≡◌, refl, List, drop, Result, Ok, Err, Some, None}
use Rattle.std.proofs.Common.{sym, ◌∙◌}
use Rattle.std.proofs.Math.Path.{ap}
use native.Mathlib.Omega.{arith}
use Rattle.std.proofs.Math.ListN.{length, take}
use Rattle.std.specs.Result.{result_ok}
use Rattle.records.specs.declared.Refusal.{Refusal}
use Rattle.records.specs.Refusals.{refusal_number}
use Rattle.helpers.specs.Answers.{out}
use Rattle.format.specs.Bytes.{le}
use Rattle.format.specs.Format.{done, number, read}
use Rattle.format.specs.Laws.{sound, none}
use Rattle.test_runner.specs.declared.Case.{Case}
use Rattle.test_runner.specs.Cases.{part_end, part_bytes, input_at, expected_at, case_end, CaseIs, InOrder}

module _ (s : List ℕ) (at : ℕ) where
  pub part_later : at + 4 ≤ part_end s at
  unfolding part_end
  part_later = omega arith

  -- the bytes from the length's end to the part's end
  pub part_is : (e : ℕ) → e ≡ part_end s at → take (e - (at + 4)) (drop (at + 4) s) ≡ part_bytes s at
  unfolding part_end part_bytes
  part_is e h = let n : e - (at + 4) ≡ le s at 4 = omega arith in ap (λ (k : ℕ). take k (drop (at + 4) s)) n

  -- a length that is read, or not
  pub length-read : (r : Result (ℕ × ℕ) Refusal) (v q : ℕ) → out r ≡ read s (number 4 done) at → result_ok r ≡ Some (v, q) → (q + v ≡ part_end s at) × (q ≤ length s)
  unfolding part_end
  length-read (Ok (x, p)) v q e f =
      let both : ◌≡◌ {A = ℕ × ℕ} (x, p) (v, q) = cc in
      let g : x ≡ v = ap (λ (w : ℕ × ℕ). w.0) both in
      let k : p ≡ q = ap (λ (w : ℕ × ℕ). w.1) both in
      let h = sound s (number 4 done) at p x (sym e) in
      (omega (arith, h.1.0, h.1.1, g, k), omega (arith, h.0, h.1.0, k))
  length-read (Err x) v q e f = let z : ⊥ = cc in absurd z

  pub length-short : (r : Result (ℕ × ℕ) Refusal) → out r ≡ read s (number 4 done) at → result_ok r ≡ None → length s < part_end s at
  unfolding part_end
  length-short (Ok (x, p)) e f = let z : ⊥ = cc in absurd z
  length-short (Err x) e f =
      let g : at + 4 ≤ length s → ⊥ = λ h. none s (number 4 done) at (refusal_number x) (sym e) (at + 4) (le s at 4) (h, (refl, refl)) in
      omega arith

-- the three parts of a case, one after another; the first of them that is cut off cuts the case off
module _ (s : List ℕ) (at : ℕ) where
  pub cut_name : length s < part_end s at → length s < case_end s at
  cut_name h = omega (arith, part_later s (input_at s at), part_later s (expected_at s at))

  module _ (n : ℕ) (a : n ≡ part_end s at) where
    pub cut_input : length s < part_end s n → length s < case_end s at
    cut_input h = let e : part_end s n ≡ expected_at s at = ap (part_end s) a in omega (arith, part_later s (expected_at s at))

    module _ (m : ℕ) (b : m ≡ part_end s n) where
      input_end : m ≡ expected_at s at
      input_end = b ∙ ap (part_end s) a

      pub cut_expected : length s < part_end s m → length s < case_end s at
      cut_expected h = let e : part_end s m ≡ case_end s at = ap (part_end s) input_end in omega arith

      pub case_is : (e : ℕ) → e ≡ part_end s m → e ≤ length s → CaseIs s at (record { name_end = n; input_end = m; end = e })
      case_is e c h = record { name_end = a; input_end = input_end; end = c ∙ ap (part_end s) input_end; inside = h }

-- and their order
module _ {s : List ℕ} {at : ℕ} {c : Case} (h : CaseIs s at c) where
  pub case_order : InOrder s at c
  case_order =
      record {
        name = omega (arith, h.name_end, part_later s at);
        input = omega (arith, h.name_end, h.input_end, part_later s (input_at s at));
        expected = omega (arith, h.input_end, h.end, part_later s (expected_at s at));
        inside = h.inside;
      }

  pub input_is : take (c.input_end - (c.name_end + 4)) (drop (c.name_end + 4) s) ≡ part_bytes s (input_at s at)
  input_is = part_is s c.name_end c.input_end (h.input_end ∙ ap (part_end s) (sym h.name_end)) ∙ ap (part_bytes s) h.name_end

  pub expected_is : take (c.end - (c.input_end + 4)) (drop (c.input_end + 4) s) ≡ part_bytes s (expected_at s at)
  expected_is = part_is s c.input_end c.end (h.end ∙ ap (part_end s) (sym h.input_end)) ∙ ap (part_bytes s) h.input_end
