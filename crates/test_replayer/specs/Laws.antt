-- Laws of leads, of comparisons, of sums and of replaying. Assumes nothing.
use Rattle.std.specs.Prelude.{ℕ, ◌-◌, ◌*◌, ◌≤◌, ◌≡◌, Bool, true, false, List, ◌++◌, length, get_or, take, drop, replicate, eqb, Option, Result, Ok}
use Rattle.std.proofs.Common.{sym, ap, ◌∙◌, arith, length-drop, take_all, eqb-true, eq-eqb}
use Rattle.std.proofs.lemmas.List.{append_cancel_left, length-replicate}
use Rattle.format.specs.Bytes.{le}
use Rattle.format.specs.Format.{read}
use Rattle.format.specs.Laws.{sound}
use Rattle.helpers.specs.Answers.{out}
use Rattle.helpers.specs.Facts.{met}
use Rattle.records.specs.declared.Refusal.{Refusal}
use Rattle.lookup3.specs.Lookup3.{lookup3}
use Rattle.row.specs.Rows.{row_words}
use Rattle.data_object_words.specs.Handed.{Handed}
use Rattle.data_object_words.specs.Told.{rows_told}
use Rattle.test_report.specs.Follows.{Follows, Whole, start}
use Rattle.test_replayer.specs.declared.Lead.{Lead}
use Rattle.test_replayer.specs.Leads.{lead, Compared}
use Rattle.test_replayer.specs.Passes.{Sums}
use Rattle.test_replayer.specs.Replays.{Replays}

-- the file behind a lead that was read begins within the input
pub lead_inside : (s : List ℕ) {r : Result (Lead × ℕ) Refusal} {l : Lead} {q : ℕ} → out r ≡ read s lead 0 → r ≡ Ok (l, q) → q ≤ length s
unfolding lead
lead_inside s {l = l} {q = q} e f = let h = sound s lead 0 q l (met out e f) in omega (arith, h.1.1.1.0, h.1.1.1.1.0)

-- a part up to the end is what is left
pub part_rest : (n : ℕ) (s : List ℕ) → take (length s - n) (drop n s) ≡ drop n s
part_rest n s = take_all (length s - n) (drop n s) (omega (arith, length-drop n s))

-- what holds of a comparison with bytes holds of one with the text that they are
pub compared : {xs text expected : List ℕ} {b : Bool} → xs ≡ text → Compared xs expected b → Compared text expected b
compared e c = (λ h. sym e ∙ c.0 h, λ h. c.1 (e ∙ h))

-- no flag is false and true
contrary : {A : Type 0} → false ≡ true → A
contrary b = let z : ◌≡◌ {A = ℕ} 0 1 = cc in absurd (omega arith)

-- Two texts, one behind the other, of which the first was written: what is expected begins in another way, or begins with it, and then the rest
-- decides.
module _ (written first second expected : List ℕ) (same : written ≡ first) where
  pub parts_other : ((rest : List ℕ) → expected ≡ written ++ rest → ⊥) → Compared (first ++ second) expected false
  parts_other f = (λ b. contrary b, λ e. absurd (f second (rw same (sym e))))

  pub parts_same : {rest : List ℕ} {b : Bool} → expected ≡ written ++ rest → Compared second rest b → Compared (first ++ second) expected b
  parts_same {rest} e c =
      let w : expected ≡ first ++ rest = rw same at e in (
        λ h. ap (λ (l : List ℕ). first ++ l) (c.0 h) ∙ sym w,
        λ h. c.1 (append_cancel_left first second rest (h ∙ w)),
      )

-- four bytes are compared with the sum as numbers; other lengths are none
pub sum_compared : (input expected : List ℕ) {x y : ℕ} → length expected ≡ 4 → x ≡ le expected 0 4 → y ≡ lookup3 input → Sums input expected (eqb x y)
sum_compared input expected {x} {y} l e f = (λ b. (l, sym e ∙ eqb-true x y b ∙ f), λ s. eq-eqb x y (e ∙ s.1 ∙ sym f))

pub sum_other : (input expected : List ℕ) → (length expected ≡ 4 → ⊥) → Sums input expected false
sum_other input expected n = (λ b. contrary b, λ s. absurd (n s.0))

-- decoding into 64 empty rows
module _ (file : List ℕ) (l : Lead) (t w : List ℕ) (h : Handed file l.offsets l.lengths l.end_of_file l.position (length (replicate {A = ℕ} (64 * row_words) 0)) t w) where
  pub few_rows : get_or w 3 0 ≤ 64
  few_rows = omega (arith, rows_told h, length-replicate {A = ℕ} (64 * row_words) 0)

  pub answered : (text : List ℕ → List ℕ → List ℕ) (expected : List ℕ) (reached : Option ℕ) (b : Bool) → Follows expected start reached (text t w) → Whole expected reached b → Replays text expected file l b
  answered text expected reached b f v = record { table = t; words = w; handed = rw (length-replicate {A = ℕ} (64 * row_words) 0) at h; says = v (text t w) f }
