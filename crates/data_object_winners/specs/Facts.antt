-- The rows of a table, none and one more; and what is read, or the default. Assumes nothing.
use Rattle.std.specs.Prelude.{ℕ, zero, suc, ◌+◌, ◌-◌, ◌≡◌, refl, List, set, ltb, Some, Result, Ok, Err, MatchResult, IfOk}
use Rattle.std.proofs.Common.{ap, ◌∙◌, arith}
use Rattle.format.specs.Format.{pick, Out}
use Rattle.records.specs.Defaults.{default_data_space}
use Rattle.records.specs.declared.DataSpace.{DataSpace}
use Rattle.records.specs.declared.Refusal.{Refusal}
use Rattle.records.specs.Elements.{TrueSpace}
use Rattle.helpers.specs.Answers.{out}
use Rattle.row.specs.Rows.{row_at}
use Rattle.data_object_winners.specs.Winners.{last_rows, body_of, value_or}

-- the rows of a table: none, and one more
pub last_none : (l t : List ℕ) → last_rows l t 0 ≡ l
unfolding last_rows
last_none l t = refl

pub last_more : (l t : List ℕ) (n : ℕ) → last_rows l t (n + 1) ≡ pick (ltb (row_at t n).kind 22) (set (last_rows l t n) (row_at t n).kind (n + 1)) (last_rows l t n)
unfolding last_rows
last_more l t n = let e : n + 1 ≡ suc n = omega arith in rw e

-- a row of a number above 0
pub body_some : (t : List ℕ) (row : ℕ) → (row ≡ 0 → ⊥) → body_of t row ≡ Some (row_at t (row - 1)).body
body_some t zero h = absurd (h refl)
body_some t (suc n) h = let e : suc n - 1 ≡ n = omega arith in rw e

-- what is read, or the default where it is refused
pub read_or_default : {A : Type 0} (a : A) (r : Result (A × ℕ) Refusal) (v : A) {o : Out A} → out r ≡ o → MatchResult r (λ p. v ≡ p.0) (λ _. v ≡ a)
    → v ≡ value_or a o
read_or_default a (Ok (x, q)) v e h = h ∙ ap (value_or a) e
read_or_default a (Err x) v e h = h ∙ ap (value_or a) e

-- the same of a dataspace, of which more is known: what is read is true, and so is the default
module _ (r : Result (DataSpace × ℕ) Refusal) (v : DataSpace) where
  pub space_or_default : MatchResult r (λ p. v ≡ p.0) (λ _. (v ≡ default_data_space) × TrueSpace v) → MatchResult r (λ p. v ≡ p.0) (λ _. v ≡ default_data_space)
  space_or_default h = go r h
    where
      go : (r : Result (DataSpace × ℕ) Refusal) → MatchResult r (λ p. v ≡ p.0) (λ _. (v ≡ default_data_space) × TrueSpace v) → MatchResult r (λ p. v ≡ p.0) (λ _. v ≡ default_data_space)
      go (Ok (x, q)) h = h
      go (Err x) h = h.0

  pub true_or_default : IfOk r (λ p. TrueSpace p.0) → MatchResult r (λ p. v ≡ p.0) (λ _. (v ≡ default_data_space) × TrueSpace v) → TrueSpace v
  true_or_default t h = go r t h
    where
      go : (r : Result (DataSpace × ℕ) Refusal) → IfOk r (λ p. TrueSpace p.0) → MatchResult r (λ p. v ≡ p.0) (λ _. (v ≡ default_data_space) × TrueSpace v) → TrueSpace v
      go (Ok (x, q)) t h = rw h t
      go (Err x) t h = h.1
