-- What the proofs of the readers cite. Assumes nothing.
use Rattle.std.specs.Prelude.{ℕ, ◌+◌, ◌≤◌, ◌≡◌, Bool, true, leb, Result, Ok, Err, IsErrAnd}
use Rattle.std.proofs.Common.{sym, ap, ◌∙◌, arith, leb-true}
use Rattle.records.specs.declared.Refusal.{Refusal}

-- the bytes are there, where the test said so
pub room : {t : Bool} (m n : ℕ) → t ≡ leb m n → t ≡ true → m ≤ n
room m n e f = leb-true m n (sym e ∙ f)

-- what is at least k, and is not k, is more
pub past : {n k : ℕ} → k ≤ n → (n ≡ k → ⊥) → k + 1 ≤ n
past h e = omega arith

-- what a definition gives, from what a call ensures of its result and what the result is
pub met : {A B : Type 0} {r r' : A} {o : B} (f : A → B) → f r ≡ o → r ≡ r' → o ≡ f r'
met f h e = sym h ∙ ap f e

-- what `?` hands on is the refusal itself
pub handed_on : {A : Type 0} (r : Result A Refusal) (e : Refusal) → IsErrAnd r (λ y. y ≡ e) → r ≡ Err e
handed_on (Ok a) e h = absurd h
handed_on (Err y) e h = ap Err h
