-- What the proofs of the readers cite. Assumes nothing.
use Rattle.std.specs.Prelude.{ℕ, ◌≤◌, ◌<◌, ◌≡◌, ◌⊎◌, refl, Bool, true, false, not, ◌||◌, eqb}
use Rattle.std.proofs.Common.{inl, inr, arith, eq-eqb, ne_eqb}
use Rattle.std.proofs.lemmas.Bool.{eqb-false, not-false}

-- one of two numbers, or neither, by the tests of the code
module _ (v a b : ℕ) where
  pub first_of : v ≡ a → (eqb v a || eqb v b) ≡ true
  first_of e = rw (eq-eqb v a e)

  pub second_of : not (eqb v b) ≡ false → (eqb v a || eqb v b) ≡ true
  second_of e = go (eqb v a)
    where
      go : (t : Bool) → (t || eqb v b) ≡ true
      go true = refl
      go false = not-false (eqb v b) e

  pub one_of : ((v ≡ a → ⊥) × (v ≡ b)) ⊎ (v ≡ a) → (eqb v a || eqb v b) ≡ true
  one_of (inl (n, e)) = rw (ne_eqb v a n, eq-eqb v b e)
  one_of (inr e) = rw (eq-eqb v a e)

  pub none_of : (v ≡ a → ⊥) → (v ≡ b → ⊥) → (eqb v a || eqb v b) ≡ false
  none_of n m = rw (ne_eqb v a n, ne_eqb v b m)

-- the same by the ends of a range
pub in_range : (v : ℕ) → 1 ≤ v → v < 3 → (eqb v 1 || eqb v 2) ≡ true
in_range v h k = go (eqb v 1) refl
  where
    go : (t : Bool) → eqb v 1 ≡ t → (t || eqb v 2) ≡ true
    go true e = refl
    go false e = let n = eqb-false v 1 e in eq-eqb v 2 (omega arith)

pub past_range : (v : ℕ) → 3 ≤ v → (eqb v 1 || eqb v 2) ≡ false
past_range v h = rw (ne_eqb v 1 (λ e. omega arith)) (ne_eqb v 2 (λ e. omega arith))
