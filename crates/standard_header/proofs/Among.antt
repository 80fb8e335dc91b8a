-- Numbers that a list does not have. Assumes nothing.
use Rattle.std.specs.Prelude.{ℕ, ◌≡◌, refl, Bool, true, false, ◌||◌, List, [], ◌∷◌, eqb}
use Rattle.std.proofs.Common.{arith}
use Rattle.std.proofs.lemmas.Bool.{eqb-false}
use Rattle.standard.specs.Tie.{Every}

abbrev pub among : ℕ → List ℕ → Bool
among n [] = false
among n (m ∷ ms) = eqb n m || among n ms

pub none_among : (n : ℕ) (ms : List ℕ) → among n ms ≡ false → Every (λ m. n ≡ m → ⊥) ms
none_among n [] e = tt
none_among n (m ∷ ms) e = go (eqb n m) refl e (λ f. none_among n ms f)
  where
    go : (t : Bool) → eqb n m ≡ t → (t || among n ms) ≡ false → (among n ms ≡ false → Every (λ k. n ≡ k → ⊥) ms) → (n ≡ m → ⊥) × Every (λ k. n ≡ k → ⊥) ms
    go true d e f = let z : ◌≡◌ {A = ℕ} 0 1 = cc in absurd (omega arith)
    go false d e f = (eqb-false n m d, f e)
