-- What comparing a text piece by piece says. Assumes nothing: these are definitions.
use Rattle.std.specs.Prelude.{ℕ, ◌≡◌, Bool, true, List, ◌++◌, drop, Option, Some, None}

abbrev pub start : Option ℕ
start = Some 0

-- From the first place to the second, the bytes s have the text xs; or what is left of s does not begin with it. What differed before differs still.
abbrev pub Meets : List ℕ → Option ℕ → Option ℕ → List ℕ → Type 0
Meets s (Some p) (Some q) xs = drop p s ≡ xs ++ drop q s
Meets s (Some p) None xs = (zs : List ℕ) → drop p s ≡ xs ++ zs → ⊥
Meets s None (Some q) xs = ⊥
Meets s None None xs = Unit {0}

pub record Follows (s : List ℕ) (from reached : Option ℕ) (xs : List ℕ) : Type 0 where
  pub meets : Meets s from reached xs

-- a text that was met from the start up to a place: whether it is all of s
abbrev pub Whole : List ℕ → Option ℕ → Bool → Type 0
Whole s reached b = (xs : List ℕ) → Follows s start reached xs → (b ≡ true → xs ≡ s) × (xs ≡ s → b ≡ true)
