-- What the proofs of the records' words cite. Assumes nothing.
use Rattle.std.specs.Prelude.{ℕ, ◌≡◌, Option, Some, None, MatchOption, IsSomeAnd}
use Rattle.std.proofs.Common.{ap}

-- an optional number whose type is made wider is the same
pub wider : (o r : Option ℕ) → MatchOption o (r ≡ None) (λ x. IsSomeAnd r (λ y. y ≡ x)) → r ≡ o
wider None r h = h
wider (Some x) (Some y) h = ap Some h
wider (Some x) None h = absurd h
