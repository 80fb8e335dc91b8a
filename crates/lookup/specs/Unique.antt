-- A lookup has one answer: what the contract says decides it. Assumes nothing.
use Rattle.std.specs.Prelude.{ℕ, ◌<◌, ◌≡◌, refl, List, Option, Some, None, Result, Ok, Err}
use Rattle.std.proofs.Common.{sym, ◌∙◌, ap, arith}
use Rattle.records.specs.declared.Refusal.{Refusal}
use Rattle.lookup.specs.Lookup.{Looked}

pub looked_unique : (file table : List ℕ) (rows : ℕ) (name : List ℕ) (a b : Result (Option ℕ) Refusal) → Looked file table rows name a → Looked file table rows name b → a ≡ b
looked_unique file table rows name (Ok (Some i)) (Ok (Some j)) h g =
    let less : i < j → ⊥ = λ l. g.3 i l h.2 in
    let more : j < i → ⊥ = λ l. h.3 j l g.2 in
    ap (λ (k : ℕ). Ok (Some k)) (omega (arith, less, more))
looked_unique file table rows name (Ok (Some i)) (Ok None) h g = absurd (g.1 i h.1 h.2)
looked_unique file table rows name (Ok (Some i)) (Err r) h g = absurd (omega (arith, h.0, g.1))
looked_unique file table rows name (Ok None) (Ok (Some i)) h g = absurd (h.1 i g.1 g.2)
looked_unique file table rows name (Ok None) (Ok None) h g = refl
looked_unique file table rows name (Ok None) (Err r) h g = absurd (omega (arith, h.0, g.1))
looked_unique file table rows name (Err r) (Ok (Some i)) h g = absurd (omega (arith, g.0, h.1))
looked_unique file table rows name (Err r) (Ok None) h g = absurd (omega (arith, g.0, h.1))
looked_unique file table rows name (Err r) (Err q) h g = ap Err (h.0 ∙ sym g.0)
