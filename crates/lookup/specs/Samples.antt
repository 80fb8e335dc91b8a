-- The row count with its numbers: of a table of 24 words two rows can be looked through, and three are refusal 24. Assumes nothing.
use Rattle.std.specs.Prelude.{ℕ, ◌≡◌, refl, List, length, Option, Some, None, Result, Ok, Err}
use Rattle.std.proofs.Common.{arith}
use Rattle.records.specs.Refusals.{refusal_number}
use Rattle.records.specs.declared.Refusal.{Refusal}
use Rattle.lookup.specs.Lookup.{Looked}

module _ (file table name : List ℕ) (words : length table ≡ 24) where
  pub two_rows : (r : Refusal) → Looked file table 2 name (Err r) → ⊥
  two_rows r h = omega (arith, words, h.1)

  pub three_rows : (a : Result (Option ℕ) Refusal) → Looked file table 3 name a → (r : Refusal) × (a ≡ Err r) × (refusal_number r ≡ 24)
  three_rows (Ok (Some i)) h = absurd (omega (arith, words, h.0))
  three_rows (Ok None) h = absurd (omega (arith, words, h.0))
  three_rows (Err r) h = (r, refl, rw h.0)
