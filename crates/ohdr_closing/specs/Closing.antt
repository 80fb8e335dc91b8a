-- Bytes that were passed over lie in the file. Assumes nothing.
use Rattle.std.specs.Prelude.{ℕ, ◌+◌, ◌≤◌, ◌≡◌, List, length, Result, Ok}
use Rattle.std.proofs.Common.{sym, ap, ◌∙◌, arith}
use Rattle.format.specs.Format.{skip, nothing, read}
use Rattle.format.specs.Laws.{sound}
use Rattle.helpers.specs.Answers.{place_out}
use Rattle.records.specs.declared.Refusal.{Refusal}

pub taken : (file : List ℕ) (n p : ℕ) {r : Result ℕ Refusal} {q : ℕ} → place_out r ≡ read file (skip n nothing) p → r ≡ Ok q → (p + n ≡ q) × (q ≤ length file)
taken file n p {r} {q} h e =
    let w = sound file (skip n nothing) p q tt (sym h ∙ ap place_out e) in
    (w.1.0, omega (arith, w.0, w.1.0))
