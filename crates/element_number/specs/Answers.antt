-- What the answers of the readers mean. Assumes nothing: these are definitions.
use Rattle.std.specs.Prelude.{ℕ, ◌*◌, ◌^◌, ◌<◌, Result, Ok, Err}
use Rattle.records.specs.declared.Refusal.{Refusal}

-- a number that was found is one of so many bytes
abbrev pub Below : Result (ℕ × ℕ) Refusal → ℕ → Type 0
Below (Ok (v, q)) w = v < 2 ^ (8 * w)
Below (Err r) w = Unit {0}
