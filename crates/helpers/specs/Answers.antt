-- What the answers of the field readers mean. Assumes nothing: these are definitions.
use Rattle.std.specs.Prelude.{ℕ, leb, Result, Ok, Err}
use Rattle.format.specs.Format.{Format, done, number, check, Out, found, refused}
use Rattle.records.specs.Refusals.{refusal_number}
use Rattle.records.specs.declared.Refusal.{Refusal}

-- a value and the position after it, or a refusal by its number
abbrev pub out : {A : Type 0} → Result (A × ℕ) Refusal → Out A
out (Ok (a, q)) = found a q
out (Err r) = refused (refusal_number r)

-- the position after fields of which nothing is kept, or a refusal by its number
abbrev pub place_out : Result ℕ Refusal → Out (Unit {0})
place_out (Ok q) = found tt q
place_out (Err r) = refused (refusal_number r)

-- a number of a width that is given: one above 8 bytes is no number here, and is refused as a width
abbrev pub sized : ℕ → Format ℕ
sized w = check (leb w 8) 1 (number w done)
