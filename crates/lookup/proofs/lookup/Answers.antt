-- No row passed so far has the name, and of the row at hand the bytes compared so far agree.
use native.Mathlib.Omega.{arith}
use mathlib.Core.Path.{refl}
use Rattle.lookup.proofs.lookup.Goals as goal

pub returns-then-rows_in-rows : goal.returns-then-rows_in-rows
returns-then-rows_in-rows c = (refl, omega arith)
