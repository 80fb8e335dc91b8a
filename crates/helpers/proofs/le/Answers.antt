-- A number is read where as many bytes as its size are in the file, and that is what is tested.
use Rattle.helpers.specs.Facts.{room}
use Rattle.format.specs.BytesLaws.{le_below}
use Rattle.format.specs.Steps.{number_room}
use native.Mathlib.Omega.{arith}
use Rattle.helpers.proofs.le.Goals as goal

pub bytes_of-requires : goal.bytes_of-requires
bytes_of-requires c = (omega arith, omega (arith, room _ _ c.has.ensures c.if-has.true))

pub overflow_add-result : goal.overflow_add-result
overflow_add-result c = omega (arith, room _ _ c.has.ensures c.if-has.true)

pub returns-then-has-clause-value : goal.returns-then-has-clause-value
returns-then-has-clause-value c = rw (number_room, ← c.has.ensures, c.if-has.true, ← c.bytes_of.ensures)

pub returns-then-has-clause-below : goal.returns-then-has-clause-below
returns-then-has-clause-below c = rw c.bytes_of.ensures (le_below c.args.file.now (λ i. omega (arith, c.type_inv.file i)) c.args.at c.args.size)

pub returns-else-has-clause-value : goal.returns-else-has-clause-value
returns-else-has-clause-value c = rw (number_room, ← c.has.ensures, c.if-has.false)
