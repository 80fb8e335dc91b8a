-- Bytes are passed over where all of them are in the file, and that is what is tested.
use Rattle.helpers.specs.Facts.{room}
use lib.ListN.{length}
use Prim.Native.Nat.{◌+◌}
use Rattle.format.specs.Steps.{skip_room}
use native.Mathlib.Omega.{arith}
use Rattle.helpers.proofs.take.Goals as goal

pub overflow_add-result : goal.overflow_add-result
overflow_add-result c = omega (arith, room (c.args.at + c.args.count) (length c.args.file.now) c.has.ensures c.if-has.true)

pub returns-then-has : goal.returns-then-has
returns-then-has c = rw (skip_room, ← c.has.ensures, c.if-has.true)

pub returns-else-has : goal.returns-else-has
returns-else-has c = rw (skip_room, ← c.has.ensures, c.if-has.false)
