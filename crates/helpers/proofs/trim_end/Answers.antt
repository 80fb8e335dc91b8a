-- A text is read where all its bytes are in the file, and its length is what the call counts.
use Rattle.helpers.specs.Facts.{room}
use lib.ListN.{length}
use Prim.Native.Nat.{◌+◌}
use Rattle.format.specs.Steps.{text_room}
use native.Mathlib.Omega.{arith}
use Rattle.helpers.proofs.trim_end.Goals as goal

pub text_length-requires : goal.text_length-requires
text_length-requires c = omega (arith, room (c.args.at + c.args.count) (length c.args.file.now) c.has.ensures c.if-has.true)

pub overflow_add-result : goal.overflow_add-result
overflow_add-result c = omega (arith, room (c.args.at + c.args.count) (length c.args.file.now) c.has.ensures c.if-has.true)

pub returns-then-has : goal.returns-then-has
returns-then-has c = rw (text_room, ← c.has.ensures, c.if-has.true, ← c.text_length.ensures.0)

pub returns-else-has : goal.returns-else-has
returns-else-has c = rw (text_room, ← c.has.ensures, c.if-has.false)
