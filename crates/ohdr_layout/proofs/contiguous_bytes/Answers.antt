-- Of fewer bytes than the size, the first so many are all of them.
use lib.Seq.{take_all}
use lib.Seq.{length-take-le}
use native.Mathlib.Omega.{arith}
use mathlib.Core.Path.{sym}
use Rattle.ohdr_layout.proofs.contiguous_bytes.Goals as goal

pub returns-then-from-size : goal.returns-then-from-size
returns-then-from-size c = sym (take_all c.args.size c.args.from.now (omega arith))

pub slice_bounds-result-end : goal.slice_bounds-result-end
slice_bounds-result-end c = sym (length-take-le c.args.size c.args.from.now c.if-from-size.false)
