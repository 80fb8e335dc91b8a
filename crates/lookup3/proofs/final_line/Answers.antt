-- Each word is what the methods compute.
use native.Mathlib.Omega.{arith}
use Rattle.lookup3.specs.Laws.{subtracted, rotate_is}
use Rattle.lookup3.specs.Lookup3.{final_line}
use Rattle.lookup3.proofs.final_line.Goals as goal

pub returns : goal.returns
unfolding final_line
returns c = let w = c.args.w in rw (subtracted _ c.rotate_left.result (omega arith), c.rotate_left.ensures, rotate_is w.b c.args.k (omega arith) (omega arith) (omega arith))
