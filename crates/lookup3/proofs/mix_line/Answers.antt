-- Each word is what the methods compute.
use native.Mathlib.Omega.{arith}
use Rattle.lookup3.specs.Laws.{subtracted, rotate_is}
use Rattle.lookup3.specs.Lookup3.{mix_line, plus}
use Rattle.lookup3.proofs.mix_line.Goals as goal

pub returns : goal.returns
unfolding mix_line plus
returns c = let w = c.args.w in rw (subtracted w.a w.c (omega arith), c.rotate_left.ensures, rotate_is w.c c.args.k (omega arith) (omega arith) (omega arith))
