-- After each turn one name more has its answer.
use native.Mathlib.Omega.{arith}
use Rattle.lookup_names.specs.Facts.{one_more}
use Rattle.lookup_names.proofs.lookup_names.Goals as goal

pub loop-k-preserved : goal.loop-k-preserved
loop-k-preserved c = one_more c.lookup_name-answer.result (omega arith) c.loop-k.invariant c.lookup_name-answer.ensures
