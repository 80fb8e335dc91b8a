-- After each turn the figures so far are met.
use Rattle.test_report.specs.Report.{figures_of}
use Rattle.test_report.specs.Follows.{Follows}
use Prim.Native.Nat.{◌-◌}
use Rattle.test_report.proofs.expect_words.Given as goal

abbrev pub invariant-loop-i : goal.invariant-loop-i
invariant-loop-i l = Follows l.expected l.initial.met l.met (figures_of l.words l.first (l.i - l.first))
