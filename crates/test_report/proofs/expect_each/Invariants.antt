-- After each turn the rows so far are met.
use Rattle.std.specs.List.{FoldsTo}
use Rattle.row.specs.Rows.{first_rows}
use Rattle.test_report.proofs.expect_each.Given as goal

abbrev pub invariant-loop-i : goal.invariant-loop-i
invariant-loop-i g l = FoldsTo (λ met row next. g.F.Fn.post l.expect (met, (row, tt)) next) l.initial.met (first_rows l.table l.i) l.met
