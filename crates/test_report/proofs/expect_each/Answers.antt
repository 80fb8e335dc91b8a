-- Each turn meets one row more.
use Rattle.std.proofs.Common.{add-one, ◌≡◌, rules}
use Rattle.std.proofs.lemmas.Fn.{FoldsTo-push}
use Rattle.test_report.proofs.expect_each.Goals as goal

pub loop-i-preserved : goal.loop-i-preserved
loop-i-preserved g c = rw (add-one, ← c.row_at.ensures) (FoldsTo-push _ _ _ _ _ _ c.loop-i.invariant c.expect-met.ensures)

pub returns : goal.returns
returns g c = let e : c.loop-i.i ≡ c.args.rows = search rules in rw e at c.loop-i.invariant
