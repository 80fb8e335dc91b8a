-- After each turn the figures so far are met, and the last ends the line.
use Rattle.test_report.specs.Laws.{figures_none, figures_more}
use Rattle.test_report.specs.Report.{words_line}
use Rattle.test_report.specs.FollowsLaws.{then, follows_none}
use Rattle.std.proofs.Common.{◌≡◌, ◌≤◌, arith, rules}
use Rattle.test_report.proofs.expect_words.Goals as goal

pub loop-i-init : goal.loop-i-init
loop-i-init c = rw figures_none (follows_none _ _)

pub loop-i-preserved : goal.loop-i-preserved
loop-i-preserved c = let h : c.args.first ≤ c.loop-i.i = omega arith in rw (figures_more _ _ _ h) (then c.loop-i.invariant c.expect_field-met.ensures)

pub returns : goal.returns
unfolding words_line
returns c = let e : c.loop-i.i ≡ c.args.last = search rules in then (rw e at c.loop-i.invariant) c.expect_field.ensures
