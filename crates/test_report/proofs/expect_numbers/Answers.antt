-- The first word tells a refusal from a reading, of which the numbers are met.
use Rattle.test_report.specs.Report.{numbers_of}
use borrow.Author.Tests.{ne_eqb, eq-eqb}
use Rattle.test_report.proofs.expect_numbers.Goals as goal

pub returns-then-words-ne0 : goal.returns-then-words-ne0
unfolding numbers_of
returns-then-words-ne0 c = rw (ne_eqb _ _ c.if-words-ne0.true) c.expect_refused.ensures

pub returns : goal.returns
unfolding numbers_of
returns c = rw (eq-eqb _ _ c.if-words-ne0.false) c.expect_row_numbers.ensures
