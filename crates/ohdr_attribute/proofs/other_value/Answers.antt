-- Too many elements are above the limit too; else the count is exact, and its tests are the format's.
use Rattle.helpers.specs.Facts.{handed_on}
use mathlib.Core.Path.{sym, ◌∙◌}
use native.Mathlib.Omega.{arith}
use Rattle.format.specs.Steps.{read_skip, read_done}
use Rattle.element_count.specs.Facts.{fits_count, many_count}
use Rattle.ohdr_attribute.specs.Facts.{few_bytes, no_bytes, many_bytes}
use Rattle.ohdr_attribute.specs.Attributes.{other_value}
use Rattle.ohdr_attribute.proofs.other_value.Goals as goal

pub returns-in_default : goal.returns-in_default
unfolding other_value
returns-in_default c n e = rw (many_bytes n (omega (arith, many_count n (sym c.in_default.is ∙ e))), read_done)

pub returns-then-n-lt1 : goal.returns-then-n-lt1
unfolding other_value
returns-then-n-lt1 c n e = rw (← fits_count c.in-Some.n n (sym c.in-Some.is ∙ e), no_bytes _ c.if-n-lt1.true, read_done)

pub returns-then-n-gt1048576 : goal.returns-then-n-gt1048576
unfolding other_value
returns-then-n-gt1048576 c n e = rw (← fits_count c.in-Some.n n (sym c.in-Some.is ∙ e), many_bytes _ c.if-n-gt1048576.true, read_done)

pub returns-in_err-next : goal.returns-in_err-next
unfolding other_value
returns-in_err-next c n e = rw (← fits_count c.in-Some.n n (sym c.in-Some.is ∙ e), few_bytes _ c.if-n-lt1.false c.if-n-gt1048576.false, read_skip, ← c.take.ensures, c.in_err-next.was, handed_on c.from_residual.result c.in_err-next.field-0.0 c.from_residual.ensures.1)

pub returns : goal.returns
unfolding other_value
returns c n e = rw (← fits_count c.in-Some.n n (sym c.in-Some.is ∙ e), few_bytes _ c.if-n-lt1.false c.if-n-gt1048576.false, read_skip, ← c.take.ensures, c.in_ok-next.was, read_done)
