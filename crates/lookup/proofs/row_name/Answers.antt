-- Each test is a part of what a row with such a name is, so only a row that passes them all is one.
use native.Mathlib.Omega.{arith}
use Rattle.lookup.specs.Facts.{attribute_name, no_name, other_name}
use Rattle.lookup.proofs.row_name.Goals as goal

pub returns-then-row-ne-ATTRIBUTE : goal.returns-then-row-ne-ATTRIBUTE
returns-then-row-ne-ATTRIBUTE c = rw (← c.row_at-row.ensures) (λ p h. omega (arith, h.attribute))

pub returns-in_err-part : goal.returns-in_err-part
returns-in_err-part c = rw (← c.row_at-row.ensures, c.from_residual.ensures) (no_name c.in_err-part.was)

pub returns-then-part-wanted : goal.returns-then-part-wanted
returns-then-part-wanted c = rw (← c.row_at-row.ensures) (other_name c.in_ok-part.was (λ l h. omega arith))

pub returns-then-file-part : goal.returns-then-file-part
returns-then-file-part c = rw (← c.row_at-row.ensures) (other_name c.in_ok-part.was (λ l h. omega arith))

pub returns-then-file-part-2 : goal.returns-then-file-part-2
returns-then-file-part-2 c = rw (← c.row_at-row.ensures) (other_name c.in_ok-part.was (λ l h. omega arith))

pub returns : goal.returns
returns c = rw (← c.row_at-row.ensures) (attribute_name (omega arith) c.in_ok-part.was (omega arith) (omega arith))
