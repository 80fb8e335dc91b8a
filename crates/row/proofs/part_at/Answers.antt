-- The first word tells whether there is a part, and the next two are its position and length.
use Rattle.row.specs.Rows.{part_at}
use borrow.Author.Tests.{eq-eqb, ne_eqb}
use Rattle.row.proofs.part_at.Goals as goal

pub returns-then-table-at-ne1 : goal.returns-then-table-at-ne1
unfolding part_at
returns-then-table-at-ne1 c = rw (ne_eqb _ _ c.if-table-at-ne1.true)

pub returns : goal.returns
unfolding part_at
returns c = rw (eq-eqb _ _ c.if-table-at-ne1.false)
