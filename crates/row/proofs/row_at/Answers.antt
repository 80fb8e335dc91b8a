-- Each word is read from its place, and the calls read the name and the part.
use Rattle.row.specs.Rows.{row_at}
use Rattle.row.proofs.row_at.Goals as goal

pub returns : goal.returns
unfolding row_at
returns c = rw (c.part_at-name.ensures, c.part_at-part.ensures)
