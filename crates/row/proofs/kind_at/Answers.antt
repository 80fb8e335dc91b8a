-- The type is the first word of its row.
use Rattle.row.specs.Rows.{row_at}
use mathlib.Core.Path.{refl}
use Rattle.row.proofs.kind_at.Goals as goal

pub returns : goal.returns
unfolding row_at
returns c = refl
