-- A count is exact and is multiplied; too many stay too many, unless they are taken no times.
use Rattle.element_count.specs.Facts.{checked_count, fits_count}
use mathlib.Core.Path.{sym, ◌∙◌}
use Rattle.element_count.proofs.times.Goals as goal

pub returns-in-Some : goal.returns-in-Some
returns-in-Some c = λ m e. rw (← fits_count _ m (sym c.in-Some.is ∙ e)) (checked_count _ _ c.checked_mul.ensures)
