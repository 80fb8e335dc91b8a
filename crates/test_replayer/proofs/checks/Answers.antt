-- What was written is the line of the check, so comparing it with what is expected decides.
use mathlib.Core.Path.{ap, ◌∙◌}
use Rattle.std.proofs.lemmas.Bool.Decides.{Decides-eqb}
use Rattle.std.proofs.lemmas.Slice.Eq.{slice_eq-Decides}
use Rattle.listing_text.proofs.Laws.{wrote_all, wrote_counts}
use Rattle.test_replayer.specs.Checks.{check_line, check_text}
use Rattle.test_replayer.specs.Laws.{compared}
use Rattle.test_replayer.proofs.checks.Goals as goal

pub slice_bounds-line-end : goal.slice_bounds-line-end
slice_bounds-line-end c = (wrote_counts c.put_checked-n.ensures).0

pub returns : goal.returns
unfolding check_text
returns c = compared (wrote_all c.put_checked-n.ensures ∙ ap check_line c.check_data_object-answer.ensures.answer) (slice_eq-Decides Decides-eqb _ _ _ c.eq.ensures)
