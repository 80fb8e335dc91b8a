-- What was written is the listing, so comparing it with what is expected decides.
use Rattle.std.proofs.lemmas.Bool.Decides.{Decides-eqb}
use Rattle.std.proofs.lemmas.Slice.Eq.{slice_eq-Decides}
use Rattle.test_replayer.specs.Laws.{compared}
use Rattle.test_replayer.proofs.lists.Goals as goal

pub returns : goal.returns
returns c = compared c.list-n.ensures.out_after (slice_eq-Decides Decides-eqb _ _ _ c.eq.ensures)
