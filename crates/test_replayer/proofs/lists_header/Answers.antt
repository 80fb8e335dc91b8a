-- The listing was written: what is expected must begin with it, and what is left of it must be the line of the check.
use Rattle.std.specs.Prelude.{Some, None}
use Rattle.std.proofs.lemmas.Bool.Decides.{Decides-eqb}
use Rattle.std.proofs.lemmas.Slice.Eq.{strip_prefix_is}
use Rattle.test_replayer.specs.Laws.{parts_other, parts_same}
use Rattle.test_replayer.proofs.lists_header.Goals as goal

pub returns-in-Some : goal.returns-in-Some
returns-in-Some c = parts_same _ _ _ _ c.list_header-n.ensures.out_after (strip_prefix_is Decides-eqb _ _ (Some c.in-Some.rest) c.in-Some.ensures.cases) c.checks.ensures

pub returns-in-None : goal.returns-in-None
returns-in-None c = parts_other _ _ _ _ c.list_header-n.ensures.out_after (strip_prefix_is Decides-eqb _ _ None c.in-None.ensures.cases)
