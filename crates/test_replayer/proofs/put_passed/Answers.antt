-- The word and the three figures are written one after another.
use Rattle.text.proofs.Laws.{then}
use Rattle.test_replayer.specs.Checks.{passed_line}
use Rattle.test_replayer.proofs.put_passed.Goals as goal

pub returns : goal.returns
unfolding passed_line
returns c = then c.put_text-at.ensures (then c.put_field-at.ensures.wrote (then c.put_field-at-2.ensures.wrote c.put_field.ensures.wrote))
