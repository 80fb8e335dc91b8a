-- The figure or the hyphen and then the end are written one after another.
use Rattle.text.proofs.Laws.{then}
use Rattle.text.specs.Text.{field}
use Rattle.text.proofs.put_field.Goals as goal

pub returns-clause-wrote : goal.returns-clause-wrote
unfolding field
returns-clause-wrote c = then c.put_figure-last.ensures.wrote c.put_byte.ensures
