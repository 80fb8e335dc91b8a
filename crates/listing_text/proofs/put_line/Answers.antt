-- The head, the name and the part are written one after another.
use Rattle.listing_text.specs.Listing.{line_of}
use Rattle.text.proofs.Laws.{then}
use Rattle.listing_text.proofs.put_line.Goals as goal

pub returns-clause-wrote : goal.returns-clause-wrote
unfolding line_of
returns-clause-wrote c = then c.put_head-at.ensures.wrote (then c.put_part-at.ensures.wrote c.put_part.ensures.wrote)
