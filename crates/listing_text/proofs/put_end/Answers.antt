-- The word and the two figures are written one after another.
use Rattle.text.proofs.Laws.{then}
use Rattle.listing_text.specs.Listing.{end_of}
use Rattle.listing_text.proofs.put_end.Goals as goal

pub returns : goal.returns
unfolding end_of
returns c = then c.put_text-at.ensures (then c.put_field-at.ensures.wrote c.put_field.ensures.wrote)
