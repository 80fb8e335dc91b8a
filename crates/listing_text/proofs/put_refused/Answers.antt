-- The word and the number are written one after another.
use Rattle.text.proofs.Laws.{then}
use Rattle.listing_text.specs.Listing.{refused_of}
use Rattle.listing_text.proofs.put_refused.Goals as goal

pub returns : goal.returns
unfolding refused_of
returns c = then c.put_text-at.ensures c.put_field.ensures.wrote
