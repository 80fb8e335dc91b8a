-- The five figures are written one after another, each in at most 21 bytes.
use Rattle.text.proofs.Laws.{then}
use Rattle.listing_text.specs.Listing.{head_of}
use Rattle.listing_text.proofs.put_head.Goals as goal

pub returns-clause-wrote : goal.returns-clause-wrote
unfolding head_of
returns-clause-wrote c = then c.put_field-at.ensures.wrote (then c.put_field-at-2.ensures.wrote (then c.put_field-at-3.ensures.wrote (then c.put_field-at-4.ensures.wrote c.put_field.ensures.wrote)))
