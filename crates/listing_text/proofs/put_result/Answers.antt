-- The first word tells a refusal from a reading; then the lines and the end follow one another.
use borrow.Author.Tests.{eq-eqb, ne_eqb}
use Rattle.text.proofs.Laws.{then}
use Rattle.listing_text.specs.Listing.{words_text}
use Rattle.listing_text.proofs.put_result.Goals as goal

pub returns-then-refused-ne0 : goal.returns-then-refused-ne0
unfolding words_text
returns-then-refused-ne0 c = rw (ne_eqb _ _ c.if-refused-ne0.true) c.put_refused.ensures

pub returns : goal.returns
unfolding words_text
returns c = rw (eq-eqb _ _ c.if-refused-ne0.false) (then c.put_lines-at.ensures.wrote c.put_end.ensures)
