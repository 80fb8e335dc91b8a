-- What the words and the rows tell is written, and it is what filling a table of 512 rows gives.
use Rattle.listing_text.proofs.Laws.{lent_listed, lent_rows}
use borrow.Author.Rules.{rules}
use Rattle.listing_text.proofs.fill_header.Goals as goal

pub put_result-requires : goal.put_result-requires
put_result-requires c = let h = lent_rows _ _ _ _ _ _ _ c.header_words.ensures.handed in (search rules, search rules)

pub returns : goal.returns
returns c = rw (lent_listed _ _ _ _ _ _ _ c.header_words.ensures.handed) at c.put_result.ensures
