-- Each word is the number in four bytes, those that are not there being zero, added.
use Rattle.lookup3.specs.Lookup3.{add_block, plus}
use Rattle.lookup3.proofs.add_last.Goals as goal

pub returns : goal.returns
unfolding add_block plus
returns c = rw (c.word.ensures, c.word-2.ensures, c.word-3.ensures)
