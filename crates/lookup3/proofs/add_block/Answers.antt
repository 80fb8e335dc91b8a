-- Each word is the number in four bytes, added.
use Rattle.lookup3.specs.Lookup3.{add_block, plus}
use Rattle.lookup3.proofs.add_block.Goals as goal

pub returns : goal.returns
unfolding add_block plus
returns c = rw (c.bytes_4.ensures.0, c.bytes_4-2.ensures.0, c.bytes_4-3.ensures.0)
