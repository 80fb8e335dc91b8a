-- The part from one place to the other is the bytes that the definition takes.
use Rattle.lookup3.specs.Lookup3.{sum_matches}
use Rattle.lookup3.proofs.checksum_matches.Goals as goal

pub returns : goal.returns
unfolding sum_matches
returns c = rw (← c.bytes_4-stored.ensures.0, ← c.lookup3-sum.ensures)
