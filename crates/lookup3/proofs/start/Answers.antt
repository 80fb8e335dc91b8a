-- The remainder of the length may be taken before.
use Rattle.lookup3.specs.Laws.{started}
use Rattle.lookup3.proofs.start.Goals as goal

pub returns : goal.returns
returns c = rw (started c.args.length)
