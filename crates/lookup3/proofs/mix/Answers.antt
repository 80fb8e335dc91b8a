-- Six lines, each what its call promises.
use Rattle.lookup3.specs.Lookup3.{mix}
use Rattle.lookup3.proofs.mix.Goals as goal

pub returns : goal.returns
unfolding mix
returns c = rw (← c.mix_line.ensures, ← c.mix_line-2.ensures, ← c.mix_line-first.ensures, ← c.mix_line-3.ensures, ← c.mix_line-4.ensures, ← c.mix_line-5.ensures)
