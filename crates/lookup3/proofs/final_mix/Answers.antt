-- Seven lines, each what its call promises; the answer is a word of the last.
use Rattle.lookup3.specs.Lookup3.{final_mix}
use Rattle.lookup3.proofs.final_mix.Goals as goal

pub returns : goal.returns
unfolding final_mix
returns c = cc
