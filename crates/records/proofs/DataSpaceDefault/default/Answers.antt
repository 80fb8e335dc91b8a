-- No sizes make one element.
use Rattle.std.proofs.Common.{refl}
use Rattle.records.specs.Elements.{product}
use Rattle.records.proofs.DataSpaceDefault.default.Goals as goal

pub returns : goal.returns
unfolding product
returns c = (rw (c.default.ensures, c.default-2.ensures), rw c.default.ensures refl)
