-- After each turn the count is the product of the sizes so far.
use Rattle.element_count.specs.Facts.{product_more}
use Rattle.std.proofs.Common.{take}
use Rattle.records.specs.Elements.{product}
use native.Mathlib.Omega.{arith}
use mathlib.Core.Path.{refl}
use Rattle.element_count.proofs.product.Goals as goal

pub loop-size-init : goal.loop-size-init
unfolding product
loop-size-init c = refl

pub loop-size-preserved : goal.loop-size-preserved
loop-size-preserved c =
    let d = c.args.dimensions in
    rw (← product_more (take c.min-n.result d.sizes) c.loop-size.size-index (omega arith)) (c.times-count.ensures _ c.loop-size.invariant)
