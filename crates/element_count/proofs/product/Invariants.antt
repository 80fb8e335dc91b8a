-- After each turn the count is the product of the sizes so far.
use Rattle.records.specs.Elements.{product, count_of}
use lib.ListN.{take}
use mathlib.Core.Path.{◌≡◌}
use Rattle.element_count.proofs.product.Given as goal

abbrev pub invariant-loop-size : goal.invariant-loop-size
invariant-loop-size l = l.count ≡ count_of (product (take l.size-index l.size-items))
