-- The highest bytes of all eight in the other order are the lowest ones in the other order.
use native.Mathlib.Omega.{arith}
use Rattle.number_form.specs.Sizes.{small_size, some_size}
use Rattle.element_number.specs.Facts.{swapped_high}
use Rattle.element_number.proofs.swap_of.Goals as goal

pub overflow_mul-result : goal.overflow_mul-result
overflow_mul-result c = record { fits = omega (arith, small_size c.requires) }

pub overflow_sub-result : goal.overflow_sub-result
overflow_sub-result c = omega (arith, small_size c.requires)

pub overflow_shr-result : goal.overflow_shr-result
overflow_shr-result c = omega (arith, some_size c.requires)

pub returns : goal.returns
returns c = rw c.swap_bytes.ensures (swapped_high c.args.size c.args.v (small_size c.requires))
