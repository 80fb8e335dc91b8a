-- Half of all numbers of so many bytes is a power of 2.
use native.Mathlib.Omega.{arith}
use Rattle.number_form.specs.Sizes.{small_size, some_size}
use Rattle.element_number.specs.Facts.{half}
use Rattle.element_number.proofs.half_of.Goals as goal

pub overflow_mul-result : goal.overflow_mul-result
overflow_mul-result c = record { fits = omega (arith, small_size c.requires) }

pub overflow_sub-result : goal.overflow_sub-result
overflow_sub-result c = omega (arith, some_size c.requires)

pub overflow_shl-result : goal.overflow_shl-result
overflow_shl-result c = omega (arith, small_size c.requires)

pub returns : goal.returns
returns c = half c.args.size (some_size c.requires) (small_size c.requires)
