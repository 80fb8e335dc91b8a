-- A NaN's bits are a constant; any other float has its own.
use mathlib.Core.Path.{sym, ◌∙◌}
use lib.Ieee.{binary64, to_bits}
use Rattle.element_number.specs.BitFacts.{nan_bits}
use Rattle.element_number.proofs.double_bits.Goals as goal

pub returns-then-is_nan : goal.returns-then-is_nan
unfolding to_bits
returns-then-is_nan c = nan_bits binary64 _ (sym c.is_nan.ensures.value ∙ c.if-is_nan.true)
