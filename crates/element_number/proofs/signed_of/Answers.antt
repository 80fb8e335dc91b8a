-- From half on a number is as far below zero as it lacks of all.
use Rattle.element_number.specs.Facts.{made_fits, made_low, made_high}
use Rattle.element_number.proofs.signed_of.Goals as goal

pub overflow_sub-result-else-v-half-3 : goal.overflow_sub-result-else-v-half-3
overflow_sub-result-else-v-half-3 c = made_fits _ _ c.if-v-half.false c.requires.2 c.requires.1

pub returns-then-v-half : goal.returns-then-v-half
returns-then-v-half c = made_low _ _ c.if-v-half.true c.requires.1

pub returns-else-v-half : goal.returns-else-v-half
returns-else-v-half c = made_high _ _ c.if-v-half.false c.requires.2 c.requires.1
