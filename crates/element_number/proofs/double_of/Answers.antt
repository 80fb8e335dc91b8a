-- A NaN's bits are held; the bits of any other are a float's.
use lib.Ieee.{binary64}
use Rattle.element_number.specs.Facts.{above_infinity, up_to_infinity, plain_bits}
use Rattle.element_number.proofs.double_of.Goals as goal

pub returns-then-bits-gt9218868437227405312 : goal.returns-then-bits-gt9218868437227405312
returns-then-bits-gt9218868437227405312 c = rw (above_infinity binary64 _ c.if-bits-gt9218868437227405312.true)

pub float_from_bits-result : goal.float_from_bits-result
float_from_bits-result c = plain_bits (up_to_infinity binary64 _ c.if-bits-gt9218868437227405312.false)

pub returns : goal.returns
returns c = rw (up_to_infinity binary64 _ c.if-bits-gt9218868437227405312.false)
