-- A NaN's bits are held; the bits of any other are a float's.
use lib.Ieee.{binary32}
use native.Mathlib.Omega.{arith}
use Prim.Native.Nat.{◌%◌, ◌<◌}
use Rattle.element_number.specs.Facts.{above_infinity, up_to_infinity, plain_bits}
use Rattle.element_number.proofs.single_of.Goals as goal

pub returns-then-bits-gt2139095040 : goal.returns-then-bits-gt2139095040
returns-then-bits-gt2139095040 c =
    let h : 2139095040 < c.args.bits % 2147483648 = omega (arith, c.if-bits-gt2139095040.true) in
    rw (above_infinity binary32 c.args.bits h)

pub float_from_bits-result : goal.float_from_bits-result
float_from_bits-result c = plain_bits (up_to_infinity binary32 _ c.if-bits-gt2139095040.false)

pub returns : goal.returns
returns c = rw (up_to_infinity binary32 _ c.if-bits-gt2139095040.false)
