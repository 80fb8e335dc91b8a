-- IV.A.2.d, The Datatype Message: what a datatype element of the classes fixed-point and floating-point is, by the tables of their class bit
-- fields and properties. Assumes nothing: these are definitions.
use Rattle.std.specs.Prelude.{ℕ, suc, ◌-◌, ◌^◌, List, eqb, ltb, ℤ, pos, negsuc}
use Rattle.format.specs.Bytes.{le, be}
use Rattle.format.specs.Format.{pick}
use Rattle.standard.specs.Datatypes.{DatatypeHeader, FixedPoint, FloatingPoint}
use Rattle.standard.specs.DatatypeRules.{bits}

-- The bits of an element, as one number. Byte Order, bit 0 of both classes: 0 is little-endian, 1 big-endian. A float whose bit 6 is set too is
-- VAX-endian, which is not said here.
abbrev pub element_bits : List ℕ → DatatypeHeader → ℕ → ℕ
element_bits s h p = pick (eqb (bits h.class_bit_field 0 1) 1) (be s p h.size) (le s p h.size)

-- Fixed-point: Bit Precision bits, from Bit Offset on. Signed, bit 3: where it is 1 they are in 2's complement.
abbrev pub twos_complement : ℕ → ℕ → ℤ
twos_complement precision v = pick (ltb v (2 ^ (precision - 1))) (pos v) (negsuc (2 ^ precision - suc v))

abbrev pub fixed_point_value : DatatypeHeader → FixedPoint → ℕ → ℤ
fixed_point_value h f element =
    pick (eqb (bits h.class_bit_field 3 1) 1)
    (twos_complement f.bit_precision (bits element f.bit_offset f.bit_precision))
    (pos (bits element f.bit_offset f.bit_precision))

-- Floating-point: Sign Location, bits 8-15; Exponent Location and Size; Mantissa Location and Size
abbrev pub sign_bit : DatatypeHeader → ℕ → ℕ
sign_bit h element = bits element (bits h.class_bit_field 8 8) 1

abbrev pub exponent : FloatingPoint → ℕ → ℕ
exponent f element = bits element f.exponent_location f.exponent_size

abbrev pub mantissa : FloatingPoint → ℕ → ℕ
mantissa f element = bits element f.mantissa_location f.mantissa_size
