-- Which datatypes of the standard have a number, and which number it is by the tables of their class. Assumes nothing: these are definitions.
use Rattle.std.specs.Prelude.{ℕ, ◌-◌, ◌*◌, ◌≡◌, ◌⊎◌, List, eqb, ℤ, pos}
use Rattle.std.specs.Float.Ieee as Ieee
use Rattle.std.specs.Float.{binary32, binary64}
use Rattle.std.specs.Float.Ieee.{of_fields, emax}
use Rattle.records.specs.declared.Number.{Number}
use Rattle.records.specs.declared.Number.TheVariants as numbers
use Rattle.records.specs.Numbers.{number_case, number_bits}
use Rattle.element_number.specs.Kept.{IsFloat}
use Rattle.standard.specs.Datatypes.{DatatypeHeader, class, FixedPoint, FloatingPoint, Datatype, datatype, fixed_point, floating_point, no_properties, members, parent_type}
use Rattle.standard.specs.DatatypeRules.{bits}
use Rattle.standard.specs.Numbers.{element_bits, fixed_point_value, sign_bit, exponent, mantissa}

-- The forms that have a number; every other has none (docs/DIFFERENCES.md, 57). Fixed-point: all bits of 1, 2, 4 or 8 bytes.
pub record WholeNumber (h : DatatypeHeader) (f : FixedPoint) : Type 0 where
  pub of_class : class h ≡ 0
  pub size : (h.size ≡ 1) ⊎ ((h.size ≡ 2) ⊎ ((h.size ≡ 4) ⊎ (h.size ≡ 8)))
  pub bit_offset : f.bit_offset ≡ 0
  pub bit_precision : f.bit_precision ≡ 8 * h.size

-- floating-point: all bits of w bytes, not VAX-endian, the mantissa's most significant bit implied, the sign in the top bit
pub record FloatNumber (w : ℕ) (h : DatatypeHeader) (f : FloatingPoint) : Type 0 where
  pub of_class : class h ≡ 1
  pub size : h.size ≡ w
  pub bit_precision : f.bit_precision ≡ 8 * w
  pub byte_order : bits h.class_bit_field 6 1 ≡ 0
  pub mantissa_normalization : bits h.class_bit_field 4 2 ≡ 2
  pub sign_location : bits h.class_bit_field 8 8 ≡ 8 * w - 1

abbrev pub HasNumber : Datatype → Type 0
HasNumber (datatype h (fixed_point f)) = WholeNumber h f
HasNumber (datatype h (floating_point f)) = FloatNumber 4 h f ⊎ FloatNumber 8 h f
HasNumber (datatype h no_properties) = ⊥
HasNumber (datatype h (members m)) = ⊥
HasNumber (datatype h (parent_type t)) = ⊥

-- a whole number is the fixed-point value of the element, with a sign exactly where Signed is set
pub data SameWhole (h : DatatypeHeader) (f : FixedPoint) (element : ℕ) : Number → Type 0 where
  unsigned : {v : ℕ} → bits h.class_bit_field 3 1 ≡ 0 → pos v ≡ fixed_point_value h f element → SameWhole h f element (numbers.Unsigned v)
  signed : {z : ℤ} → bits h.class_bit_field 3 1 ≡ 1 → z ≡ fixed_point_value h f element → SameWhole h f element (numbers.Signed z)

-- a float is the one of IEEE 754 with the sign, exponent and mantissa that stand where the message says, and it has the element's bits, NaN or not
pub record SameFloat (format : Ieee.Format) (h : DatatypeHeader) (f : FloatingPoint) (element : ℕ) (n : Number) : Type 0 where
  pub stored_bits : number_bits n ≡ element
  pub value : IsFloat n (of_fields format (eqb (sign_bit h element) 1) (exponent f element) (mantissa f element))
  pub exponent_bias : f.exponent_bias ≡ emax format

-- a single of 4 bytes, a double of 8
abbrev pub SingleOrDouble : DatatypeHeader → FloatingPoint → ℕ → Number → Type 0
SingleOrDouble h f element n =
    ((h.size ≡ 4) × (number_case n ≡ 3) × SameFloat binary32 h f element n)
    ⊎ ((h.size ≡ 8) × (number_case n ≡ 4) × SameFloat binary64 h f element n)

-- the number is what the element at p is by the table of its class
abbrev pub SameNumber : List ℕ → Datatype → ℕ → Number → Type 0
SameNumber s (datatype h (fixed_point f)) p n = SameWhole h f (element_bits s h p) n
SameNumber s (datatype h (floating_point f)) p n = SingleOrDouble h f (element_bits s h p) n
SameNumber s (datatype h no_properties) p n = ⊥
SameNumber s (datatype h (members m)) p n = ⊥
SameNumber s (datatype h (parent_type t)) p n = ⊥
