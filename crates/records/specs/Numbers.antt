-- Which number it is, and its bits; and what a value has of it. Assumes nothing: these are definitions.
use Rattle.std.specs.Prelude.{ℕ, suc, ◌-◌, ◌^◌, ℤ, pos, negsuc, Option, Some, None}
use Rattle.std.specs.Float.{binary32, binary64}
use Rattle.std.specs.Float.Ieee.{to_bits}
use Rattle.records.specs.declared.Number.{Number}
use Rattle.records.specs.declared.Number.TheVariants as numbers
use Rattle.records.specs.declared.Value.{Value}
use Rattle.records.specs.declared.Value.TheVariants as values
use Rattle.records.specs.declared.Part.{Part}

-- 1 a whole number without sign, 2 with sign, 3 a single, 4 a double
abbrev pub number_case : Number → ℕ
number_case (numbers.Unsigned v) = 1
number_case (numbers.Signed x) = 2
number_case (numbers.Single x) = 3
number_case (numbers.Double x) = 4
number_case (numbers.SingleNan b) = 3
number_case (numbers.DoubleNan b) = 4

-- the bits of a signed number: two's complement in 64 bits
abbrev pub twos : ℤ → ℕ
twos (pos n) = n
twos (negsuc n) = 2 ^ 64 - suc n

-- the bits of a float are those of IEEE 754; a NaN's are those that are held
abbrev pub number_bits : Number → ℕ
number_bits (numbers.Unsigned v) = v
number_bits (numbers.Signed x) = twos x
number_bits (numbers.Single x) = to_bits binary32 x
number_bits (numbers.Double x) = to_bits binary64 x
number_bits (numbers.SingleNan b) = b
number_bits (numbers.DoubleNan b) = b

-- a text is a part of the file
abbrev pub value_text : Value → Option Part
value_text values.None = None
value_text (values.Text p) = Some p
value_text (values.Number n) = None

-- what is no number is 0 and 0
abbrev pub value_case : Value → ℕ
value_case values.None = 0
value_case (values.Text p) = 0
value_case (values.Number n) = number_case n

abbrev pub value_bits : Value → ℕ
value_bits values.None = 0
value_bits (values.Text p) = 0
value_bits (values.Number n) = number_bits n
