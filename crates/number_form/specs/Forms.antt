-- IV.A.2.d, classes 0 and 1: which forms of a datatype's element are a number. Assumes nothing: these are definitions.
use Rattle.std.specs.Prelude.{ℕ, ◌-◌, ◌*◌, ◌/◌, ◌%◌, ◌≡◌, Bool, true, not, ◌&&◌, ◌||◌, eqb, Option, Some, None}
use Rattle.format.specs.Bits.{bit}
use Rattle.format.specs.Format.{pick}
use Rattle.records.specs.declared.DataFormat.TheVariants as formats
use Rattle.records.specs.declared.DataType.{DataType}
use Rattle.number_form.specs.declared.NumberForm.{NumberForm}
use Rattle.number_form.specs.declared.NumberForm.TheVariants as forms
use Rattle.records.specs.declared.DataFormat.{DataFormat}

-- The class bit field. Of both classes bit 0 is the byte order: the highest byte first where it is set. The padding types, bits 1 and 2 and of
-- floats bit 3, speak of unused bits, and there are none in these forms; they are not tested, nor are bits that have no meaning.
abbrev pub big_endian : ℕ → Bool
big_endian bits = bit bits 0

-- fixed-point, bit 3: signed, in 2's complement
abbrev pub is_signed : ℕ → Bool
is_signed bits = bit bits 3

-- floating-point: bit 6 set is the VAX order, and no other that is in use; bits 4 and 5, and bits 8 to 15
abbrev pub vax_endian : ℕ → Bool
vax_endian bits = bit bits 6

abbrev pub mantissa_normalization : ℕ → ℕ
mantissa_normalization bits = bits / 16 % 4

abbrev pub sign_location : ℕ → ℕ
sign_location bits = bits / 256 % 256

unfoldable pub whole_size : ℕ → Bool
whole_size size = eqb size 1 || (eqb size 2 || (eqb size 4 || eqb size 8))

-- fixed-point: all bits of 1, 2, 4 or 8 bytes
unfoldable pub fixed_form : ℕ → ℕ → ℕ → ℕ → Option NumberForm
fixed_form bits size offset precision =
    pick (whole_size size && (eqb offset 0 && eqb precision (8 * size)))
    (Some (pick (is_signed bits) forms.Signed forms.Unsigned))
    None

-- floating-point: all bits of w bytes, the sign in the top one, and a mantissa whose most significant bit is not stored, but implied to be set (2)
unfoldable pub is_float : ℕ → ℕ → ℕ → ℕ → Bool
is_float bits size precision w =
    eqb precision (8 * w)
    && (eqb size w
    && (not (vax_endian bits)
    && (eqb (mantissa_normalization bits) 2
    && eqb (sign_location bits) (8 * w - 1))))

unfoldable pub float_form : ℕ → ℕ → ℕ → Option NumberForm
float_form bits size precision =
    pick (is_float bits size precision 4) (Some forms.Single) (
    pick (is_float bits size precision 8) (Some forms.Double) (
    None))

-- by class; a variable-length type has its base type's format, and is of neither class
abbrev pub form_of : ℕ → ℕ → ℕ → Option DataFormat → Option NumberForm
form_of class bits size None = None
form_of class bits size (Some (formats.Fixed offset precision)) = pick (eqb class 0) (fixed_form bits size offset precision) None
form_of class bits size (Some (formats.Float f)) = pick (eqb class 1) (float_form bits size f.bit_precision) None

unfoldable pub number_form : DataType → Option NumberForm
number_form d = form_of (d.class_and_version % 16) d.class_bit_field d.size d.data_fmt

-- the sizes that a form has
abbrev pub Sized : NumberForm → ℕ → Type 0
Sized forms.Unsigned size = whole_size size ≡ true
Sized forms.Signed size = whole_size size ≡ true
Sized forms.Single size = size ≡ 4
Sized forms.Double size = size ≡ 8
