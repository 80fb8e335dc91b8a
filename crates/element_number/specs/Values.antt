-- The number in an element. Assumes nothing: these are definitions.
use Rattle.std.specs.Prelude.{ℕ, suc, ◌-◌, ◌*◌, ◌^◌, ltb, ℤ, pos, negsuc}
use Rattle.std.specs.Float.{binary32, binary64}
use Rattle.std.specs.Float.Ieee.{of_bits, nan_bits}
use Rattle.format.specs.Bytes.{swap}
use Rattle.format.specs.Format.{Format, done, number, bind, pick}
use Rattle.records.specs.declared.Number.{Number}
use Rattle.records.specs.declared.Number.TheVariants as numbers
use Rattle.number_form.specs.declared.NumberForm.{NumberForm}
use Rattle.number_form.specs.declared.NumberForm.TheVariants as forms
use Rattle.number_form.specs.Forms.{big_endian}

-- an element of w bytes as one number, in its byte order
unfoldable pub element : ℕ → ℕ → Format ℕ
element bits w = number w (λ v. done (pick (big_endian bits) (swap w v) v))

-- 2's complement: from half of the numbers on they are those below zero
abbrev pub signed_of : ℕ → ℕ → ℤ
signed_of half v = pick (ltb v half) (pos v) (negsuc (2 * half - suc v))

-- a single and a double of these bits; a NaN is held by them
abbrev pub single_of : ℕ → Number
single_of b = pick (nan_bits binary32 b) (numbers.SingleNan b) (numbers.Single (of_bits binary32 b))

abbrev pub double_of : ℕ → Number
double_of b = pick (nan_bits binary64 b) (numbers.DoubleNan b) (numbers.Double (of_bits binary64 b))

abbrev pub number_of : NumberForm → ℕ → ℕ → Number
number_of forms.Unsigned size v = numbers.Unsigned v
number_of forms.Signed size v = numbers.Signed (signed_of (2 ^ (8 * size - 1)) v)
number_of forms.Single size v = single_of v
number_of forms.Double size v = double_of v

unfoldable pub number_value : NumberForm → ℕ → ℕ → Format Number
number_value form bits size = bind (element bits size) (λ v. done (number_of form size v))
