-- Worked cases, and why a NaN has a case of its own. Assumes nothing.
use Rattle.std.specs.Prelude.{ℕ, ◌^◌, ◌<◌, ◌≡◌, refl, [], ◌∷◌, negsuc, Float}
use Rattle.std.proofs.Common.{arith}
use Rattle.std.specs.Float.{nan, binary32}
use Rattle.std.specs.Float.Ieee.{of_bits, to_bits, nan_bits}
use Rattle.format.specs.Bytes.{le, be, swap}
use Rattle.records.specs.declared.Number.TheVariants as numbers
use Rattle.records.specs.Numbers.{twos, number_bits}
use Rattle.element_number.specs.Values.{signed_of, single_of, double_of}

-- The logic has one NaN: nothing that is a function of the float can give every pattern back.
pub no_way_back : (f : Float → ℕ) → ((b : ℕ) → b < 2 ^ 32 → f (of_bits binary32 b) ≡ b) → ⊥
unfolding of_bits
no_way_back f h =
    let a : f nan ≡ 0x7f800001 = h 0x7f800001 (omega arith) in
    let b : f nan ≡ 0x7f800002 = h 0x7f800002 (omega arith) in
    omega arith

-- its own case keeps it
signalling : single_of 0x7f800001 ≡ numbers.SingleNan 0x7f800001
unfolding nan_bits
signalling = refl

negative_zero : number_bits (single_of 0x80000000) ≡ 0x80000000
unfolding nan_bits of_bits to_bits
negative_zero = refl

subnormal : number_bits (double_of 1) ≡ 1
unfolding nan_bits of_bits to_bits
subnormal = refl

minus_one : signed_of 128 255 ≡ negsuc 0
minus_one = refl

lowest : twos (signed_of 32768 32768) ≡ 0xffffffffffff8000
lowest = refl

highest_first : be (1 ∷ 2 ∷ 3 ∷ 4 ∷ []) 0 4 ≡ 0x01020304
unfolding be
highest_first = refl

swapped : swap 4 (le (1 ∷ 2 ∷ 3 ∷ 4 ∷ []) 0 4) ≡ 0x01020304
unfolding swap le
swapped = refl
