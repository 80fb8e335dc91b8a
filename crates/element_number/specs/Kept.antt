-- A number keeps the bits that the file has: which number stands in an element, its case and its bits, by the bytes alone. Assumes nothing.
use Rattle.std.specs.Prelude.{ℕ, suc, ◌+◌, ◌-◌, ◌*◌, ◌^◌, ◌≤◌, ◌<◌, ◌≡◌, refl, Bool, true, false, not, List, length, T, ltb, pos, negsuc, Float}
use Rattle.std.proofs.Math.Path.{sym, ap}
use Rattle.std.proofs.Common.{◌∙◌, subst, arith, pow_mono}
use Rattle.std.specs.Float.Ieee as Ieee
use Rattle.std.specs.Float.{nan, inf, fin, binary32, binary64}
use Rattle.std.specs.Float.Ieee.{of_bits, to_bits, nan_bits, is_nan, top}
use Rattle.std.specs.Float.Ieee.Bits.{to_bits-of_bits, nan_bits_is}
use Rattle.format.specs.Bytes.{AreBytes, le, be}
use Rattle.format.specs.BytesLaws.{le_below}
use Rattle.format.specs.OrderLaws.{swap_below, swap_le}
use Rattle.format.specs.Format.{bind, pick, Stands}
use Rattle.records.specs.declared.Number.{Number}
use Rattle.records.specs.declared.Number.TheVariants as numbers
use Rattle.records.specs.Numbers.{twos, number_case, number_bits}
use Rattle.number_form.specs.declared.NumberForm.{NumberForm}
use Rattle.number_form.specs.declared.NumberForm.TheVariants as forms
use Rattle.number_form.specs.Forms.{big_endian, whole_size, Sized}
use Rattle.element_number.specs.Values.{element, signed_of, single_of, double_of, number_of, number_value}
use Rattle.number_form.specs.Sizes.{small_size, some_size}
pub use Rattle.element_number.specs.Facts.{twice_half}

-- the element of w bytes at p, as one number
abbrev pub stored : List ℕ → ℕ → ℕ → ℕ → ℕ
stored s bits p w = pick (big_endian bits) (be s p w) (le s p w)

-- the two words that a row has of an element v: no float and no signed number
abbrev pub form_case : NumberForm → ℕ
form_case forms.Unsigned = 1
form_case forms.Signed = 2
form_case forms.Single = 3
form_case forms.Double = 4

-- a signed number below zero has ones above its own bits
abbrev pub form_bits : NumberForm → ℕ → ℕ → ℕ
form_bits forms.Unsigned size v = v
form_bits forms.Signed size v = pick (ltb v (2 ^ (8 * size - 1))) v (v + (2 ^ 64 - 2 ^ (8 * size)))
form_bits forms.Single size v = v
form_bits forms.Double size v = v

size_below : (w : ℕ) → w ≤ 8 → 2 ^ (8 * w) ≤ 2 ^ 64
size_below w h = let m : 8 * w ≤ 64 = omega arith in pow_mono {i = 8 * w} {j = 64} m

-- what holds of a number that is held by its bits, and of one that is a float
held_or_float : (t : Bool) {x y : Number} (P : Number → Type 0) → (t ≡ true → P x) → (t ≡ false → P y) → P (pick t x y)
held_or_float true P f g = f refl
held_or_float false P f g = g refl

-- a pattern that is no NaN's: the float of it has it
float_kept : (f : Ieee.Format) (b : ℕ) → b < 2 * top f → nan_bits f b ≡ false → to_bits f (of_bits f b) ≡ b
float_kept f b h e = to_bits-of_bits f b h (subst (λ (t : Bool). T (not t)) (sym e ∙ nan_bits_is f b) tt)

single_bits : (b : ℕ) → b < 2 ^ 32 → number_bits (single_of b) ≡ b
single_bits b h = held_or_float (nan_bits binary32 b) (λ n. number_bits n ≡ b) (λ e. refl) (float_kept binary32 b h)

double_bits : (b : ℕ) → b < 2 ^ 64 → number_bits (double_of b) ≡ b
double_bits b h = held_or_float (nan_bits binary64 b) (λ n. number_bits n ≡ b) (λ e. refl) (float_kept binary64 b h)

signed_bits : (w v : ℕ) → whole_size w ≡ true → v < 2 ^ (8 * w) → twos (signed_of (2 ^ (8 * w - 1)) v) ≡ form_bits forms.Signed w v
signed_bits w v e h = go (ltb v (2 ^ (8 * w - 1))) refl
  where
    half : ℕ
    half = 2 ^ (8 * w - 1)

    go : (t : Bool) → ltb v half ≡ t → twos (pick t (pos v) (negsuc (2 * half - suc v))) ≡ pick t v (v + (2 ^ 64 - 2 ^ (8 * w)))
    go true f = refl
    go false f = omega (arith, twice_half w (some_size e), size_below w (small_size e))

-- The case is that of the form, and the bits are the element's, NaN or not.
pub number_case_lem : (form : NumberForm) (size v : ℕ) → number_case (number_of form size v) ≡ form_case form
number_case_lem forms.Unsigned size v = refl
number_case_lem forms.Signed size v = refl
number_case_lem forms.Single size v = held_or_float (nan_bits binary32 v) (λ n. number_case n ≡ 3) (λ _. refl) (λ _. refl)
number_case_lem forms.Double size v = held_or_float (nan_bits binary64 v) (λ n. number_case n ≡ 4) (λ _. refl) (λ _. refl)

pub number_bits_lem : (form : NumberForm) (size v : ℕ) → Sized form size → v < 2 ^ (8 * size) → number_bits (number_of form size v) ≡ form_bits form size v
number_bits_lem forms.Unsigned size v e h = refl
number_bits_lem forms.Signed size v e h = signed_bits size v e h
number_bits_lem forms.Single size v e h = single_bits v (rw e at h)
number_bits_lem forms.Double size v e h = double_bits v (rw e at h)

-- a number that is a float
abbrev pub IsFloat : Number → Float → Type 0
IsFloat (numbers.Unsigned v) y = ⊥
IsFloat (numbers.Signed x) y = ⊥
IsFloat (numbers.Single x) y = x ≡ y
IsFloat (numbers.Double x) y = x ≡ y
IsFloat (numbers.SingleNan b) y = nan ≡ y
IsFloat (numbers.DoubleNan b) y = nan ≡ y

nan_is : (f : Ieee.Format) (b : ℕ) → nan_bits f b ≡ true → nan ≡ of_bits f b
unfolding is_nan
nan_is f b e = go (of_bits f b) (sym (nan_bits_is f b) ∙ e)
  where
    go : (x : Float) → is_nan x ≡ true → nan ≡ x
    go nan d = refl
    go (inf s) d = let z : ◌≡◌ {A = ℕ} 0 1 = cc in absurd (omega arith)
    go (fin s m e) d = let z : ◌≡◌ {A = ℕ} 0 1 = cc in absurd (omega arith)

-- the float is that of IEEE 754 with these bits
pub single_value : (b : ℕ) → IsFloat (single_of b) (of_bits binary32 b)
single_value b = held_or_float (nan_bits binary32 b) (λ n. IsFloat n (of_bits binary32 b)) (nan_is binary32 b) (λ _. refl)

pub double_value : (b : ℕ) → IsFloat (double_of b) (of_bits binary64 b)
double_value b = held_or_float (nan_bits binary64 b) (λ n. IsFloat n (of_bits binary64 b)) (nan_is binary64 b) (λ _. refl)

-- a number has the bytes of its size
pub number_room : (s : List ℕ) (form : NumberForm) (bits size p q : ℕ) (n : Number) → Stands s (number_value form bits size) p q n → (p + size ≤ length s) × (p + size ≡ q)
unfolding number_value element bind
number_room s form bits size p q n h = (h.0, h.1.0)

-- in a file of bytes
module _ (s : List ℕ) (b : AreBytes s) where
  pub stored_below : (bits p w : ℕ) → stored s bits p w < 2 ^ (8 * w)
  stored_below bits p w = go (big_endian bits)
    where
      go : (t : Bool) → pick t (be s p w) (le s p w) < 2 ^ (8 * w)
      go true = rw (← swap_le s b p w) (swap_below w (le s p w))
      go false = le_below s b p w

  -- what stands as a number of a form is the element
  pub number_stands : (form : NumberForm) (bits size p q : ℕ) (n : Number) → Stands s (number_value form bits size) p q n → n ≡ number_of form size (stored s bits p size)
  unfolding number_value element bind
  number_stands form bits size p q n h = sym h.1.1 ∙ ap (λ (v : ℕ). number_of form size (pick (big_endian bits) v (le s p size))) (swap_le s b p size)

  pub stands_number : (form : NumberForm) (bits size p : ℕ) → p + size ≤ length s → Stands s (number_value form bits size) p (p + size) (number_of form size (stored s bits p size))
  unfolding number_value element bind
  stands_number form bits size p h = (h, (refl, ap (λ (v : ℕ). number_of form size (pick (big_endian bits) v (le s p size))) (swap_le s b p size)))
