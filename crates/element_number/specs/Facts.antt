-- What the proofs of the readers cite. Assumes nothing.
use Rattle.std.specs.Prelude.{ℕ, zero, suc, ◌+◌, ◌-◌, ◌*◌, ◌/◌, ◌%◌, ◌^◌, ◌≤◌, ◌<◌, ◌≡◌, refl, Bool, true, false, not, List, length, T, leb, ℤ, pos, negsuc, ◌-ℤ◌}
use Rattle.std.proofs.Common.{sym, ◌∙◌, ap, subst, zero-add, arith, SFits, to_z, of_z, pow_pos, pow_mono, pow-add, shr-shr, lt-ltb, le-ltb}
use Rattle.std.specs.Float.{Format}
use Rattle.std.specs.Float.Ieee.{nan_bits, top, ones, hid}
use Rattle.std.specs.Float.Ieee.Bits.{nan_bits_above}
use Rattle.std.specs.Int.{w64, swap_bytes}
use Rattle.std.proofs.lemmas.Nat.{div-mul-add}
use Rattle.std.proofs.lemmas.Int.{to_z_pos, to_z-of_z}
use Rattle.format.specs.Bytes.{AreBytes, le, swap}
use Rattle.format.specs.OrderLaws.{swap_below, swap_split}
use Rattle.format.specs.BytesLaws.{le_below}
use Rattle.format.specs.Format.{Out, found, refused, number, done, read, pick}
use Rattle.format.specs.Steps.{number_room}
use Rattle.element_number.specs.Values.{signed_of}

-- a number below zero, as the code makes it
less : (k : ℕ) → negsuc 0 -ℤ pos k ≡ negsuc k
less zero = refl
less (suc k) = ap (λ (n : ℕ). negsuc (suc n)) (zero-add k)

-- half - 1 less what v has beyond half
made : (half v : ℕ) → half ≤ v → v < 2 * half → half ≤ 2 ^ 63 → negsuc 0 -ℤ to_z w64 (half - 1 - (v - half)) ≡ negsuc (2 * half - suc v)
made half v h k l =
    let e : half - 1 - (v - half) ≡ 2 * half - suc v = omega arith in
    ap (λ (z : ℤ). negsuc 0 -ℤ z) (to_z_pos w64 (half - 1 - (v - half)) (omega arith)) ∙ less (half - 1 - (v - half)) ∙ ap negsuc e

pub made_fits : (half v : ℕ) → half ≤ v → v < 2 * half → half ≤ 2 ^ 63 → SFits w64 (negsuc 0 -ℤ to_z w64 (half - 1 - (v - half)))
made_fits half v h k l = subst (SFits w64) (sym (made half v h k l)) (record { sfits = omega arith })

pub made_low : (half v : ℕ) → v < half → half ≤ 2 ^ 63 → to_z w64 v ≡ signed_of half v
made_low half v h l = to_z_pos w64 v (omega arith) ∙ sym (rw (lt-ltb v half h))

pub made_high : (half v : ℕ) → half ≤ v → v < 2 * half → half ≤ 2 ^ 63 → to_z w64 (of_z w64 (negsuc 0 -ℤ to_z w64 (half - 1 - (v - half)))) ≡ signed_of half v
made_high half v h k l = to_z-of_z w64 _ (made_fits half v h k l) ∙ made half v h k l ∙ rw (le-ltb v half h)

-- which bits are a NaN's, as the code tests it: without their sign they are above those of infinity
pub above_infinity : (f : Format) (b : ℕ) → ones f * hid f < b % top f → nan_bits f b ≡ true
above_infinity f b h = nan_bits_above f b ∙ lt-ltb (ones f * hid f) (b % top f) h

pub up_to_infinity : (f : Format) (b : ℕ) → b % top f ≤ ones f * hid f → nan_bits f b ≡ false
up_to_infinity f b h = nan_bits_above f b ∙ le-ltb (ones f * hid f) (b % top f) h

pub plain_bits : {t : Bool} → t ≡ false → T (not t)
plain_bits e = subst (λ (t : Bool). T (not t)) (sym e) tt

-- a number that was read is one of its bytes
pub number_below : (s : List ℕ) → AreBytes s → (w p v q : ℕ) → found v q ≡ read s (number w done) p → v < 2 ^ (8 * w)
number_below s b w p v q e = go (leb (p + w) (length s)) (e ∙ number_room s w p)
  where
    value : Out ℕ → ℕ
    value (found x r) = x
    value (refused n) = 0

    go : (t : Bool) → found v q ≡ pick t (found (le s p w) (p + w)) (refused 3) → v < 2 ^ (8 * w)
    go true f = let g : v ≡ le s p w = ap value f in omega (arith, le_below s b p w)
    go false f = let g : v ≡ 0 = ap value f in omega (arith, pow_pos (8 * w))

-- the library's swap of eight bytes is that of a number of eight bytes, and its highest w bytes are the lowest w in the other order
swapped : (v : ℕ) → swap_bytes w64 v ≡ swap 8 v
unfolding swap
swapped v = rw (shr-shr v 8 8, shr-shr v 16 8, shr-shr v 24 8, shr-shr v 32 8, shr-shr v 40 8, shr-shr v 48 8) (omega arith)

pub swapped_high : (w v : ℕ) → w ≤ 8 → swap_bytes w64 v / 2 ^ (64 - 8 * w) ≡ swap w v
swapped_high w v h =
    let n : 8 ≡ w + (8 - w) = omega arith in
    let k : 64 - 8 * w ≡ 8 * (8 - w) = omega arith in
    let r = swap (8 - w) (v / 2 ^ (8 * w)) in
    ap (λ (x : ℕ). x / 2 ^ (64 - 8 * w)) (swapped v ∙ ap (λ (m : ℕ). swap m v) n ∙ swap_split w (8 - w) v)
    ∙ ap (λ (j : ℕ). (swap w v * 2 ^ (8 * (8 - w)) + r) / 2 ^ j) k
    ∙ div-mul-add (swap w v) (2 ^ (8 * (8 - w))) r (swap_below (8 - w) _)

-- half of the numbers of a size, and all
pub twice_half : (w : ℕ) → 1 ≤ w → 2 * 2 ^ (8 * w - 1) ≡ 2 ^ (8 * w)
twice_half w h =
    let a : 8 * w ≡ 1 + (8 * w - 1) = omega arith in
    let d : 2 ^ (8 * w) ≡ 2 ^ 1 * 2 ^ (8 * w - 1) = ap (λ (k : ℕ). 2 ^ k) a ∙ pow-add 2 1 (8 * w - 1) in
    omega arith

-- half of the numbers of w bytes, as a shift makes it
pub half : (w : ℕ) → 1 ≤ w → w ≤ 8
    → (1 * 2 ^ (8 * w - 1) % 2 ^ 64 ≡ 2 ^ (8 * w - 1)) × (2 * (1 * 2 ^ (8 * w - 1) % 2 ^ 64) ≡ 2 ^ (8 * w)) × (0 < 1 * 2 ^ (8 * w - 1) % 2 ^ 64) × (1 * 2 ^ (8 * w - 1) % 2 ^ 64 ≤ 2 ^ 63)
half w some small =
    let m : 8 * w - 1 ≤ 63 = omega arith in
    let below : 2 ^ (8 * w - 1) ≤ 2 ^ 63 = pow_mono {i = 8 * w - 1} {j = 63} m in
    let e : 1 * 2 ^ (8 * w - 1) % 2 ^ 64 ≡ 2 ^ (8 * w - 1) = omega arith in
    rw e (refl, twice_half w some, pow_pos (8 * w - 1), below)
