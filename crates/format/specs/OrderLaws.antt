-- Numbers with the highest byte first, by those with the lowest first. Assumes nothing.
use Rattle.std.specs.Prelude.{ℕ, zero, suc, ◌+◌, ◌*◌, ◌/◌, ◌%◌, ◌^◌, ◌≤◌, ◌<◌, ◌≡◌, refl, List, get_or}
use Rattle.std.proofs.Common.{sym, ◌∙◌, ap, mul_assoc, add-mul, mul-le-mul_right, arith, pow-add, shr-shr}
use Rattle.format.specs.Bytes.{AreBytes, le, be, swap}

abbrev byte_power : (w : ℕ) → 2 ^ (8 * suc w) ≡ 256 * 2 ^ (8 * w)
byte_power w =
    let e : 8 * suc w ≡ 8 + 8 * w = omega arith in
    ap (λ (k : ℕ). 2 ^ k) e ∙ pow-add 2 8 (8 * w)

scaled : (a P x Q : ℕ) → a ≤ 255 → x < P → Q ≡ 256 * P → a * P + x < Q
scaled a P x Q h k e =
    let m : a * P ≤ 255 * P = mul-le-mul_right P h in
    omega arith

-- the other order has no more bytes
pub swap_below : (w v : ℕ) → swap w v < 2 ^ (8 * w)
unfolding swap
swap_below zero v = omega arith
swap_below (suc w) v =
    let b : v % 256 ≤ 255 = omega arith in
    scaled (v % 256) (2 ^ (8 * w)) (swap w (v / 256)) (2 ^ (8 * suc w)) b (swap_below w (v / 256)) (byte_power w)

-- the lowest m bytes, and the others
pub swap_split : (m w v : ℕ) → swap (m + w) v ≡ swap m v * 2 ^ (8 * w) + swap w (v / 2 ^ (8 * m))
unfolding swap
swap_split zero w v =
    let z : 0 + w ≡ w = omega arith in
    let d : v / 1 ≡ v = omega arith in
    rw (z, d) (omega arith)
swap_split (suc m) w v =
    let n : suc m + w ≡ suc (m + w) = omega arith in
    let b = v % 256 in
    let x = swap m (v / 256) in
    let Q = 2 ^ (8 * w) in
    let a : 8 * (m + w) ≡ 8 * m + 8 * w = omega arith in
    let P : 2 ^ (8 * (m + w)) ≡ 2 ^ (8 * m) * Q = ap (λ (k : ℕ). 2 ^ k) a ∙ pow-add 2 (8 * m) (8 * w) in
    let e : 8 * suc m ≡ 8 + 8 * m = omega arith in
    let d : v / 256 / 2 ^ (8 * m) ≡ v / 2 ^ (8 * suc m) = shr-shr v 8 (8 * m) ∙ ap (λ (k : ℕ). v / 2 ^ k) (sym e) in
    let f : b * (2 ^ (8 * m) * Q) ≡ b * 2 ^ (8 * m) * Q = sym (mul_assoc b (2 ^ (8 * m)) Q) in
    let g : (b * 2 ^ (8 * m) + x) * Q ≡ b * 2 ^ (8 * m) * Q + x * Q = add-mul (b * 2 ^ (8 * m)) x Q in
    rw (n, swap, P, f, g, swap_split m w (v / 256), d) (omega arith)

-- a number read lowest byte first, its bytes in the other order, is the number highest byte first
pub swap_le : (s : List ℕ) → AreBytes s → (p w : ℕ) → swap w (le s p w) ≡ be s p w
unfolding swap be le
swap_le s b p zero = refl
swap_le s b p (suc w) =
    let x = le s (p + 1) w in
    let l : (get_or s p 0 + 256 * x) % 256 ≡ get_or s p 0 = omega (arith, b p) in
    let r : (get_or s p 0 + 256 * x) / 256 ≡ x = omega (arith, b p) in
    rw (l, r, swap_le s b (p + 1) w)
