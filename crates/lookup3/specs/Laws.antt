-- The sum one step at a time, and what a stored one that matches is. Assumes nothing.
use Rattle.std.specs.Prelude.{ℕ, zero, suc, ◌+◌, ◌-◌, ◌*◌, ◌/◌, ◌%◌, ◌^◌, ◌≤◌, ◌<◌, ◌≡◌, refl, true, List, length}
use Rattle.std.proofs.Common.{ap, sym, ◌∙◌, add-zero, mod-lt, arith, eqb-true, eq-eqb, pow-add, pow_pos, shr_lt}
use Rattle.std.proofs.Math.Nat.{mul-mod_left}
use Rattle.std.proofs.Math.Arith.{digits_lt}
use Rattle.std.proofs.lemmas.Nat.{mod-pow-add, shl-shr, or_shifted}
use Rattle.std.proofs.Math.ListN.{get_or-eq_default}
use Rattle.std.specs.Int.{rotate_left, w32}
use Rattle.std.specs.Int.Bits.{bit_or}
use Rattle.format.specs.Bytes.{le}
use Rattle.format.specs.BytesLaws.{le_split}
use Rattle.lookup3.specs.declared.Words.{Words}
use Rattle.lookup3.specs.Lookup3.{plus, minus, rotate, mix, final_mix, add_block, blocks, start, sum_of, checksum, Matches, sum_matches}

-- of no bytes, and of some
pub sum_none : (s : List ℕ) {n : ℕ} → n ≡ 0 → sum_of s n ≡ (start 0).c
unfolding sum_of
sum_none s e = rw e

pub sum_some : (s : List ℕ) (n : ℕ) (w : Words) → (n ≡ 0 → ⊥) → w ≡ start n → sum_of s n ≡ blocks s (12 * 0) ((n - 1) / 12 - 0) w
unfolding sum_of
sum_some s zero w e h = absurd (e refl)
sum_some s (suc n) w e h = let d : (suc n - 1) / 12 - 0 ≡ n / 12 = omega arith in rw (d, h)

-- by what is left from p: one block more, or the last
pub blocks_more : (s : List ℕ) (p left : ℕ) (w : Words) → 12 < left → blocks s p ((left - 1) / 12) w ≡ blocks s (p + 12) ((left - 12 - 1) / 12) (mix (add_block s p w))
unfolding blocks
blocks_more s p left w h = let e : (left - 1) / 12 ≡ suc ((left - 12 - 1) / 12) = omega arith in rw e

pub blocks_last : (s : List ℕ) (p left : ℕ) (w : Words) → left ≤ 12 → blocks s p ((left - 1) / 12) w ≡ final_mix (add_block s p w)
unfolding blocks
blocks_last s p left w h = let e : (left - 1) / 12 ≡ 0 = omega arith in rw e

-- at block i of n: one block more, or the last
pub block_more_of : (s : List ℕ) (i n : ℕ) (w : Words) → i < n → blocks s (12 * i) (n - i) w ≡ blocks s (12 * (i + 1)) (n - (i + 1)) (mix (add_block s (12 * i) w))
unfolding blocks
block_more_of s i n w h =
    let e : n - i ≡ suc (n - (i + 1)) = omega arith in
    let d : 12 * i + 12 ≡ 12 * (i + 1) = omega arith in
    ap (λ (m : ℕ). blocks s (12 * i) m w) e ∙ ap (λ (p : ℕ). blocks s p (n - (i + 1)) (mix (add_block s (12 * i) w))) d

pub block_last_of : (s : List ℕ) (n : ℕ) (w : Words) → blocks s (12 * n) (n - n) w ≡ final_mix (add_block s (12 * n) w)
unfolding blocks
block_last_of s n w = let e : n - n ≡ 0 = omega arith in rw e

-- a number past the end is zero, and one that the end cuts is that of the bytes before the end
pub le_past : (s : List ℕ) (p w : ℕ) → length s ≤ p → le s p w ≡ 0
unfolding le
le_past s p zero h = refl
le_past s p (suc w) h = let e = get_or-eq_default s 0 h in omega (arith, le_past s (p + 1) w (omega arith))

pub le_cut : (s : List ℕ) (p k w : ℕ) → p + k ≡ length s → k ≤ w → le s p w ≡ le s p k
le_cut s p k w h l =
    let e : w ≡ k + (w - k) = omega arith in
    let z = le_past s (p + k) (w - k) (omega arith) in
    ap (λ (x : ℕ). le s p x) e ∙ sym (le_split s p k (w - k)) ∙ rw z (omega arith)

-- a rotated word is a word
turned : (x j k : ℕ) → x < 2 ^ (k + j) → x * 2 ^ k % 2 ^ (j + k) + x / 2 ^ j < 2 ^ (j + k)
turned x j k h =
    let e : x * 2 ^ k % 2 ^ (j + k) ≡ (x % 2 ^ j) * 2 ^ k = mod-pow-add (x * 2 ^ k) j k ∙ rw (shl-shr x k, mul-mod_left x (2 ^ k)) (add-zero _) in
    rw (e, pow-add 2 j k) (digits_lt (mod-lt x (pow_pos j)) (shr_lt k j h))

pub rotated : (x k : ℕ) → x < 2 ^ 32 → k < 32 → x * 2 ^ k % 2 ^ 32 + x / 2 ^ (32 - k) < 2 ^ 32
rotated x k h l =
    let e : 32 - k + k ≡ 32 = omega arith in
    let f : k + (32 - k) ≡ 32 = omega arith in
    rw e at (turned x (32 - k) k (rw f h))

-- difference and rotation, as the code's methods compute them: what is shifted out at one end comes in at the other
pub subtracted : (x y : ℕ) → y < 4294967296 → (x + (4294967296 - y)) % 4294967296 ≡ minus x y
unfolding minus
subtracted x y h = let e : x + (4294967296 - y) ≡ x + 4294967296 - y = omega arith in rw e

or_turned : (x j k : ℕ) → x < 2 ^ (k + j) → bit_or (x * 2 ^ k % 2 ^ (j + k)) (x / 2 ^ j) ≡ x * 2 ^ k % 2 ^ (j + k) + x / 2 ^ j
or_turned x j k h =
    let e : x * 2 ^ k % 2 ^ (j + k) ≡ (x % 2 ^ j) * 2 ^ k = mod-pow-add (x * 2 ^ k) j k ∙ rw (shl-shr x k, mul-mod_left x (2 ^ k)) (add-zero _) in
    rw e (or_shifted (x % 2 ^ j) k (x / 2 ^ j) (shr_lt k j h))

pub rotate_is : (x k : ℕ) → x < 2 ^ 32 → 0 < k → k < 32 → rotate_left w32 x k ≡ rotate x k
unfolding rotate
rotate_is x k h l m =
    let e : 32 - k + k ≡ 32 = omega arith in
    let f : k + (32 - k) ≡ 32 = omega arith in
    let d : k % 32 ≡ k = omega arith in
    let g : (32 - k) % 32 ≡ 32 - k = omega arith in
    let t = rw e at (or_turned x (32 - k) k (rw f h)) in
    rw (d, g) t

-- a whole number's remainder may be taken before
pub started : (n : ℕ) → (0xDEADBEEF + n % 4294967296) % 4294967296 ≡ plus 0xDEADBEEF n
unfolding plus
started n = omega arith

-- a stored checksum matches exactly where it is the checksum
pub matches_is : (file : List ℕ) (from end : ℕ) → sum_matches file from end ≡ true → Matches file from end
unfolding sum_matches
matches_is file from end e = eqb-true (le file end 4) (checksum file from (end - from)) e

pub is_matches : (file : List ℕ) (from end : ℕ) → Matches file from end → sum_matches file from end ≡ true
unfolding sum_matches
is_matches file from end e = eq-eqb (le file end 4) (checksum file from (end - from)) e
