-- The width of the chunk size: two bits of the flags, as a shift. Assumes nothing.
use Rattle.std.specs.Prelude.{ℕ, ◌*◌, ◌^◌, ◌%◌, ◌≤◌, ◌<◌, ◌≡◌}
use Rattle.std.proofs.Common.{arith, pow_mono}
use Rattle.std.specs.Int.Bits.{bit_and}
use Rattle.std.proofs.lemmas.Nat.{and_mask, and_le_r}

-- what a mask leaves is below what the mask is below
pub mask_below : (n m k : ℕ) → m < k → bit_and n m < k
mask_below n m k h = omega (arith, and_le_r n m)

pub width_small : (flags : ℕ) → 2 ^ (flags % 4) ≤ 8
width_small flags = let h : flags % 4 ≤ 3 = omega arith in pow_mono h

pub shifted : (flags : ℕ) → 1 * 2 ^ bit_and flags 3 % 2 ^ 64 ≡ 2 ^ (flags % 4)
shifted flags = rw (and_mask flags 2) (omega (arith, width_small flags))
