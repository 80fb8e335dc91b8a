-- Bits of a number, as the masks of the code test them. Assumes nothing.
use Rattle.std.specs.Prelude.{ℕ, ◌+◌, ◌-◌, ◌*◌, ◌/◌, ◌%◌, ◌^◌, ◌≡◌, refl, Bool, true, false, not, eqb}
use Rattle.std.proofs.Common.{ap, sym, ◌∙◌, zero-mul, arith, pow-add, pow_pos, eq-eqb, ne_eqb, eqb-true}
use Rattle.std.specs.Int.Bits.{bit_and}
use Rattle.std.proofs.lemmas.Nat.Bits.{and_high}
use Rattle.std.proofs.lemmas.Bool.{eqb-false}

-- bit i of n is set; bit 0 is the lowest
abbrev pub bit : ℕ → ℕ → Bool
bit n i = eqb (n / 2 ^ i % 2) 1

-- a mask of one bit
pub mask : (n i : ℕ) → bit_and n (2 ^ i) ≡ (n / 2 ^ i % 2) * 2 ^ i
mask n i =
    let d : 2 ^ (1 + i) ≡ 2 ^ 1 * 2 ^ i = pow-add 2 1 i in
    let e : 2 ^ (1 + i) - 2 ^ i ≡ 2 ^ i = omega arith in
    ap (bit_and n) (sym e) ∙ and_high n 1 i

pub bit_set : (n i : ℕ) → (bit_and n (2 ^ i) ≡ 0 → ⊥) → bit n i ≡ true
bit_set n i h =
    let b = n / 2 ^ i % 2 in
    let z : b ≡ 0 → ⊥ = λ e. h (mask n i ∙ ap (λ (k : ℕ). k * 2 ^ i) e ∙ zero-mul (2 ^ i)) in
    eq-eqb b 1 (omega arith)

pub bit_clear : (n i : ℕ) → bit_and n (2 ^ i) ≡ 0 → bit n i ≡ false
bit_clear n i h =
    let b = n / 2 ^ i % 2 in
    ne_eqb b 1 (λ e. let d : 1 * 2 ^ i ≡ 0 = ap (λ (k : ℕ). k * 2 ^ i) (sym e) ∙ sym (mask n i) ∙ h in omega (arith, pow_pos i))

-- the test itself
pub bit_test : (n i : ℕ) → not (eqb (bit_and n (2 ^ i)) 0) ≡ bit n i
bit_test n i = go (eqb (bit_and n (2 ^ i)) 0) refl
  where
    go : (t : Bool) → eqb (bit_and n (2 ^ i)) 0 ≡ t → not t ≡ bit n i
    go true e = sym (bit_clear n i (eqb-true (bit_and n (2 ^ i)) 0 e))
    go false e = sym (bit_set n i (eqb-false (bit_and n (2 ^ i)) 0 e))
