-- Numbers, names and texts in a file, which is a list of bytes. Assumes nothing: these are definitions.
use Rattle.std.specs.Prelude.{ℕ, zero, suc, ◌+◌, ◌-◌, ◌*◌, ◌/◌, ◌^◌, ◌%◌, ◌≤◌, ◌<◌, ◌≡◌, ◌⊎◌, true, false, List, length, get_or, eqb}

-- the number in the w bytes from p, the lowest byte first
unfoldable pub le : List ℕ → ℕ → ℕ → ℕ
le s p zero = zero
le s p (suc w) = get_or s p 0 + 256 * le s (p + 1) w

-- every number of the list is a byte
abbrev pub AreBytes : List ℕ → Type 0
AreBytes s = (i : ℕ) → get_or s i 0 < 256

-- the number in the w bytes from p, the highest byte first
unfoldable pub be : List ℕ → ℕ → ℕ → ℕ
be s p zero = zero
be s p (suc w) = get_or s p 0 * 2 ^ (8 * w) + be s (p + 1) w

-- the lowest w bytes of a number, in the other order
unfoldable pub swap : ℕ → ℕ → ℕ
swap zero v = zero
swap (suc w) v = v % 256 * 2 ^ (8 * w) + swap w (v / 256)

-- all ones in w bytes
abbrev pub all_ones : ℕ → ℕ
all_ones w = 2 ^ (8 * w) - 1

-- a name stands at p and is n bytes long: none of them is zero, and it is ended by a zero or by its limit
pub record Named (s : List ℕ) (p limit n : ℕ) : Type 0 where
  pub inside : p + n ≤ length s
  pub within : n ≤ limit
  pub nonzero : (i : ℕ) → i < n → get_or s (p + i) 0 ≡ 0 → ⊥
  pub ended : (n ≡ limit) ⊎ ((p + n < length s) × (get_or s (p + n) 0 ≡ 0))

-- the n bytes from p are a text of l bytes and then zeros, and the text's last byte is not zero
pub record Trimmed (s : List ℕ) (p n l : ℕ) : Type 0 where
  pub inside : p + n ≤ length s
  pub within : l ≤ n
  pub zeros : (i : ℕ) → l ≤ i → i < n → get_or s (p + i) 0 ≡ 0
  pub last : (l ≡ 0) ⊎ (get_or s (p + (l - 1)) 0 ≡ 0 → ⊥)

-- how many bytes from p on stand before the first zero, at most so many; past the file all are zero
unfoldable pub name_length : List ℕ → ℕ → ℕ → ℕ
name_length s p zero = zero
name_length s p (suc limit) = elim (eqb (get_or s p 0) 0) [ true ↦ zero | false ↦ suc (name_length s (p + 1) limit) ]

-- how many of the n bytes from p are left without the zeros at their end
unfoldable pub text_length : List ℕ → ℕ → ℕ → ℕ
text_length s p zero = zero
text_length s p (suc n) = elim (eqb (get_or s (p + n) 0) 0) [ true ↦ text_length s p n | false ↦ suc n ]

-- how many bytes make n bytes a multiple of 8
abbrev pub to_multiple_of8 : ℕ → ℕ
to_multiple_of8 n = (8 - n % 8) % 8
