-- I.A: all checksums of the format are Jenkins' lookup3. It is written here from the published `hashlittle`, with initial value 0, whose names are
-- kept: the words a, b and c, `mix` and `final`. Assumes nothing: these are definitions.
use Rattle.std.specs.Prelude.{ℕ, zero, suc, ◌+◌, ◌-◌, ◌*◌, ◌/◌, ◌%◌, ◌^◌, ◌≡◌, Bool, List, eqb, length, take, drop}
use Rattle.std.specs.Int.Bits.{bit_xor}
use Rattle.format.specs.Bytes.{le}
use Rattle.lookup3.specs.declared.Words.{Words}

-- sum, difference and rotation to the left, in 32 bits
unfoldable pub plus : ℕ → ℕ → ℕ
plus x y = (x + y) % 2 ^ 32

unfoldable pub minus : ℕ → ℕ → ℕ
minus x y = (x + 2 ^ 32 - y) % 2 ^ 32

unfoldable pub rotate : ℕ → ℕ → ℕ
rotate x k = x * 2 ^ k % 2 ^ 32 + x / 2 ^ (32 - k)

-- A line of `mix`: c is taken from a, a is crossed with c rotated by k, and b is added to c. The next line is the same with b, c, a for a, b, c, so
-- the words are handed on in that order.
unfoldable pub mix_line : ℕ → Words → Words
mix_line k w = record { a = w.b; b = plus w.c w.b; c = bit_xor (minus w.a w.c) (rotate w.c k) }

-- its six lines, after which each word has its own name again
unfoldable pub mix : Words → Words
mix w = mix_line 4 (mix_line 19 (mix_line 16 (mix_line 8 (mix_line 6 (mix_line 4 w)))))

-- A line of `final`: c is crossed with b, and b rotated by k is taken from it. The next line is the same with b, c, a for a, b, c.
unfoldable pub final_line : ℕ → Words → Words
final_line k w = record { a = w.b; b = minus (bit_xor w.c w.b) (rotate w.b k); c = w.a }

-- its seven lines, and the word that the last one changed
unfoldable pub final_mix : Words → ℕ
final_mix w = (final_line 24 (final_line 14 (final_line 4 (final_line 16 (final_line 25 (final_line 11 (final_line 14 w))))))).b

-- the 12 bytes from p are added, four to each word; a byte past the end is zero
unfoldable pub add_block : List ℕ → ℕ → Words → Words
add_block s p w = record { a = plus w.a (le s p 4); b = plus w.b (le s (p + 4) 4); c = plus w.c (le s (p + 8) 4) }

-- from p on, n blocks of 12 bytes that are mixed, and then the last, of 1 to 12
unfoldable pub blocks : List ℕ → ℕ → ℕ → Words → ℕ
blocks s p zero w = final_mix (add_block s p w)
blocks s p (suc n) w = blocks s (p + 12) n (mix (add_block s p w))

-- the words before n bytes
abbrev pub start : ℕ → Words
start n = record { a = plus 0xDEADBEEF n; b = plus 0xDEADBEEF n; c = plus 0xDEADBEEF n }

-- of so many bytes: a block is the last where no more than 12 are left; where there are none, nothing is mixed
unfoldable pub sum_of : List ℕ → ℕ → ℕ
sum_of s zero = (start 0).c
sum_of s (suc n) = blocks s 0 (n / 12) (start (suc n))

-- the sum of bytes
abbrev pub lookup3 : List ℕ → ℕ
lookup3 s = sum_of s (length s)

-- the checksum of n bytes of a file from a position on
abbrev pub checksum : List ℕ → ℕ → ℕ → ℕ
checksum file from n = lookup3 (take n (drop from file))

-- the checksum stored at `end`, in four bytes, is that of the bytes from `from` up to it
abbrev pub Matches : List ℕ → ℕ → ℕ → Type 0
Matches file from end = le file end 4 ≡ checksum file from (end - from)

-- and whether it is
unfoldable pub sum_matches : List ℕ → ℕ → ℕ → Bool
sum_matches file from end = eqb (le file end 4) (checksum file from (end - from))
