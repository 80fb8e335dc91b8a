-- What the proof of a version 1 member cites of its padding and its unused fields. Assumes nothing.
use Rattle.std.specs.Prelude.{ℕ, ◌+◌, ◌%◌, ◌≡◌, List}
use Rattle.std.proofs.Common.{◌∙◌, arith}
use Rattle.format.specs.Bytes.{to_multiple_of8}
use Rattle.format.specs.Format.{Format, number, skip, nothing, read}
use Rattle.format.specs.Steps.{read_unused, read_passed}

-- the padding of a name and its closing byte, as the code has it: its sum cannot overflow
pub padding : (length : ℕ) → to_multiple_of8 (length + 1) ≡ to_multiple_of8 (length % 8 + 1)
padding length = omega arith

-- the fields of a version 1 member after its dimensionality, of which nothing is used: reserved bytes, permutation, reserved bytes, four sizes
abbrev pub unused1 : Format (Unit {0})
unused1 = skip 3 (number 4 (λ _. skip 4 (number 4 (λ _. number 4 (λ _. number 4 (λ _. number 4 (λ _. nothing)))))))

pub unused1_read : (s : List ℕ) (p : ℕ) → read s unused1 p ≡ read s (skip 27 nothing) p
unused1_read s =
    passed 3 24 _ (
    unused 20 _ (
    passed 4 16 _ (
    unused 12 _ (
    unused 8 _ (
    unused 4 _ (
    read_unused s 4 nothing))))))
  where
    -- F passes n bytes
    Passes : ℕ → Format (Unit {0}) → Type 0
    Passes n F = (p : ℕ) → read s F p ≡ read s (skip n nothing) p

    passed : (m n : ℕ) (F : Format (Unit {0})) → Passes n F → Passes (m + n) (skip m F)
    passed m n F e = read_passed s m n F nothing e

    unused : (n : ℕ) (F : Format (Unit {0})) → Passes n F → Passes (4 + n) (number 4 (λ _. F))
    unused n F e p = read_unused s 4 F p ∙ passed 4 n F e p
