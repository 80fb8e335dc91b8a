-- Which numbers a header is refused with. Assumes nothing: these are definitions.
use Rattle.std.specs.Prelude.{ℕ, ◌≤◌, Bool, ◌&&◌, ◌||◌, eqb, leb}

-- once its widths and its file's size are passed: without a table 3 to 23 and 28, and with one 24 too
abbrev pub of_header : ℕ → Bool
of_header n = leb 3 n && (leb n 23 || eqb n 28)

abbrev pub with_table : ℕ → Bool
with_table n = of_header n || eqb n 24

-- of a check, whatever the widths and the file
abbrev pub of_check : ℕ → Bool
of_check n = of_header n || (eqb n 1 || eqb n 2)

-- a width that is allowed, and a pair of them
abbrev pub Width : ℕ → Type 0
Width w = (2 ≤ w) × (w ≤ 8)

abbrev pub BothAllowed : ℕ → ℕ → Type 0
BothAllowed offsets lengths = Width offsets × Width lengths
