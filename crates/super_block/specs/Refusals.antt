-- Which numbers a superblock is refused with. Assumes nothing: these are definitions.
use Rattle.std.specs.Prelude.{ℕ, Bool, ◌&&◌, ◌||◌, eqb, leb}

-- once the file's size is passed: 1, 3, and 25 to 28; and of any file, 2 too
abbrev pub of_block : ℕ → Bool
of_block n = eqb n 1 || (eqb n 3 || (leb 25 n && leb n 28))

abbrev pub of_file : ℕ → Bool
of_file n = of_block n || eqb n 2
