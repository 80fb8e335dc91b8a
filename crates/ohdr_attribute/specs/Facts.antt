-- What the proofs of the attribute readers cite. Assumes nothing.
use Rattle.std.specs.Prelude.{ℕ, ◌+◌, ◌^◌, ◌≤◌, ◌<◌, ◌≡◌, true, false, ◌&&◌, List, leb, length}
use Rattle.std.proofs.Common.{arith, le-leb}
use Rattle.std.proofs.lemmas.Bool.{lt-leb}
use Rattle.format.specs.Format.{Format, text, refused, read}
use Rattle.format.specs.Steps.{read_text, text_room}

-- a text of 2 ^ 64 bytes or more leaves every file
pub text_many : {A : Type 0} (s : List ℕ) (n : ℕ) (k : ℕ → Format A) (p : ℕ) → length s < 2 ^ 64 → 2 ^ 64 ≤ n → read s (text n k) p ≡ refused 3
text_many s n k p l h = rw (read_text, text_room, lt-leb (p + n) (length s) (omega arith))

-- the bytes of a class without a value are passed if they are 1 to 1,048,576
pub few_bytes : (n : ℕ) → 1 ≤ n → n ≤ 1048576 → (leb 1 n && leb n 1048576) ≡ true
few_bytes n h l = rw (le-leb 1 n h, le-leb n 1048576 l)

pub no_bytes : (n : ℕ) → n < 1 → (leb 1 n && leb n 1048576) ≡ false
no_bytes n h = rw (lt-leb 1 n h)

pub many_bytes : (n : ℕ) → 1048576 < n → (leb 1 n && leb n 1048576) ≡ false
many_bytes n h = rw (le-leb 1 n (omega arith), lt-leb n 1048576 h)
