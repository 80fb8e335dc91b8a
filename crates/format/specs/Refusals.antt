-- Which numbers a format is refused with. Assumes nothing: these are definitions.
use Rattle.std.specs.Prelude.{ℕ, ◌≡◌, Bool, true}
use Rattle.format.specs.Format.{Format, done, refuse, number, skip, bytes, name, text, here, there, attempt, Out, found, refused}

module _ (allowed : ℕ → Bool) where
  -- what reading gives is not refused, or with one of these numbers
  abbrev pub RefusedWith : {A : Type 0} → Out A → Type 0
  RefusedWith (found a q) = Unit {0}
  RefusedWith (refused n) = allowed n ≡ true

  -- every refusal of a format has one of these numbers; what is refused in an attempt is not handed on
  abbrev pub RefusesWith : {A : Type 0} → Format A → Type 0
  RefusesWith (done x) = Unit {0}
  RefusesWith (refuse n) = allowed n ≡ true
  RefusesWith (number w k) = (v : ℕ) → RefusesWith (k v)
  RefusesWith (skip n F) = RefusesWith F
  RefusesWith (bytes n F) = RefusesWith F
  RefusesWith (name limit k) = (n : ℕ) → RefusesWith (k n)
  RefusesWith (text n k) = (l : ℕ) → RefusesWith (k l)
  RefusesWith (here k) = (p : ℕ) → RefusesWith (k p)
  RefusesWith (there {B = B} o F k) = RefusesWith F × ((b : B) → RefusesWith (k b))
  RefusesWith (attempt {B = B} F k G) = ((b : B) → RefusesWith (k b)) × RefusesWith G
