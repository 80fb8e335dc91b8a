-- What the proofs of a float's bits cite. Assumes nothing.
use Rattle.std.specs.Prelude.{◌≡◌, refl, true, Float}
use Rattle.std.specs.Float.Ieee as Ieee
use Rattle.std.specs.Float.{nan, inf, fin}
use Rattle.std.specs.Float.Ieee.{to_bits, is_nan}

-- there is one NaN
pub nan_bits : (f : Ieee.Format) (x : Float) → is_nan x ≡ true → to_bits f nan ≡ to_bits f x
unfolding is_nan
nan_bits f nan e = refl
nan_bits f (inf s) e = cc
nan_bits f (fin s m k) e = cc
