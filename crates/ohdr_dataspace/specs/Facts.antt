-- What the proofs of the readers cite. Assumes nothing.
use Rattle.std.specs.Prelude.{ℕ, suc, ◌+◌, ◌-◌, ◌≤◌, ◌<◌, ◌≡◌, refl, Bool, List, set}
use Rattle.std.proofs.Common.{ap, arith}
use Rattle.format.specs.Format.{Format, done, skip, bind, read}
use Rattle.format.specs.Steps.{read_passed}
use Rattle.ohdr_dataspace.specs.DataSpaces.{dimension, dimensions_from}

-- the reserved byte and the reserved four of version 1, at once
pub reserved_bytes : {A : Type 0} (s : List ℕ) (F : Format A) (p : ℕ) → read s (skip 1 (skip 4 F)) p ≡ read s (skip 5 F) p
reserved_bytes s F p = read_passed s 1 4 (skip 4 F) F (λ q. refl) p

-- the sizes from place i on: none left, and one more
pub dimensions_from_none : (n i w : ℕ) (maximum : Bool) (sizes : List ℕ) → n ≤ i → dimensions_from (n - i) w maximum i sizes ≡ done sizes
unfolding dimensions_from
dimensions_from_none n i w maximum sizes h = let e : n - i ≡ 0 = omega arith in ap (λ (m : ℕ). dimensions_from m w maximum i sizes) e

pub dimensions_from_more : (n i w : ℕ) (maximum : Bool) (sizes : List ℕ) → i < n
    → dimensions_from (n - i) w maximum i sizes ≡ bind (dimension w maximum) (λ size. dimensions_from (n - (i + 1)) w maximum (i + 1) (set sizes i size))
unfolding dimensions_from
dimensions_from_more n i w maximum sizes h = let e : n - i ≡ suc (n - (i + 1)) = omega arith in ap (λ (m : ℕ). dimensions_from m w maximum i sizes) e
