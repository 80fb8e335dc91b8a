-- Fields that may be missing, here and in the specification. Assumes nothing.
use Rattle.std.specs.Prelude.{ℕ, refl, Bool, true, false}
use Rattle.ohdr_info.specs.Info.{cond}
use Rattle.standard.specs.Fields.{optional}
use Rattle.standard.specs.Tie.{Tied, tied_done, tied_number}
use Rattle.standard_messages.specs.Same.{Same}

pub tied_cond : (test : Bool) (w : ℕ) → Tied (Same test) (cond test w) (optional test w)
unfolding cond optional
tied_cond true w = tied_number (λ n. tied_done (record { zero = refl; two = refl; eight = refl }))
tied_cond false w = tied_done (record { zero = refl; two = refl; eight = refl })
