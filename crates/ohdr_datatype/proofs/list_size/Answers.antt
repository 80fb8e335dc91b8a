-- The mask leaves the class, and only class 9 has a list size.
use Rattle.std.specs.Prelude.{ℕ, ◌≡◌, refl, Bool, true, false, Option, Some, None}
use Rattle.std.specs.Bool.{then_some}
use Rattle.format.specs.Format.{pick}
use Rattle.ohdr_datatype.specs.Facts.{class_is}
use Rattle.ohdr_datatype.proofs.list_size.Goals as goal

picked : (t : Bool) (x : ℕ) → ◌≡◌ {A = Option ℕ} (then_some t x) (pick t (Some x) None)
picked true x = refl
picked false x = refl

pub returns : goal.returns
returns c = rw (class_is c.args.header.class_and_version refl, c.then_some.ensures) (picked _ c.args.header.size)
