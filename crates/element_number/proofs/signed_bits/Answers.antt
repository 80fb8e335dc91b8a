-- The bits of a number are its two's complement.
use lib.IntN.{ℤ, pos, negsuc}
use mathlib.Core.Path.{◌≡◌, refl, ◌∙◌, ap}
use mir.Syntax.{w64}
use mir.Val.{of_z}
use mir.ValLaws.{to_z-of_z}
use Rattle.records.specs.Numbers.{twos}
use Rattle.element_number.proofs.signed_bits.Goals as goal

as_twos : (x : ℤ) → of_z w64 x ≡ twos x
as_twos (pos n) = refl
as_twos (negsuc n) = refl

pub returns : goal.returns
returns c = c.cast_unsigned.ensures ∙ ap (of_z w64) (to_z-of_z w64 c.args.x c.ranges.x) ∙ as_twos c.args.x
