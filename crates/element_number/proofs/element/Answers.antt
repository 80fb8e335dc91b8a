-- The number is read lowest byte first, and turned round where class bit 0 is set.
use Rattle.helpers.specs.Facts.{handed_on}
use mathlib.Core.Path.{sym, ◌∙◌, ap}
use Rattle.helpers.specs.Answers.{out}
use native.Mathlib.Omega.{arith}
use Rattle.format.specs.Bits.{bit_set, bit_clear}
use Rattle.format.specs.Steps.{read_number, read_done}
use Rattle.format.specs.OrderLaws.{swap_below}
use Rattle.element_number.specs.Values.{element}
use Rattle.number_form.specs.Sizes.{small_size}
use Rattle.element_number.specs.Facts.{number_below}
use Rattle.element_number.proofs.element.Goals as goal

pub varint-requires : goal.varint-requires
varint-requires c = small_size c.requires

pub returns-in_err-v : goal.returns-in_err-v
unfolding element
returns-in_err-v c = (rw (read_number, ← c.varint.ensures, c.in_err-v.was, handed_on c.from_residual.result c.in_err-v.field-0.0 c.from_residual.ensures.1), rw (handed_on c.from_residual.result c.in_err-v.field-0.0 c.from_residual.ensures.1) tt)

pub returns-then-bits-eq0 : goal.returns-then-bits-eq0
unfolding element
returns-then-bits-eq0 c = (rw (read_number, ← c.varint.ensures, c.in_ok-v.was, bit_clear c.args.bits 0 c.if-bits-eq0.true, read_done), number_below _ (λ i. omega (arith, c.type_inv.file i)) _ _ _ _ (sym (ap out c.in_ok-v.was) ∙ c.varint.ensures))

pub returns : goal.returns
unfolding element
returns c = (rw (read_number, ← c.varint.ensures, c.in_ok-v.was, bit_set c.args.bits 0 c.if-bits-eq0.false, read_done, ← c.swap_of.ensures), rw c.swap_of.ensures (swap_below _ _))
