-- The type chooses the body, and a plain body shows neither name nor part.
use Rattle.helpers.specs.Facts.{handed_on}
use borrow.Author.Tests.{ne_eqb}
use native.Mathlib.Omega.{arith}
use Rattle.ohdr_entry.specs.Entries.{body}
use Rattle.ohdr_entry.specs.Facts.{plain_figures}
use Rattle.ohdr_entry.proofs.message_kind.Goals as goal

pub returns-in-8 : goal.returns-in-8
unfolding body
returns-in-8 c = rw c.in-8.is c.body_data_layout.ensures

pub returns-in-12 : goal.returns-in-12
unfolding body
returns-in-12 c = rw c.in-12.is c.body_attribute.ensures

pub returns-in_err-next-in_default : goal.returns-in_err-next-in_default
unfolding body
returns-in_err-next-in_default c = let k = c.args.kind in rw (ne_eqb k 8 (λ e. omega arith), ne_eqb k 12 (λ e. omega arith), plain_figures, ← c.plain_body.ensures, c.in_err-next-in_default.was, handed_on c.from_residual.result c.in_err-next-in_default.field-0.0 c.from_residual.ensures.1)

pub returns-in_ok-next-in_default : goal.returns-in_ok-next-in_default
unfolding body
returns-in_ok-next-in_default c = let k = c.args.kind in rw (ne_eqb k 8 (λ e. omega arith), ne_eqb k 12 (λ e. omega arith), plain_figures, ← c.plain_body.ensures, c.in_ok-next-in_default.was)
