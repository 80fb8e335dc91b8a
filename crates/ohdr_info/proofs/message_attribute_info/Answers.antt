-- Each field is one step of the format, and the masks test the flag bits that bring the optional ones.
use Rattle.helpers.specs.Facts.{handed_on}
use Rattle.format.specs.Steps.{read_number, read_bind, read_done, read_refuse}
use borrow.Author.Tests.{eq-eqb, ne_eqb}
use Rattle.ohdr_info.specs.Info.{cond, cond_address, attribute_info}
use Rattle.ohdr_info.specs.Facts.{flag_0, flag_1, optional}
use Rattle.std.proofs.Common.{rules, ◌≡◌}
use Rattle.helpers.specs.Answers.{out}
use Rattle.format.specs.Bits.{bit}
use Rattle.format.specs.Format.{read, number, done}
use Rattle.helpers.specs.Addresses.{address}
use Rattle.records.specs.declared.Address.TheVariants as addresses
use Rattle.ohdr_info.proofs.message_attribute_info.Goals as goal
use Rattle.ohdr_info.proofs.message_attribute_info.Goals.{After-cond, After-cond-2}

-- what the fields are that a flag brings
index_read : (c : After-cond) → read c.args.file.now (cond (bit c.in_ok-flags.flags 0) 2) c.in_ok-flags.index_at ≡ out c.cond.result
unfolding cond
index_read c = rw flag_0 (optional _ _ (number 2 done) 0 c.cond.result _ (λ t. let k = c.cond.ensures.given t in search rules) c.cond.ensures.none)

order_read : (c : After-cond-2) → read c.args.file.now (cond_address (bit c.in_ok-flags.flags 1) c.args.state.size_of_offsets) c.in_ok-names.order_at ≡ out c.cond-2.result
unfolding cond_address
order_read c = rw flag_1 (optional _ _ (address c.args.state.size_of_offsets) (addresses.Number 0) c.cond-2.result _ (λ t. let k = c.cond-2.ensures.given t in search rules) c.cond-2.ensures.none)

pub returns-in_err-version : goal.returns-in_err-version
unfolding attribute_info
returns-in_err-version c = rw (read_number, ← c.le_u8.ensures, c.in_err-version.was, handed_on c.from_residual.result c.in_err-version.field-0.0 c.from_residual.ensures.1)

pub returns-then-version-ne0 : goal.returns-then-version-ne0
unfolding attribute_info
returns-then-version-ne0 c = rw (read_number, ← c.le_u8.ensures, c.in_ok-version.was, ne_eqb _ _ c.if-version-ne0.true, read_refuse)

pub returns-in_err-flags : goal.returns-in_err-flags
unfolding attribute_info
returns-in_err-flags c = rw (read_number, ← c.le_u8.ensures, c.in_ok-version.was, eq-eqb _ _ c.if-version-ne0.false, read_number, ← c.le_u8-2.ensures, c.in_err-flags.was, handed_on c.from_residual-in_err-flags.result c.in_err-flags.field-0.0 c.from_residual-in_err-flags.ensures.1)

pub returns-in_err-index : goal.returns-in_err-index
unfolding attribute_info
returns-in_err-index c = rw (read_number, ← c.le_u8.ensures, c.in_ok-version.was, eq-eqb _ _ c.if-version-ne0.false, read_number, ← c.le_u8-2.ensures, c.in_ok-flags.was, read_bind, index_read (goal.at.returns-in_err-index c).After-cond, c.in_err-index.was, handed_on c.from_residual-in_err-index.result c.in_err-index.field-0.0 c.from_residual-in_err-index.ensures.1)

pub returns-in_err-heap : goal.returns-in_err-heap
unfolding attribute_info
returns-in_err-heap c = rw (read_number, ← c.le_u8.ensures, c.in_ok-version.was, eq-eqb _ _ c.if-version-ne0.false, read_number, ← c.le_u8-2.ensures, c.in_ok-flags.was, read_bind, index_read (goal.at.returns-in_err-heap c).After-cond, c.in_ok-index.was, read_bind, ← c.address.ensures, c.in_err-heap.was, handed_on c.from_residual-in_err-heap.result c.in_err-heap.field-0.0 c.from_residual-in_err-heap.ensures.1)

pub returns-in_err-names : goal.returns-in_err-names
unfolding attribute_info
returns-in_err-names c = rw (read_number, ← c.le_u8.ensures, c.in_ok-version.was, eq-eqb _ _ c.if-version-ne0.false, read_number, ← c.le_u8-2.ensures, c.in_ok-flags.was, read_bind, index_read (goal.at.returns-in_err-names c).After-cond, c.in_ok-index.was, read_bind, ← c.address.ensures, c.in_ok-heap.was, read_bind, ← c.address-2.ensures, c.in_err-names.was, handed_on c.from_residual-in_err-names.result c.in_err-names.field-0.0 c.from_residual-in_err-names.ensures.1)

pub returns-in_err-order : goal.returns-in_err-order
unfolding attribute_info
returns-in_err-order c = rw (read_number, ← c.le_u8.ensures, c.in_ok-version.was, eq-eqb _ _ c.if-version-ne0.false, read_number, ← c.le_u8-2.ensures, c.in_ok-flags.was, read_bind, index_read (goal.at.returns-in_err-order c).After-cond, c.in_ok-index.was, read_bind, ← c.address.ensures, c.in_ok-heap.was, read_bind, ← c.address-2.ensures, c.in_ok-names.was, read_bind, order_read (goal.at.returns-in_err-order c).After-cond-2, c.in_err-order.was, handed_on c.from_residual-in_err-order.result c.in_err-order.field-0.0 c.from_residual-in_err-order.ensures.1)

pub returns : goal.returns
unfolding attribute_info
returns c = rw (read_number, ← c.le_u8.ensures, c.in_ok-version.was, eq-eqb _ _ c.if-version-ne0.false, read_number, ← c.le_u8-2.ensures, c.in_ok-flags.was, read_bind, index_read (goal.at.returns c).After-cond, c.in_ok-index.was, read_bind, ← c.address.ensures, c.in_ok-heap.was, read_bind, ← c.address-2.ensures, c.in_ok-names.was, read_bind, order_read (goal.at.returns c).After-cond-2, c.in_ok-order.was, read_done)
