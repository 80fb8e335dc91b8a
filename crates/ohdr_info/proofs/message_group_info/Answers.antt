-- Each field is one step of the format, and the masks test the flag bits that bring the optional ones.
use Rattle.helpers.specs.Facts.{handed_on}
use Rattle.format.specs.Steps.{read_number, read_bind, read_done, read_refuse}
use borrow.Author.Tests.{eq-eqb, ne_eqb}
use Rattle.ohdr_info.specs.Info.{cond, group_info}
use Rattle.ohdr_info.specs.Facts.{flag_0, flag_1, optional, present_only}
use Rattle.std.proofs.Common.{rules, ◌≡◌}
use Rattle.helpers.specs.Answers.{out}
use Rattle.format.specs.Bits.{bit}
use Rattle.format.specs.Format.{read, number, done}
use Rattle.ohdr_info.proofs.message_group_info.Goals as goal
use Rattle.ohdr_info.proofs.message_group_info.Goals.{After-cond, After-cond-2, After-cond-3, After-cond-4}

-- what the fields are that a flag brings
compact_read : (c : After-cond) → read c.args.file.now (cond (bit c.in_ok-flags.flags 0) 2) c.in_ok-flags.compact_at ≡ out c.cond.result
unfolding cond
compact_read c = rw flag_0 (optional _ _ (number 2 done) 0 c.cond.result _ (λ t. let k = c.cond.ensures.given t in search rules) c.cond.ensures.none)

dense_read : (c : After-cond-2) → read c.args.file.now (cond (bit c.in_ok-flags.flags 0) 2) c.in_ok-compact.dense_at ≡ out c.cond-2.result
unfolding cond
dense_read c = rw flag_0 (optional _ _ (number 2 done) 0 c.cond-2.result _ (λ t. let k = c.cond-2.ensures.given t in search rules) c.cond-2.ensures.none)

entries_read : (c : After-cond-3) → read c.args.file.now (cond (bit c.in_ok-flags.flags 1) 2) c.in_ok-dense.entries_at ≡ out c.cond-3.result
unfolding cond
entries_read c = rw flag_1 (optional _ _ (number 2 done) 0 c.cond-3.result _ (λ t. let k = c.cond-3.ensures.given t in search rules) c.cond-3.ensures.none)

length_read : (c : After-cond-4) → read c.args.file.now (cond (bit c.in_ok-flags.flags 1) 2) c.in_ok-entries.length_at ≡ out c.cond-4.result
unfolding cond
length_read c = rw flag_1 (optional _ _ (number 2 done) 0 c.cond-4.result _ (λ t. let k = c.cond-4.ensures.given t in search rules) c.cond-4.ensures.none)

pub returns-in_err-version : goal.returns-in_err-version
unfolding group_info
returns-in_err-version c = rw (read_number, ← c.le_u8.ensures, c.in_err-version.was, handed_on c.from_residual.result c.in_err-version.field-0.0 c.from_residual.ensures.1)

pub returns-then-version-ne0 : goal.returns-then-version-ne0
unfolding group_info
returns-then-version-ne0 c = rw (read_number, ← c.le_u8.ensures, c.in_ok-version.was, ne_eqb _ _ c.if-version-ne0.true, read_refuse)

pub returns-in_err-flags : goal.returns-in_err-flags
unfolding group_info
returns-in_err-flags c = rw (read_number, ← c.le_u8.ensures, c.in_ok-version.was, eq-eqb _ _ c.if-version-ne0.false, read_number, ← c.le_u8-2.ensures, c.in_err-flags.was, handed_on c.from_residual-in_err-flags.result c.in_err-flags.field-0.0 c.from_residual-in_err-flags.ensures.1)

pub returns-in_err-compact : goal.returns-in_err-compact
unfolding group_info
returns-in_err-compact c = rw (read_number, ← c.le_u8.ensures, c.in_ok-version.was, eq-eqb _ _ c.if-version-ne0.false, read_number, ← c.le_u8-2.ensures, c.in_ok-flags.was, read_bind, compact_read (goal.at.returns-in_err-compact c).After-cond, c.in_err-compact.was, handed_on c.from_residual-in_err-compact.result c.in_err-compact.field-0.0 c.from_residual-in_err-compact.ensures.1)

pub returns-in_err-dense : goal.returns-in_err-dense
unfolding group_info
returns-in_err-dense c = rw (read_number, ← c.le_u8.ensures, c.in_ok-version.was, eq-eqb _ _ c.if-version-ne0.false, read_number, ← c.le_u8-2.ensures, c.in_ok-flags.was, read_bind, compact_read (goal.at.returns-in_err-dense c).After-cond, c.in_ok-compact.was, read_bind, dense_read (goal.at.returns-in_err-dense c).After-cond-2, c.in_err-dense.was, handed_on c.from_residual-in_err-dense.result c.in_err-dense.field-0.0 c.from_residual-in_err-dense.ensures.1)

pub returns-in_err-entries : goal.returns-in_err-entries
unfolding group_info
returns-in_err-entries c = rw (read_number, ← c.le_u8.ensures, c.in_ok-version.was, eq-eqb _ _ c.if-version-ne0.false, read_number, ← c.le_u8-2.ensures, c.in_ok-flags.was, read_bind, compact_read (goal.at.returns-in_err-entries c).After-cond, c.in_ok-compact.was, read_bind, dense_read (goal.at.returns-in_err-entries c).After-cond-2, c.in_ok-dense.was, read_bind, entries_read (goal.at.returns-in_err-entries c).After-cond-3, c.in_err-entries.was, handed_on c.from_residual-in_err-entries.result c.in_err-entries.field-0.0 c.from_residual-in_err-entries.ensures.1)

pub returns-in_err-length : goal.returns-in_err-length
unfolding group_info
returns-in_err-length c = rw (read_number, ← c.le_u8.ensures, c.in_ok-version.was, eq-eqb _ _ c.if-version-ne0.false, read_number, ← c.le_u8-2.ensures, c.in_ok-flags.was, read_bind, compact_read (goal.at.returns-in_err-length c).After-cond, c.in_ok-compact.was, read_bind, dense_read (goal.at.returns-in_err-length c).After-cond-2, c.in_ok-dense.was, read_bind, entries_read (goal.at.returns-in_err-length c).After-cond-3, c.in_ok-entries.was, read_bind, length_read (goal.at.returns-in_err-length c).After-cond-4, c.in_err-length.was, handed_on c.from_residual-in_err-length.result c.in_err-length.field-0.0 c.from_residual-in_err-length.ensures.1)

pub returns : goal.returns
unfolding group_info
returns c = rw (read_number, ← c.le_u8.ensures, c.in_ok-version.was, eq-eqb _ _ c.if-version-ne0.false, read_number, ← c.le_u8-2.ensures, c.in_ok-flags.was, read_bind, compact_read (goal.at.returns c).After-cond, c.in_ok-compact.was, read_bind, dense_read (goal.at.returns c).After-cond-2, c.in_ok-dense.was, read_bind, entries_read (goal.at.returns c).After-cond-3, c.in_ok-entries.was, read_bind, length_read (goal.at.returns c).After-cond-4, c.in_ok-length.was, present_only _ c.in_ok-compact.compact, present_only _ c.in_ok-dense.dense, present_only _ c.in_ok-entries.entries, present_only _ c.in_ok-length.length, flag_0, flag_1, ← c.then_some.ensures, ← c.then_some-2.ensures, ← c.then_some-3.ensures, ← c.then_some-4.ensures, read_done)
