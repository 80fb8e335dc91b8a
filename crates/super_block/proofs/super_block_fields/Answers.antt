-- Each field and its test is one step of the format; the addresses are the rest of it.
use Rattle.helpers.specs.Facts.{handed_on}
use native.Mathlib.Omega.{arith}
use borrow.Author.Tests.{eq-eqb, ne_eqb}
use Rattle.format.specs.Steps.{read_number, read_refuse}
use Rattle.super_block.specs.SuperBlocks.{super_block}
use Rattle.super_block.specs.Laws.{version_other, version_known, allowed_most}
use borrow.Author.Rules.{rules}
use Rattle.super_block.proofs.super_block_fields.Goals as goal

pub returns-in_err-signature : goal.returns-in_err-signature
unfolding super_block
returns-in_err-signature c = rw (read_number, ← c.le_u64.ensures, c.in_err-signature.was, handed_on c.from_residual.result c.in_err-signature.field-0.0 c.from_residual.ensures.1)

pub returns-then-signature-ne-FORMAT_SIGNATURE : goal.returns-then-signature-ne-FORMAT_SIGNATURE
unfolding super_block
returns-then-signature-ne-FORMAT_SIGNATURE c = rw (read_number, ← c.le_u64.ensures, c.in_ok-signature.was, ne_eqb _ _ c.if-signature-ne-FORMAT_SIGNATURE.true, read_refuse)

pub returns-in_err-version : goal.returns-in_err-version
unfolding super_block
returns-in_err-version c = rw (read_number, ← c.le_u64.ensures, c.in_ok-signature.was, eq-eqb _ _ c.if-signature-ne-FORMAT_SIGNATURE.false, read_number, ← c.le_u8.ensures, c.in_err-version.was, handed_on c.from_residual-in_err-version.result c.in_err-version.field-0.0 c.from_residual-in_err-version.ensures.1)

pub returns-then-version-lt-FIRST_VERSION : goal.returns-then-version-lt-FIRST_VERSION
unfolding super_block
returns-then-version-lt-FIRST_VERSION c = rw (read_number, ← c.le_u64.ensures, c.in_ok-signature.was, eq-eqb _ _ c.if-signature-ne-FORMAT_SIGNATURE.false, read_number, ← c.le_u8.ensures, c.in_ok-version.was, version_other c.in_ok-version.version (λ e. omega (arith, c.if-version-lt-FIRST_VERSION.true)) (λ e. omega (arith, c.if-version-lt-FIRST_VERSION.true)), read_refuse)

pub returns-then-version-gt-LAST_VERSION : goal.returns-then-version-gt-LAST_VERSION
unfolding super_block
returns-then-version-gt-LAST_VERSION c = rw (read_number, ← c.le_u64.ensures, c.in_ok-signature.was, eq-eqb _ _ c.if-signature-ne-FORMAT_SIGNATURE.false, read_number, ← c.le_u8.ensures, c.in_ok-version.was, version_other c.in_ok-version.version (λ e. omega (arith, c.if-version-gt-LAST_VERSION.true)) (λ e. omega (arith, c.if-version-gt-LAST_VERSION.true)), read_refuse)

pub returns-in_err-size_of_offsets : goal.returns-in_err-size_of_offsets
unfolding super_block
returns-in_err-size_of_offsets c = rw (read_number, ← c.le_u64.ensures, c.in_ok-signature.was, eq-eqb _ _ c.if-signature-ne-FORMAT_SIGNATURE.false, read_number, ← c.le_u8.ensures, c.in_ok-version.was, version_known _ c.if-version-lt-FIRST_VERSION.false c.if-version-gt-LAST_VERSION.false, read_number, ← c.le_u8-2.ensures, c.in_err-size_of_offsets.was, handed_on c.from_residual-in_err-size_of_offsets.result c.in_err-size_of_offsets.field-0.0 c.from_residual-in_err-size_of_offsets.ensures.1)

pub returns-then-not-width_allowed : goal.returns-then-not-width_allowed
unfolding super_block
returns-then-not-width_allowed c = rw (read_number, ← c.le_u64.ensures, c.in_ok-signature.was, eq-eqb _ _ c.if-signature-ne-FORMAT_SIGNATURE.false, read_number, ← c.le_u8.ensures, c.in_ok-version.was, version_known _ c.if-version-lt-FIRST_VERSION.false c.if-version-gt-LAST_VERSION.false, read_number, ← c.le_u8-2.ensures, c.in_ok-size_of_offsets.was, ← c.width_allowed.ensures, c.if-not-width_allowed.true, read_refuse)

pub returns-in_err-size_of_lengths : goal.returns-in_err-size_of_lengths
unfolding super_block
returns-in_err-size_of_lengths c = rw (read_number, ← c.le_u64.ensures, c.in_ok-signature.was, eq-eqb _ _ c.if-signature-ne-FORMAT_SIGNATURE.false, read_number, ← c.le_u8.ensures, c.in_ok-version.was, version_known _ c.if-version-lt-FIRST_VERSION.false c.if-version-gt-LAST_VERSION.false, read_number, ← c.le_u8-2.ensures, c.in_ok-size_of_offsets.was, ← c.width_allowed.ensures, c.if-not-width_allowed.false, read_number, ← c.le_u8-3.ensures, c.in_err-size_of_lengths.was, handed_on c.from_residual-in_err-size_of_lengths.result c.in_err-size_of_lengths.field-0.0 c.from_residual-in_err-size_of_lengths.ensures.1)

pub returns-then-not-width_allowed-2 : goal.returns-then-not-width_allowed-2
unfolding super_block
returns-then-not-width_allowed-2 c = rw (read_number, ← c.le_u64.ensures, c.in_ok-signature.was, eq-eqb _ _ c.if-signature-ne-FORMAT_SIGNATURE.false, read_number, ← c.le_u8.ensures, c.in_ok-version.was, version_known _ c.if-version-lt-FIRST_VERSION.false c.if-version-gt-LAST_VERSION.false, read_number, ← c.le_u8-2.ensures, c.in_ok-size_of_offsets.was, ← c.width_allowed.ensures, c.if-not-width_allowed.false, read_number, ← c.le_u8-3.ensures, c.in_ok-size_of_lengths.was, ← c.width_allowed-2.ensures, c.if-not-width_allowed-2.true, read_refuse)

pub returns-in_err-at : goal.returns-in_err-at
unfolding super_block
returns-in_err-at c = rw (read_number, ← c.le_u64.ensures, c.in_ok-signature.was, eq-eqb _ _ c.if-signature-ne-FORMAT_SIGNATURE.false, read_number, ← c.le_u8.ensures, c.in_ok-version.was, version_known _ c.if-version-lt-FIRST_VERSION.false c.if-version-gt-LAST_VERSION.false, read_number, ← c.le_u8-2.ensures, c.in_ok-size_of_offsets.was, ← c.width_allowed.ensures, c.if-not-width_allowed.false, read_number, ← c.le_u8-3.ensures, c.in_ok-size_of_lengths.was, ← c.width_allowed-2.ensures, c.if-not-width_allowed-2.false, read_number, ← c.le_u8-4.ensures, c.in_err-at.was, handed_on c.from_residual-in_err-at.result c.in_err-at.field-0.0 c.from_residual-in_err-at.ensures.1)

pub addresses-requires : goal.addresses-requires
addresses-requires c = let h = allowed_most c.in_ok-size_of_offsets.size_of_offsets c.width_allowed.ensures (c.if-not-width_allowed.false) in search rules

pub returns : goal.returns
unfolding super_block
returns c = rw (read_number, ← c.le_u64.ensures, c.in_ok-signature.was, eq-eqb _ _ c.if-signature-ne-FORMAT_SIGNATURE.false, read_number, ← c.le_u8.ensures, c.in_ok-version.was, version_known _ c.if-version-lt-FIRST_VERSION.false c.if-version-gt-LAST_VERSION.false, read_number, ← c.le_u8-2.ensures, c.in_ok-size_of_offsets.was, ← c.width_allowed.ensures, c.if-not-width_allowed.false, read_number, ← c.le_u8-3.ensures, c.in_ok-size_of_lengths.was, ← c.width_allowed-2.ensures, c.if-not-width_allowed-2.false, read_number, ← c.le_u8-4.ensures, c.in_ok-at.was) c.addresses.ensures
