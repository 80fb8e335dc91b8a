-- Each address, and the checksum, is one step of the format.
use Rattle.helpers.specs.Facts.{handed_on}
use borrow.Author.Tests.{eq-eqb, ne_eqb}
use Rattle.format.specs.Steps.{read_number, read_bind, read_done, read_refuse}
use Rattle.super_block.specs.SuperBlocks.{addresses}
use Rattle.super_block.proofs.addresses.Goals as goal

pub returns-in_err-base_address : goal.returns-in_err-base_address
unfolding addresses
returns-in_err-base_address c = rw (read_number, ← c.varint.ensures, c.in_err-base_address.was, handed_on c.from_residual.result c.in_err-base_address.field-0.0 c.from_residual.ensures.1)

pub returns-then-base_address-ne0 : goal.returns-then-base_address-ne0
unfolding addresses
returns-then-base_address-ne0 c = rw (read_number, ← c.varint.ensures, c.in_ok-base_address.was, ne_eqb _ _ c.if-base_address-ne0.true, read_refuse)

pub returns-in_err-superblock_extension_address : goal.returns-in_err-superblock_extension_address
unfolding addresses
returns-in_err-superblock_extension_address c = rw (read_number, ← c.varint.ensures, c.in_ok-base_address.was, eq-eqb _ _ c.if-base_address-ne0.false, read_bind, ← c.address.ensures, c.in_err-superblock_extension_address.was, handed_on c.from_residual-in_err-superblock_extension_address.result c.in_err-superblock_extension_address.field-0.0 c.from_residual-in_err-superblock_extension_address.ensures.1)

pub returns-in_err-end_of_file_address : goal.returns-in_err-end_of_file_address
unfolding addresses
returns-in_err-end_of_file_address c = rw (read_number, ← c.varint.ensures, c.in_ok-base_address.was, eq-eqb _ _ c.if-base_address-ne0.false, read_bind, ← c.address.ensures, c.in_ok-superblock_extension_address.was, read_bind, ← c.defined_address.ensures, c.in_err-end_of_file_address.was, handed_on c.from_residual-in_err-end_of_file_address.result c.in_err-end_of_file_address.field-0.0 c.from_residual-in_err-end_of_file_address.ensures.1)

pub returns-in_err-root_group_object_header_address : goal.returns-in_err-root_group_object_header_address
unfolding addresses
returns-in_err-root_group_object_header_address c = rw (read_number, ← c.varint.ensures, c.in_ok-base_address.was, eq-eqb _ _ c.if-base_address-ne0.false, read_bind, ← c.address.ensures, c.in_ok-superblock_extension_address.was, read_bind, ← c.defined_address.ensures, c.in_ok-end_of_file_address.was, read_bind, ← c.defined_address-2.ensures, c.in_err-root_group_object_header_address.was, handed_on c.from_residual-in_err-root_group_object_header_address.result c.in_err-root_group_object_header_address.field-0.0 c.from_residual-in_err-root_group_object_header_address.ensures.1)

pub returns-in_err-at : goal.returns-in_err-at
unfolding addresses
returns-in_err-at c = rw (read_number, ← c.varint.ensures, c.in_ok-base_address.was, eq-eqb _ _ c.if-base_address-ne0.false, read_bind, ← c.address.ensures, c.in_ok-superblock_extension_address.was, read_bind, ← c.defined_address.ensures, c.in_ok-end_of_file_address.was, read_bind, ← c.defined_address-2.ensures, c.in_ok-root_group_object_header_address.was, read_number, ← c.le_u32.ensures, c.in_err-at.was, handed_on c.from_residual-in_err-at.result c.in_err-at.field-0.0 c.from_residual-in_err-at.ensures.1)

pub returns : goal.returns
unfolding addresses
returns c = rw (read_number, ← c.varint.ensures, c.in_ok-base_address.was, eq-eqb _ _ c.if-base_address-ne0.false, read_bind, ← c.address.ensures, c.in_ok-superblock_extension_address.was, read_bind, ← c.defined_address.ensures, c.in_ok-end_of_file_address.was, read_bind, ← c.defined_address-2.ensures, c.in_ok-root_group_object_header_address.was, read_number, ← c.le_u32.ensures, c.in_ok-at.was, read_done)
