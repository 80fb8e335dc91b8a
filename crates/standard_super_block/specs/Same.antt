-- What the superblock that is read has of the specification's. Assumes nothing: these are definitions.
use Rattle.std.specs.Prelude.{◌≡◌}
use Rattle.super_block.specs.declared.SuperBlock.{SuperBlock}
use Rattle.standard.specs.Fields.{defined}
use Rattle.standard.specs.Superblocks.{Superblock}
use Rattle.standard_messages.specs.Same.{address_in}

-- each value that is handed on is the field of that name
pub record SameSuperBlock (ours : SuperBlock) (theirs : Superblock) : Type 0 where
  pub size_of_offsets : ours.size_of_offsets ≡ theirs.size_of_offsets
  pub size_of_lengths : ours.size_of_lengths ≡ theirs.size_of_lengths
  pub base_address : theirs.base_address ≡ defined ours.base_address
  pub superblock_extension_address : ours.superblock_extension_address ≡ address_in theirs.superblock_extension_address
  pub end_of_file_address : theirs.end_of_file_address ≡ defined ours.end_of_file_address
  pub root_group_object_header_address : theirs.root_group_object_header_address ≡ defined ours.root_group_object_header_address
