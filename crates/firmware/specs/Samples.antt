-- The words for C worked through, one case for each answer, every field with a value of its own: fields in each other's place are not these. Assumes nothing.
use Rattle.std.specs.Prelude.{◌≡◌, refl, Some, None, Ok, Err}
use Rattle.format.specs.Format.{found, refused}
use Rattle.records.specs.declared.Address.TheVariants as addresses
use Rattle.records.specs.declared.Refusal.TheVariants as refusals
use Rattle.super_block.specs.declared.SuperBlock.{SuperBlock}
use Rattle.firmware.specs.Words.{lookup_of, names_of, check_of}
use Rattle.firmware.specs.Blocks.{block_of}

abbrev block : SuperBlock
block =
    record {
      size_of_offsets = 8;
      size_of_lengths = 4;
      base_address = 11;
      superblock_extension_address = addresses.Number 22;
      end_of_file_address = 33;
      root_group_object_header_address = 44;
    }

pub a_superblock : block_of (found block 48)
    ≡ record {
      refused = 0;
      size_of_offsets = 8;
      size_of_lengths = 4;
      base_address = 11;
      superblock_extension_address = record { undefined = 0; number = 22 };
      end_of_file_address = 33;
      root_group_object_header_address = 44;
    }
a_superblock = refl

pub a_refused_superblock : block_of (refused 28)
    ≡ record {
      refused = 28;
      size_of_offsets = 0;
      size_of_lengths = 0;
      base_address = 0;
      superblock_extension_address = record { undefined = 0; number = 0 };
      end_of_file_address = 0;
      root_group_object_header_address = 0;
    }
a_refused_superblock = refl

pub a_check : check_of (Ok (record { next = 576; entries = 5; rows = 4 })) ≡ record { refused = 0; next = 576; entries = 5; rows = 4 }
a_check = refl

pub a_refused_check : check_of (Err refusals.Checksum) ≡ record { refused = 28; next = 0; entries = 0; rows = 0 }
a_refused_check = refl

pub a_lookup : lookup_of (Ok (Some 7)) ≡ record { refused = 0; found = 1; row = 7 }
a_lookup = refl

pub no_row : lookup_of (Ok None) ≡ record { refused = 0; found = 0; row = 0 }
no_row = refl

pub a_refused_lookup : lookup_of (Err refusals.Table) ≡ record { refused = 24; found = 0; row = 0 }
a_refused_lookup = refl

pub an_answered_set : names_of (Ok tt) ≡ 0
an_answered_set = refl

pub a_refused_set : names_of (Err refusals.Names) ≡ 29
a_refused_set = refl
