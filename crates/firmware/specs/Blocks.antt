-- The words that are handed to C for a superblock. Assumes nothing: these are definitions.
use Rattle.format.specs.Format.{Out, found, refused}
use Rattle.records.specs.declared.Address.{Address}
use Rattle.records.specs.declared.Address.TheVariants as addresses
use Rattle.super_block.specs.declared.SuperBlock.{SuperBlock}
use Rattle.record_words.specs.Words.{undefined, number_of}
use Rattle.firmware.specs.declared.AddressWords.{AddressWords}
use Rattle.firmware.specs.declared.SuperBlockWords.{SuperBlockWords}

abbrev pub words_of_address : Address → AddressWords
words_of_address address = record { undefined = undefined address; number = number_of address }

-- 0 and the fields; where it is refused, the number and zeros
abbrev pub block_of : Out SuperBlock → SuperBlockWords
block_of (found b q) =
    record {
      refused = 0;
      size_of_offsets = b.size_of_offsets;
      size_of_lengths = b.size_of_lengths;
      base_address = b.base_address;
      superblock_extension_address = words_of_address b.superblock_extension_address;
      end_of_file_address = b.end_of_file_address;
      root_group_object_header_address = b.root_group_object_header_address;
    }
block_of (refused r) =
    record {
      refused = r;
      size_of_offsets = 0;
      size_of_lengths = 0;
      base_address = 0;
      superblock_extension_address = words_of_address (addresses.Number 0);
      end_of_file_address = 0;
      root_group_object_header_address = 0;
    }
