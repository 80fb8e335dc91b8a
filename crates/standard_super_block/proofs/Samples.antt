-- The first 576 bytes of `tester.sofa`, a SOFA file of libmysofa's tests that the HDF5 library wrote, are a superblock and a root header of the
-- specification of which the conditions hold; so a file of these bytes passes the check, and is accepted. Assumes nothing.
use Rattle.std.specs.Prelude.{ℕ, ◌+◌, ◌≡◌, refl, List, [], ◌∷◌, ◌++◌, replicate, Result, Ok}
use Rattle.std.proofs.Common.{arith}
use Rattle.std.specs.Int.Bits.{bit_and}
use Rattle.format.specs.Bytes.{le}
use Rattle.format.specs.Format.{Stands, bind, read}
use Rattle.format.specs.Laws.{sound}
use Rattle.records.specs.declared.Refusal.{Refusal}
use Rattle.parser.specs.declared.State.{State}
use Rattle.parser.specs.States.{state_for}
use Rattle.lookup3.specs.Lookup3.{plus, minus, rotate, mix_line, mix, final_line, final_mix, add_block, blocks, sum_of}
use Rattle.data_object_check.specs.declared.HeaderFigures.{HeaderFigures}
use Rattle.data_object_root.specs.Root.{CheckedRoot}
use Rattle.standard.specs.Fields.{present, undefined, defined, optional, address, optional_address, raw}
use Rattle.standard.specs.Headers.{HeaderMessage, object_header_prefix, message_prefix, header_message}
use Rattle.standard.specs.Chunks.{next, gap, ObjectHeader}
use Rattle.standard.specs.Infos.{link_info_message, group_info_message, attribute_info_message}
use Rattle.standard.specs.Examples.{plain_prefix}
use Rattle.standard.specs.Superblocks.{Superblock, superblock23}
use Rattle.standard_header.specs.Is.{read_types}
use Rattle.standard_header.proofs.Among.{none_among}
use Rattle.standard_header.specs.ReadHeaders.{ReadBody, link_info_lem, group_info_lem, attribute_info_lem, not_read, ReadMessage, levels}
use Rattle.standard_super_block.specs.ReadSuperblocks.{ReadSuperblock}
use Rattle.standard_super_block.specs.AcceptedAs.{CheckedRootHeader, ReadRootHeader}
use Rattle.standard_super_block.proofs.Accepts.{root_passes}

abbrev tester : List ℕ
tester =
    -- the superblock: version 2, widths of 8, base 0, no extension, 91,409 bytes, the root at 48
    (0x89 ∷ 0x48 ∷ 0x44 ∷ 0x46 ∷ 13 ∷ 10 ∷ 0x1A ∷ 10 ∷ 2 ∷ 8 ∷ 8 ∷ 0 ∷ 0 ∷ 0 ∷ 0 ∷ 0 ∷ 0 ∷ 0 ∷ 0 ∷ 0 ∷ 0xFF ∷ 0xFF ∷ 0xFF ∷ 0xFF ∷ 0xFF ∷ 0xFF ∷ 0xFF ∷ 0xFF ∷ [])
    ++ (0x11 ∷ 0x65 ∷ 1 ∷ 0 ∷ 0 ∷ 0 ∷ 0 ∷ 0 ∷ 0x30 ∷ 0 ∷ 0 ∷ 0 ∷ 0 ∷ 0 ∷ 0 ∷ 0 ∷ 0x4C ∷ 0x1B ∷ 0xE5 ∷ 0x66 ∷ [])
    -- `OHDR`, version 2, flags, four times, and 500 bytes of messages
    ++ (0x4F ∷ 0x48 ∷ 0x44 ∷ 0x52 ∷ 2 ∷ 0x2D ∷ 0xE7 ∷ 0xC0 ∷ 0xAD ∷ 0x58 ∷ 0xE7 ∷ 0xC0 ∷ 0xAD ∷ 0x58 ∷ 0xE7 ∷ 0xC0 ∷ 0xAD ∷ 0x58 ∷ 0xE7 ∷ 0xC0 ∷ 0xAD ∷ 0x58 ∷ 0xF4 ∷ 1 ∷ [])
    -- link info
    ++ (2 ∷ 0x22 ∷ 0 ∷ 0 ∷ 0 ∷ 0 ∷ 0 ∷ 3 ∷ 15 ∷ 0 ∷ 0 ∷ 0 ∷ 0 ∷ 0 ∷ 0 ∷ 0 ∷ 0xD3 ∷ 0x11 ∷ 0 ∷ 0 ∷ 0 ∷ 0 ∷ 0 ∷ 0 ∷ 0x65 ∷ 0x12 ∷ 0 ∷ 0 ∷ 0 ∷ 0 ∷ 0 ∷ 0 ∷ 0x8B ∷ 0x12 ∷ 0 ∷ 0 ∷ 0 ∷ 0 ∷ 0 ∷ 0 ∷ [])
    -- group info
    ++ (10 ∷ 2 ∷ 0 ∷ 1 ∷ 0 ∷ 0 ∷ 0 ∷ 0 ∷ [])
    -- attribute info
    ++ (0x15 ∷ 0x1C ∷ 0 ∷ 4 ∷ 0 ∷ 0 ∷ 0 ∷ 3 ∷ 0x16 ∷ 0 ∷ 0x40 ∷ 2 ∷ 0 ∷ 0 ∷ 0 ∷ 0 ∷ 0 ∷ 0 ∷ 0xD2 ∷ 2 ∷ 0 ∷ 0 ∷ 0 ∷ 0 ∷ 0 ∷ 0 ∷ 0xF8 ∷ 2 ∷ 0 ∷ 0 ∷ 0 ∷ 0 ∷ 0 ∷ 0 ∷ [])
    -- NIL, of 412 bytes
    ++ (0 ∷ 0x9C ∷ 1 ∷ 0 ∷ 0 ∷ 0 ∷ []) ++ replicate 412 0
    -- the checksum
    ++ (0x8B ∷ 0x48 ∷ 0x6A ∷ 0x81 ∷ [])

abbrev superblock : Superblock
superblock =
    record {
      format_signature = 0x0A1A0A0D46444889;
      version_number = 2;
      size_of_offsets = 8;
      size_of_lengths = 8;
      file_consistency_flags = 0;
      base_address = defined 0;
      superblock_extension_address = undefined;
      end_of_file_address = defined 91409;
      root_group_object_header_address = defined 48;
      superblock_checksum = 1726290764;
    }

pub a_superblock_stands : Stands tester superblock23 0 48 superblock
unfolding read bind le address superblock23
a_superblock_stands = sound tester superblock23 0 48 superblock refl

unfoldable pub a_superblock_that_is_read : ReadSuperblock tester 48 superblock
unfolding le plus minus rotate mix_line mix final_line final_mix add_block blocks sum_of
a_superblock_that_is_read =
    record {
      small = omega arith;
      offsets = refl;
      lengths = refl;
      base = refl;
      end_of_file = 91409;
      end_of_file_defined = refl;
      root = 48;
      root_defined = refl;
      checksum = refl;
    }

-- a message with a creation order of 0, as all of these have
abbrev ordered_message : ℕ → ℕ → ℕ → ℕ → HeaderMessage
ordered_message type flags position size =
    record {
      prefix = record { header_message_type = type; size_of_header_message_data = size; header_message_flags = flags; header_message_creation_order = present 0 };
      header_message_data = record { position = position; length = size };
    }

abbrev pub tester_messages : List HeaderMessage
tester_messages = ordered_message 2 0 78 34 ∷ ordered_message 10 1 118 2 ∷ ordered_message 21 4 126 28 ∷ ordered_message 0 0 160 412 ∷ []

unfoldable its_header : ObjectHeader tester 8 8 48 tester_messages
unfolding read bind le optional raw object_header_prefix message_prefix header_message plus minus rotate mix_line mix final_line final_mix add_block blocks sum_of
its_header =
    record {
      prefix = plain_prefix 0b101101 (present 1487782119) 500;
      start = 72;
      prefix_stands = sound tester object_header_prefix 48 72 _ refl;
      chunk =
          next (sound tester (header_message 0b101101) 72 112 (ordered_message 2 0 78 34) refl) (λ e. omega arith) (
          next (sound tester (header_message 0b101101) 112 120 (ordered_message 10 1 118 2) refl) (λ e. omega arith) (
          next (sound tester (header_message 0b101101) 120 154 (ordered_message 21 4 126 28) refl) (λ e. omega arith) (
          next (sound tester (header_message 0b101101) 154 572 (ordered_message 0 0 160 412) refl) (λ e. omega arith) (
          gap {p = 572} {e = 572} (omega arith) (omega arith)))));
      checksum_stands = (omega arith, refl);
    }

abbrev state : State
state = state_for 8 8 91409

links : ReadBody tester state 78 112 2
unfolding read bind le optional address optional_address link_info_message
links = link_info_lem 112 _ (sound tester (link_info_message 8) 78 112 _ refl) (omega arith)

group : ReadBody tester state 118 120 10
unfolding read bind le optional group_info_message
group = group_info_lem 120 _ (sound tester group_info_message 118 120 _ refl) (omega arith)

attributes : ReadBody tester state 126 154 21
unfolding read bind le optional address optional_address attribute_info_message
attributes = attribute_info_lem 154 _ (sound tester (attribute_info_message 8) 126 154 _ refl) (omega arith)

message : (type flags position size : ℕ) → bit_and flags 0b11111010 ≡ 0 → (type ≡ 16 → ⊥) → ReadBody tester state position (position + size) type → ReadMessage tester state (ordered_message type flags position size)
message type flags position size f n b = record { flags = f; body_read = λ _. b; block_read = λ q c o t h e. absurd (n t) }

unfoldable its_root : CheckedRootHeader tester a_superblock_that_is_read tester_messages
unfolding its_header levels a_superblock_that_is_read
its_root =
    record {
      header = its_header;
      widths = record { offsets_least = omega arith; offsets = omega arith; lengths_least = omega arith; lengths = omega arith };
      small = omega arith;
      prefix_read = record { no_attribute_numbers = refl; small = omega arith };
      few_levels = omega arith;
      messages_read = (
        message 2 0 78 34 refl (λ e. omega arith) links,
        (
          message 10 1 118 2 refl (λ e. omega arith) group,
          (
            message 21 4 126 28 refl (λ e. omega arith) attributes,
            (
              message 0 0 160 412 refl (λ e. omega arith) (not_read {type = 0} (none_among 0 read_types refl)),
              tt,
            ),
          ),
        ),
      );
      few = omega arith;
    }

-- with a table of four rows
pub a_root_that_is_accepted : ReadRootHeader tester a_superblock_that_is_read tester_messages 48
a_root_that_is_accepted = record { checked = its_root; room = omega arith }

-- and so every answer of the check is this one
pub tester_passes : (a : Result HeaderFigures Refusal) → CheckedRoot tester a → a ≡ Ok (record { next = 576; entries = 4; rows = 4 })
unfolding its_header its_root
tester_passes a c = root_passes tester 48 superblock a_superblock_stands a_superblock_that_is_read tester_messages its_root a c
