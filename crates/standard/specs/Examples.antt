-- Bytes that the tables are read in, one example for each: their fields, widths and order, also of what nothing that is read has. Assumes nothing.
use Rattle.std.specs.Prelude.{ℕ, ◌≡◌, refl, List, [], ◌∷◌}
use Rattle.std.proofs.Common.{arith}
use Rattle.format.specs.Bytes.{le}
use Rattle.format.specs.Format.{found, read, bind}
use Rattle.format.specs.Laws.{sound}
use Rattle.lookup3.specs.Lookup3.{plus, minus, rotate, mix_line, mix, final_line, final_mix, add_block, blocks, sum_of}
use Rattle.standard.specs.Fields.{Optional, absent, present, undefined, defined, optional, address, optional_address, raw, many}
use Rattle.standard.specs.Versions.{marked}
use Rattle.standard.specs.Superblocks.{superblock23}
use Rattle.standard.specs.Headers.{ObjectHeaderPrefix, object_header_prefix, message_prefix, HeaderMessage, header_message, continuation_message, continuation_signature}
use Rattle.standard.specs.Chunks.{gap, next, continued, block, ObjectHeader}
use Rattle.standard.specs.Dataspaces.{not_stored, stored, stored_sizes, dataspace1, dataspace2}
use Rattle.standard.specs.Infos.{link_info_message, group_info_message, attribute_info_message}
use Rattle.standard.specs.Storage.{fill_value_old, not_present, size_and_fill_value, size_and_fill_value_lem, fill_fields12, fill_value12, fill_value3, compact_storage, contiguous_storage, compact, contiguous, layout_properties, data_layout3}
use Rattle.standard.specs.Storage.{filter_fields1, filter_description1, pipeline_fields1, filter_pipeline1, filter_fields2, filter_description2, pipeline_fields2, filter_pipeline2}

-- version 3, offsets of 2 bytes and lengths of 4, and in every other field a value of its own
pub a_superblock : read (137 ∷ 72 ∷ 68 ∷ 70 ∷ 13 ∷ 10 ∷ 26 ∷ 10 ∷ 3 ∷ 2 ∷ 4 ∷ 5 ∷ 1 ∷ 6 ∷ 2 ∷ 7 ∷ 3 ∷ 8 ∷ 4 ∷ 9 ∷ 10 ∷ 0 ∷ 11 ∷ 0 ∷ []) superblock23 0
    ≡ found (record {
      format_signature = 0x0A1A0A0D46444889;
      version_number = 3;
      size_of_offsets = 2;
      size_of_lengths = 4;
      file_consistency_flags = 5;
      base_address = defined 0x0601;
      superblock_extension_address = defined 0x0702;
      end_of_file_address = defined 0x0803;
      root_group_object_header_address = defined 0x0904;
      superblock_checksum = 0x000B000A;
    }) 24
unfolding read bind le address superblock23
a_superblock = refl

-- flags with times, numbers of attributes, and a chunk size of 4 bytes
pub an_object_header : read (0x4F ∷ 0x48 ∷ 0x44 ∷ 0x52 ∷ 2 ∷ 0b110010 ∷ 1 ∷ 0 ∷ 0 ∷ 0 ∷ 2 ∷ 0 ∷ 0 ∷ 0 ∷ 3 ∷ 0 ∷ 0 ∷ 0 ∷ 4 ∷ 0 ∷ 0 ∷ 0 ∷ 8 ∷ 0 ∷ 6 ∷ 0 ∷ 10 ∷ 1 ∷ 0 ∷ 0 ∷ []) object_header_prefix 0
    ≡ found (record {
      signature = 0x5244484F;
      version = 2;
      flags = 0b110010;
      access_time = present 1;
      modification_time = present 2;
      change_time = present 3;
      birth_time = present 4;
      maximum_number_of_compact_attributes = present 8;
      minimum_number_of_dense_attributes = present 6;
      size_of_chunk_0 = 266;
    }) 30
unfolding read bind le optional object_header_prefix
an_object_header = refl

-- a message with a creation order, and one without
pub a_header_message : read (3 ∷ 1 ∷ 0 ∷ 4 ∷ 7 ∷ 0 ∷ 99 ∷ []) (header_message 4) 0
    ≡ found (record {
      prefix = record { header_message_type = 3; size_of_header_message_data = 1; header_message_flags = 4; header_message_creation_order = present 7 };
      header_message_data = record { position = 6; length = 1 };
    }) 7
unfolding read bind le optional raw message_prefix header_message
a_header_message = refl

pub another_header_message : read (3 ∷ 1 ∷ 0 ∷ 4 ∷ 7 ∷ []) (message_prefix 0) 0
    ≡ found (record { header_message_type = 3; size_of_header_message_data = 1; header_message_flags = 4; header_message_creation_order = absent }) 4
unfolding read bind le optional message_prefix
another_header_message = refl

-- all bits set in 2 bytes, and the same number in 3
pub an_undefined_address : (read (255 ∷ 255 ∷ []) (address 2) 0 ≡ found undefined 2) × (read (255 ∷ 255 ∷ 0 ∷ []) (address 3) 0 ≡ found (defined 65535) 3)
unfolding read le address
an_undefined_address = (refl, refl)

pub a_continuation : read (1 ∷ 2 ∷ 3 ∷ 0 ∷ 4 ∷ []) (continuation_message 3 2) 0 ≡ found (record { offset = defined 197121; length = 1024 }) 5
unfolding read bind le address continuation_message
a_continuation = refl

-- reserved bytes, two dimensions, their maximum sizes and permutation indices
pub a_dataspace : read (1 ∷ 2 ∷ 3 ∷ 8 ∷ 9 ∷ 1 ∷ 0 ∷ 0 ∷ 5 ∷ 0 ∷ 6 ∷ 0 ∷ 7 ∷ 0 ∷ 255 ∷ 255 ∷ 1 ∷ 0 ∷ 0 ∷ 0 ∷ []) (dataspace1 2) 0
    ≡ found (record {
      version = 1;
      dimensionality = 2;
      flags = 3;
      reserved = 8;
      reserved_2 = 265;
      dimension_size = 5 ∷ 6 ∷ [];
      dimension_maximum_size = stored (7 ∷ 65535 ∷ []);
      permutation_index = stored (1 ∷ 0 ∷ []);
    }) 20
unfolding read bind le many stored_sizes dataspace1
a_dataspace = refl

pub another_dataspace : read (2 ∷ 3 ∷ 0 ∷ 1 ∷ 5 ∷ 0 ∷ 6 ∷ 0 ∷ 7 ∷ 0 ∷ []) (dataspace2 2) 0
    ≡ found (record { version = 2; dimensionality = 3; flags = 0; type = 1; dimension_size = 5 ∷ 6 ∷ 7 ∷ []; dimension_maximum_size = not_stored }) 10
unfolding read bind le many stored_sizes dataspace2
another_dataspace = refl

pub a_link_info : read (0 ∷ 3 ∷ 1 ∷ 0 ∷ 0 ∷ 0 ∷ 0 ∷ 0 ∷ 0 ∷ 0 ∷ 2 ∷ 0 ∷ 3 ∷ 0 ∷ 4 ∷ 0 ∷ []) (link_info_message 2) 0
    ≡ found (record {
      version = 0;
      flags = 3;
      maximum_creation_index = present 1;
      fractal_heap_address = defined 2;
      address_of_v2_b_tree_for_name_index = defined 3;
      address_of_v2_b_tree_for_creation_order_index = present (defined 4);
    }) 16
unfolding read bind le optional address optional_address link_info_message
a_link_info = refl

pub a_group_info : read (0 ∷ 3 ∷ 1 ∷ 0 ∷ 2 ∷ 0 ∷ 3 ∷ 0 ∷ 4 ∷ 0 ∷ []) group_info_message 0
    ≡ found (record {
      version = 0;
      flags = 3;
      link_phase_change_maximum_compact_value = present 1;
      link_phase_change_minimum_dense_value = present 2;
      estimated_number_of_entries = present 3;
      estimated_link_name_length_of_entries = present 4;
    }) 10
unfolding read bind le optional group_info_message
a_group_info = refl

pub an_attribute_info : read (0 ∷ 3 ∷ 1 ∷ 0 ∷ 2 ∷ 0 ∷ 3 ∷ 0 ∷ 4 ∷ 0 ∷ []) (attribute_info_message 2) 0
    ≡ found (record {
      version = 0;
      flags = 3;
      maximum_creation_index = present 1;
      fractal_heap_address = defined 2;
      attribute_name_v2_b_tree_address = defined 3;
      attribute_creation_order_v2_b_tree_address = present (defined 4);
    }) 10
unfolding read bind le optional address optional_address attribute_info_message
an_attribute_info = refl

pub an_old_fill_value : read (2 ∷ 0 ∷ 0 ∷ 0 ∷ 7 ∷ 8 ∷ []) fill_value_old 0 ≡ found (record { size = 2; fill_value = record { position = 4; length = 2 } }) 6
unfolding read bind le raw fill_value_old
an_old_fill_value = refl

-- in version 1 the size is there also where no value is defined, in version 2 it is not
pub a_fill_value : read (1 ∷ 2 ∷ 1 ∷ 0 ∷ 0 ∷ 0 ∷ 0 ∷ 0 ∷ []) fill_value12 0
    ≡ found (record {
      fields = record { version = 1; space_allocation_time = 2; fill_value_write_time = 1; fill_value_defined = 0 };
      size_and_value = size_and_fill_value 0 (record { position = 8; length = 0 });
    }) 8
unfolding read bind le raw size_and_fill_value_lem fill_fields12 fill_value12
a_fill_value = refl

pub a_second_fill_value : read (2 ∷ 2 ∷ 1 ∷ 0 ∷ []) fill_value12 0
    ≡ found (record { fields = record { version = 2; space_allocation_time = 2; fill_value_write_time = 1; fill_value_defined = 0 }; size_and_value = not_present }) 4
unfolding read bind le raw size_and_fill_value_lem fill_fields12 fill_value12
a_second_fill_value = refl

pub a_third_fill_value : read (3 ∷ 0b100110 ∷ 1 ∷ 0 ∷ 0 ∷ 0 ∷ 7 ∷ []) fill_value3 0
    ≡ found (record { version = 3; flags = 0b100110; size_and_value = size_and_fill_value 1 (record { position = 6; length = 1 }) }) 7
unfolding read bind le raw size_and_fill_value_lem fill_value3
a_third_fill_value = refl

pub a_compact_layout : read (3 ∷ 0 ∷ 2 ∷ 0 ∷ 7 ∷ 8 ∷ []) (data_layout3 2 2) 0
    ≡ found (record { version = 3; layout_class = 0; properties = compact (record { size = 2; raw_data = record { position = 4; length = 2 } }) }) 6
unfolding read bind le raw marked compact_storage layout_properties data_layout3
a_compact_layout = refl

pub a_contiguous_layout : read (3 ∷ 1 ∷ 9 ∷ 0 ∷ 2 ∷ 0 ∷ 0 ∷ []) (data_layout3 2 3) 0
    ≡ found (record { version = 3; layout_class = 1; properties = contiguous (record { address = defined 9; size = 2 }) }) 7
unfolding read bind le marked address contiguous_storage layout_properties data_layout3
a_contiguous_layout = refl

-- a filter with a name, one value and its padding, and one without a name, whose two values need none
pub a_filter_pipeline : read (
    1 ∷ 2 ∷ 3 ∷ 0 ∷ 4 ∷ 0 ∷ 0 ∷ 0
    ∷ 5 ∷ 0 ∷ 8 ∷ 0 ∷ 6 ∷ 0 ∷ 1 ∷ 0 ∷ 110 ∷ 0 ∷ 0 ∷ 0 ∷ 0 ∷ 0 ∷ 0 ∷ 0 ∷ 9 ∷ 0 ∷ 0 ∷ 0 ∷ 7 ∷ 0 ∷ 0 ∷ 0
    ∷ 10 ∷ 0 ∷ 0 ∷ 0 ∷ 11 ∷ 0 ∷ 2 ∷ 0 ∷ 12 ∷ 0 ∷ 0 ∷ 0 ∷ 13 ∷ 0 ∷ 0 ∷ 0 ∷ []
    ) filter_pipeline1 0
    ≡ found (record {
      fields = record { version = 1; number_of_filters = 2; reserved = 3; reserved_2 = 4 };
      filter_description_list =
          record {
            fields = record { filter_identification_value = 5; name_length = 8; flags = 6; number_client_data_values = 1 };
            name = record { position = 16; length = 8 };
            client_data = 9 ∷ [];
            padding = present 7;
          }
          ∷ record {
            fields = record { filter_identification_value = 10; name_length = 0; flags = 11; number_client_data_values = 2 };
            name = record { position = 40; length = 0 };
            client_data = 12 ∷ 13 ∷ [];
            padding = absent;
          }
          ∷ [];
    }) 48
unfolding read bind le raw optional many filter_fields1 filter_description1 pipeline_fields1 filter_pipeline1
a_filter_pipeline = refl

-- a filter without a name, and one with a name
pub a_second_filter_pipeline : read (2 ∷ 2 ∷ 255 ∷ 0 ∷ 0 ∷ 0 ∷ 1 ∷ 0 ∷ 9 ∷ 0 ∷ 0 ∷ 0 ∷ 0 ∷ 1 ∷ 1 ∷ 0 ∷ 1 ∷ 0 ∷ 0 ∷ 0 ∷ 110 ∷ []) filter_pipeline2 0
    ≡ found (record {
      fields = record { version = 2; number_of_filters = 2 };
      filter_description_list =
          record {
            fields = record { filter_identification_value = 255; name_length = absent; flags = 0; number_client_data_values = 1 };
            name = record { position = 8; length = 0 };
            client_data = 9 ∷ [];
          }
          ∷ record {
            fields = record { filter_identification_value = 256; name_length = present 1; flags = 1; number_client_data_values = 0 };
            name = record { position = 20; length = 1 };
            client_data = [];
          }
          ∷ [];
    }) 21
unfolding read bind le raw optional many filter_fields2 filter_description2 pipeline_fields2 filter_pipeline2
a_second_filter_pipeline = refl

-- a header whose first chunk has a continuation message, and whose block has a NIL message, each with its checksum
abbrev pub continued_file : List ℕ
continued_file =
    0x4F ∷ 0x48 ∷ 0x44 ∷ 0x52 ∷ 2 ∷ 0 ∷ 8
    ∷ 16 ∷ 4 ∷ 0 ∷ 0 ∷ 19 ∷ 0 ∷ 12 ∷ 0
    ∷ 0x84 ∷ 0x45 ∷ 0x99 ∷ 0xC6
    ∷ 0x4F ∷ 0x43 ∷ 0x48 ∷ 0x4B
    ∷ 0 ∷ 0 ∷ 0 ∷ 0
    ∷ 0xE7 ∷ 0x60 ∷ 0xC8 ∷ 0xC7 ∷ []

-- the prefix of a header with one time four times, or none, and without numbers of attributes
abbrev pub plain_prefix : ℕ → Optional ℕ → ℕ → ObjectHeaderPrefix
plain_prefix flags time size =
    record {
      signature = 0x5244484F;
      version = 2;
      flags = flags;
      access_time = time;
      modification_time = time;
      change_time = time;
      birth_time = time;
      maximum_number_of_compact_attributes = absent;
      minimum_number_of_dense_attributes = absent;
      size_of_chunk_0 = size;
    }

abbrev pub plain_message : ℕ → ℕ → ℕ → HeaderMessage
plain_message type position size =
    record {
      prefix = record { header_message_type = type; size_of_header_message_data = size; header_message_flags = 0; header_message_creation_order = absent };
      header_message_data = record { position = position; length = size };
    }

unfoldable pub a_whole_header : ObjectHeader continued_file 2 2 0 (plain_message 16 11 4 ∷ plain_message 0 27 0 ∷ [])
unfolding read bind le optional raw object_header_prefix message_prefix header_message address continuation_message continuation_signature plus minus rotate mix_line mix final_line final_mix add_block blocks sum_of
a_whole_header =
    record {
      prefix = plain_prefix 0 absent 8;
      start = 7;
      prefix_stands = sound continued_file object_header_prefix 0 7 _ refl;
      chunk =
          continued 15 (record { offset = defined 19; length = 12 }) 19 (sound continued_file (header_message 0) 7 15 (plain_message 16 11 4) refl) refl
          (sound continued_file (continuation_message 2 2) 11 15 _ refl) refl
          (block {offset = 19} {size = 12} 23 0x4B48434F (sound continued_file continuation_signature 19 23 _ refl) (next (sound continued_file (header_message 0) 23 27 (plain_message 0 27 0) refl) (λ e. omega arith) (gap {p = 27} {e = 27} (omega arith) (omega arith))) (omega arith, refl))
          (gap {p = 15} {e = 15} (omega arith) (omega arith));
      checksum_stands = (omega arith, refl);
    }
