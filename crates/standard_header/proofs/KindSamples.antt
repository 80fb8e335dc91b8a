-- A header of the specification with a message of each kind, of which the conditions hold, and so it is accepted. Assumes nothing.
use Rattle.std.specs.Prelude.{ℕ, ◌+◌, ◌≡◌, refl, List, [], ◌∷◌, ◌++◌}
use Rattle.std.proofs.Common.{inl, inr, arith}
use Rattle.format.specs.Bytes.{le}
use Rattle.format.specs.Format.{bind, times, read}
use Rattle.format.specs.Laws.{sound, none}
use Rattle.parser.specs.declared.State.{State}
use Rattle.lookup3.specs.Lookup3.{plus, minus, rotate, mix_line, mix, final_line, final_mix, add_block, blocks, sum_of}
use Rattle.ohdr_datatype.specs.DataTypes.{known_class, known_type, data_type_header, type_layer, data_type}
use Rattle.ohdr_attribute.specs.Attributes.{type_space_value}
use Rattle.standard.specs.Fields.{absent, optional, address, optional_address, raw, many}
use Rattle.standard.specs.Versions.{by_version, marked}
use Rattle.standard.specs.Headers.{HeaderMessage, object_header_prefix, message_prefix, header_message}
use Rattle.standard.specs.Chunks.{next, gap, ObjectHeader}
use Rattle.standard.specs.Dataspaces.{stored_sizes, dataspace1, dataspace2, dataspace_message, product}
use Rattle.standard.specs.Datatypes.{datatype_header, fixed_point_lem, properties, datatype_of, datatype_message}
use Rattle.standard.specs.Infos.{link_info_message, group_info_message, attribute_info_message}
use Rattle.standard.specs.Storage.{fill_value_old, size_and_fill_value_lem, fill_fields12, fill_value12, fill_value3, fill_value_message, compact_storage, contiguous_storage, layout_properties, data_layout3}
use Rattle.standard.specs.Storage.{filter_fields1, filter_description1, pipeline_fields1, filter_pipeline1, filter_fields2, filter_description2, pipeline_fields2, filter_pipeline2, filter_pipeline_message}
use Rattle.standard.specs.Attributes.{sizes1, sizes3, sized, described, attribute1, attribute3, attribute_message}
use Rattle.standard.specs.Examples.{plain_prefix, plain_message}
use Rattle.standard_messages.specs.Differences.{scalar_with_sizes}
use Rattle.standard_header.specs.ReadHeaders.{ReadBody, dataspace, link_info_lem, datatype, fill_value_old_lem, fill_value, data_layout_lem, group_info_lem, attribute_info_lem, filter_pipeline_lem, attribute, attribute_of_version_1, attribute_of_version_3, not_read, ReadMessage, levels, ReadObjectHeader}
use Rattle.standard_header.specs.Is.{read_types}
use Rattle.standard_header.proofs.Among.{none_among}

abbrev kinds : List ℕ
kinds =
    -- `OHDR`, version 2, flags 1, and 355 bytes of messages
    (0x4F ∷ 0x48 ∷ 0x44 ∷ 0x52 ∷ 2 ∷ 1 ∷ 0x63 ∷ 1 ∷ [])
    -- a dataspace of version 2: one size of 3, its maximum unlimited
    ++ (1 ∷ 8 ∷ 0 ∷ 0 ∷ 2 ∷ 1 ∷ 1 ∷ 1 ∷ 3 ∷ 0 ∷ 0xFF ∷ 0xFF ∷ [])
    -- a dataspace of version 1: sizes 4 and 5
    ++ (1 ∷ 12 ∷ 0 ∷ 0 ∷ 1 ∷ 2 ∷ 0 ∷ 0 ∷ 0 ∷ 0 ∷ 0 ∷ 0 ∷ 4 ∷ 0 ∷ 5 ∷ 0 ∷ [])
    -- link info: both indices
    ++ (2 ∷ 0x10 ∷ 0 ∷ 0 ∷ 0 ∷ 3 ∷ 9 ∷ 0 ∷ 0 ∷ 0 ∷ 0 ∷ 0 ∷ 0 ∷ 0 ∷ 10 ∷ 0 ∷ 11 ∷ 0 ∷ 12 ∷ 0 ∷ [])
    -- a datatype: a signed number of 4 bytes
    ++ (3 ∷ 12 ∷ 0 ∷ 0 ∷ 0x10 ∷ 8 ∷ 0 ∷ 0 ∷ 4 ∷ 0 ∷ 0 ∷ 0 ∷ 0 ∷ 0 ∷ 0x20 ∷ 0 ∷ [])
    -- an old fill value of 2 bytes
    ++ (4 ∷ 6 ∷ 0 ∷ 0 ∷ 2 ∷ 0 ∷ 0 ∷ 0 ∷ 7 ∷ 8 ∷ [])
    -- a fill value of version 2
    ++ (5 ∷ 10 ∷ 0 ∷ 0 ∷ 2 ∷ 2 ∷ 2 ∷ 1 ∷ 2 ∷ 0 ∷ 0 ∷ 0 ∷ 8 ∷ 9 ∷ [])
    -- a fill value of version 3
    ++ (5 ∷ 7 ∷ 0 ∷ 0 ∷ 3 ∷ 0x20 ∷ 1 ∷ 0 ∷ 0 ∷ 0 ∷ 6 ∷ [])
    -- a layout: 3 bytes at 5
    ++ (8 ∷ 6 ∷ 0 ∷ 0 ∷ 3 ∷ 1 ∷ 5 ∷ 0 ∷ 3 ∷ 0 ∷ [])
    -- a layout: 2 compact bytes
    ++ (8 ∷ 6 ∷ 0 ∷ 0 ∷ 3 ∷ 0 ∷ 2 ∷ 0 ∷ 3 ∷ 4 ∷ [])
    -- group info: both pairs of values
    ++ (10 ∷ 10 ∷ 0 ∷ 0 ∷ 0 ∷ 3 ∷ 8 ∷ 0 ∷ 6 ∷ 0 ∷ 4 ∷ 0 ∷ 5 ∷ 0 ∷ [])
    -- a filter pipeline of version 1: one filter, with a name of 8 bytes and one value
    ++ (11 ∷ 0x20 ∷ 0 ∷ 0 ∷ 1 ∷ 1 ∷ 0 ∷ 0 ∷ 0 ∷ 0 ∷ 0 ∷ 0 ∷ 1 ∷ 0 ∷ 8 ∷ 0 ∷ 3 ∷ 0 ∷ 1 ∷ 0 ∷ 0x6E ∷ 0 ∷ 0 ∷ 0 ∷ 0 ∷ 0 ∷ 0 ∷ 0 ∷ 9 ∷ 0 ∷ 0 ∷ 0 ∷ 0 ∷ 0 ∷ 0 ∷ 0 ∷ [])
    -- a filter pipeline of version 2: one filter with two values
    ++ (11 ∷ 0x10 ∷ 0 ∷ 0 ∷ 2 ∷ 1 ∷ 2 ∷ 0 ∷ 1 ∷ 0 ∷ 2 ∷ 0 ∷ 7 ∷ 0 ∷ 0 ∷ 0 ∷ 8 ∷ 0 ∷ 0 ∷ 0 ∷ [])
    -- an attribute of version 3: Unit, a text of 5 bytes
    ++ (12 ∷ 0x1F ∷ 0 ∷ 0 ∷ 3 ∷ 0 ∷ 5 ∷ 0 ∷ 8 ∷ 0 ∷ 4 ∷ 0 ∷ 0 ∷ 0x55 ∷ 0x6E ∷ 0x69 ∷ 0x74 ∷ 0 ∷ 0x13 ∷ 0 ∷ 0 ∷ 0 ∷ 5 ∷ 0 ∷ 0 ∷ 0 ∷ 2 ∷ 0 ∷ 0 ∷ 0 ∷ 0x6D ∷ 0x65 ∷ 0x74 ∷ 0x72 ∷ 0x65 ∷ [])
    -- an attribute of version 1: Rate, a number of 2 bytes
    ++ (12 ∷ 0x2A ∷ 0 ∷ 0 ∷ 1 ∷ 0 ∷ 5 ∷ 0 ∷ 12 ∷ 0 ∷ 8 ∷ 0 ∷ 0x52 ∷ 0x61 ∷ 0x74 ∷ 0x65 ∷ 0 ∷ 0 ∷ 0 ∷ 0 ∷ 0x10 ∷ 0 ∷ 0 ∷ 0 ∷ 2 ∷ 0 ∷ 0 ∷ 0 ∷ 0 ∷ 0 ∷ 0x10 ∷ 0 ∷ 0 ∷ 0 ∷ 0 ∷ 0 ∷ 1 ∷ 0 ∷ 0 ∷ 0 ∷ 0 ∷ 0 ∷ 0 ∷ 0 ∷ 0x80 ∷ 0xBB ∷ [])
    -- an attribute of version 3, of which only the name is read: its type is opaque
    ++ (12 ∷ 0x18 ∷ 0 ∷ 0 ∷ 3 ∷ 0 ∷ 2 ∷ 0 ∷ 8 ∷ 0 ∷ 4 ∷ 0 ∷ 0 ∷ 0x42 ∷ 0 ∷ 0x15 ∷ 0 ∷ 0 ∷ 0 ∷ 1 ∷ 0 ∷ 0 ∷ 0 ∷ 2 ∷ 0 ∷ 0 ∷ 0 ∷ 7 ∷ [])
    -- the same in version 1
    ++ (12 ∷ 0x21 ∷ 0 ∷ 0 ∷ 1 ∷ 0 ∷ 2 ∷ 0 ∷ 8 ∷ 0 ∷ 8 ∷ 0 ∷ 0x43 ∷ 0 ∷ 0 ∷ 0 ∷ 0 ∷ 0 ∷ 0 ∷ 0 ∷ 0x15 ∷ 0 ∷ 0 ∷ 0 ∷ 1 ∷ 0 ∷ 0 ∷ 0 ∷ 1 ∷ 0 ∷ 0 ∷ 0 ∷ 0 ∷ 0 ∷ 0 ∷ 0 ∷ 7 ∷ [])
    -- attribute info: both indices
    ++ (0x15 ∷ 10 ∷ 0 ∷ 0 ∷ 0 ∷ 3 ∷ 9 ∷ 0 ∷ 10 ∷ 0 ∷ 11 ∷ 0 ∷ 12 ∷ 0 ∷ [])
    -- a message of a type that is not read
    ++ (0x16 ∷ 2 ∷ 0 ∷ 0 ∷ 1 ∷ 2 ∷ [])
    -- the checksum
    ++ (9 ∷ 0xFD ∷ 0x55 ∷ 0x8A ∷ [])

abbrev kind_messages : List HeaderMessage
kind_messages =
    plain_message 1 12 8
    ∷ plain_message 1 24 12
    ∷ plain_message 2 40 16
    ∷ plain_message 3 60 12
    ∷ plain_message 4 76 6
    ∷ plain_message 5 86 10
    ∷ plain_message 5 100 7
    ∷ plain_message 8 111 6
    ∷ plain_message 8 121 6
    ∷ plain_message 10 131 10
    ∷ plain_message 11 145 32
    ∷ plain_message 11 181 16
    ∷ plain_message 12 201 31
    ∷ plain_message 12 236 42
    ∷ plain_message 12 282 24
    ∷ plain_message 12 310 33
    ∷ plain_message 21 347 10
    ∷ plain_message 22 361 2 ∷ []

unfoldable its_header : ObjectHeader kinds 2 2 0 kind_messages
unfolding read bind le optional raw object_header_prefix message_prefix header_message plus minus rotate mix_line mix final_line final_mix add_block blocks sum_of
its_header =
    record {
      prefix = plain_prefix 1 absent 355;
      start = 8;
      prefix_stands = sound kinds object_header_prefix 0 8 _ refl;
      chunk =
          next (sound kinds (header_message 1) 8 20 (plain_message 1 12 8) refl) (λ e. omega arith) (
          next (sound kinds (header_message 1) 20 36 (plain_message 1 24 12) refl) (λ e. omega arith) (
          next (sound kinds (header_message 1) 36 56 (plain_message 2 40 16) refl) (λ e. omega arith) (
          next (sound kinds (header_message 1) 56 72 (plain_message 3 60 12) refl) (λ e. omega arith) (
          next (sound kinds (header_message 1) 72 82 (plain_message 4 76 6) refl) (λ e. omega arith) (
          next (sound kinds (header_message 1) 82 96 (plain_message 5 86 10) refl) (λ e. omega arith) (
          next (sound kinds (header_message 1) 96 107 (plain_message 5 100 7) refl) (λ e. omega arith) (
          next (sound kinds (header_message 1) 107 117 (plain_message 8 111 6) refl) (λ e. omega arith) (
          next (sound kinds (header_message 1) 117 127 (plain_message 8 121 6) refl) (λ e. omega arith) (
          next (sound kinds (header_message 1) 127 141 (plain_message 10 131 10) refl) (λ e. omega arith) (
          next (sound kinds (header_message 1) 141 177 (plain_message 11 145 32) refl) (λ e. omega arith) (
          next (sound kinds (header_message 1) 177 197 (plain_message 11 181 16) refl) (λ e. omega arith) (
          next (sound kinds (header_message 1) 197 232 (plain_message 12 201 31) refl) (λ e. omega arith) (
          next (sound kinds (header_message 1) 232 278 (plain_message 12 236 42) refl) (λ e. omega arith) (
          next (sound kinds (header_message 1) 278 306 (plain_message 12 282 24) refl) (λ e. omega arith) (
          next (sound kinds (header_message 1) 306 343 (plain_message 12 310 33) refl) (λ e. omega arith) (
          next (sound kinds (header_message 1) 343 357 (plain_message 21 347 10) refl) (λ e. omega arith) (
          next (sound kinds (header_message 1) 357 363 (plain_message 22 361 2) refl) (λ e. omega arith) (
          gap {p = 363} {e = 363} (omega arith) (omega arith)))))))))))))))))));
      checksum_stands = (omega arith, refl);
    }

-- widths of 2 bytes
abbrev state : State
state = record { size_of_lengths = 2; size_of_offsets = 2; end_of_file_address = 367 }

-- each message by itself
abbrev Body : ℕ → ℕ → ℕ → Type 0
Body type position size = ReadBody kinds state position (position + size) type

unlimited : Body 1 12 8
unfolding read bind le many by_version marked stored_sizes dataspace1 dataspace2 dataspace_message
unlimited =
    dataspace 20 _ (sound kinds (dataspace_message 2) 12 20 _ refl) (omega arith)
    (record { few = omega arith; sizes = (omega arith, tt); maximum_sizes_lem = (inr refl, tt); no_permutation = refl; no_scalar_with_sizes = λ d. elim d [ scalar_with_sizes e f ↦ omega (arith, e) ] })

two_sizes : Body 1 24 12
unfolding read bind le many by_version marked stored_sizes dataspace1 dataspace2 dataspace_message
two_sizes =
    dataspace 36 _ (sound kinds (dataspace_message 2) 24 36 _ refl) (omega arith)
    (record { few = omega arith; sizes = (omega arith, (omega arith, tt)); maximum_sizes_lem = tt; no_permutation = refl; no_scalar_with_sizes = elim [ ] })

links : Body 2 40 16
unfolding read bind le optional address optional_address link_info_message
links = link_info_lem 56 _ (sound kinds (link_info_message 2) 40 56 _ refl) (omega arith)

number : Body 3 60 12
unfolding read bind le datatype_header fixed_point_lem properties datatype_of datatype_message
number = datatype 4095 72 _ (sound kinds (datatype_message 4095 32) 60 72 _ refl) (omega arith) (record { small_size = omega arith; float = tt; members = tt }, tt)

old_fill : Body 4 76 6
unfolding read bind le raw fill_value_old
old_fill = fill_value_old_lem 82 _ (sound kinds fill_value_old 76 82 _ refl) (omega arith)

fill_2 : Body 5 86 10
unfolding read bind le raw by_version marked size_and_fill_value_lem fill_fields12 fill_value12 fill_value3 fill_value_message
fill_2 = fill_value 96 _ (sound kinds fill_value_message 86 96 _ refl) (omega arith) (record { allocation = inl refl; write_time = refl; defined = omega arith; in_version_1 = λ e. omega (arith, e) })

fill_3 : Body 5 100 7
unfolding read bind le raw by_version marked size_and_fill_value_lem fill_fields12 fill_value12 fill_value3 fill_value_message
fill_3 = fill_value 107 _ (sound kinds fill_value_message 100 107 _ refl) (omega arith) tt

bytes : Body 8 111 6
unfolding read bind le raw address marked compact_storage contiguous_storage layout_properties data_layout3
bytes = data_layout_lem 117 _ (sound kinds (data_layout3 2 2) 111 117 _ refl) (omega arith) (record { small = omega arith; inside = λ a e l u. let i : 5 ≡ a = cc in omega arith })

compact_bytes : Body 8 121 6
unfolding read bind le raw address marked compact_storage contiguous_storage layout_properties data_layout3
compact_bytes = data_layout_lem 127 _ (sound kinds (data_layout3 2 2) 121 127 _ refl) (omega arith) tt

group : Body 10 131 10
unfolding read bind le optional group_info_message
group = group_info_lem 141 _ (sound kinds group_info_message 131 141 _ refl) (omega arith)

filters_1 : Body 11 145 32
unfolding read bind times le raw optional many by_version marked filter_fields1 filter_description1 pipeline_fields1 filter_pipeline1 filter_fields2 filter_description2 pipeline_fields2 filter_pipeline2 filter_pipeline_message
filters_1 =
    filter_pipeline_lem 177 _ (sound kinds filter_pipeline_message 145 177 _ refl) (omega arith)
    (record { few = omega arith; reserved = refl; reserved_2 = refl; filters = (record { name_padded = refl; name_short = omega arith; values = omega arith }, tt) })

filters_2 : Body 11 181 16
unfolding read bind times le raw optional many by_version marked filter_fields1 filter_description1 pipeline_fields1 filter_pipeline1 filter_fields2 filter_description2 pipeline_fields2 filter_pipeline2 filter_pipeline_message
filters_2 = filter_pipeline_lem 197 _ (sound kinds filter_pipeline_message 181 197 _ refl) (omega arith) (record { few = omega arith; filters = (record { no_name = omega arith; values = omega arith }, tt) })

text : Body 12 201 31
unfolding read bind le many raw by_version marked datatype_header properties datatype_of datatype_message stored_sizes dataspace1 dataspace2 dataspace_message sizes1 sizes3 sized described product attribute1 attribute3 attribute_message
text =
    attribute 4095 232 _ (sound kinds (attribute_message 4095 32 2) 201 232 _ refl) (omega arith) (record {
      name_size = omega arith;
      described = record {
        datatype = (record { small_size = omega arith; float = tt; members = tt }, tt);
        dataspace = record { few = omega arith; sizes = tt; maximum_sizes_lem = tt; no_permutation = refl; no_scalar_with_sizes = λ d. elim d [ scalar_with_sizes e f ↦ f refl ] };
        variable_length = λ e. absurd (omega (arith, e));
        short = λ _. omega arith;
      };
    })

rate : Body 12 236 42
unfolding read bind le many raw by_version marked datatype_header fixed_point_lem properties datatype_of datatype_message stored_sizes dataspace1 dataspace2 dataspace_message sizes1 sizes3 sized described product attribute1 attribute3 attribute_message
rate =
    attribute 4095 278 _ (sound kinds (attribute_message 4095 32 2) 236 278 _ refl) (omega arith) (record {
      name_size = omega arith;
      described = record {
        datatype = (record { small_size = omega arith; float = tt; members = tt }, tt);
        dataspace = record { few = omega arith; sizes = tt; maximum_sizes_lem = tt; no_permutation = refl; no_scalar_with_sizes = elim [ ] };
        variable_length = λ e. absurd (omega (arith, e));
        short = λ _. omega arith;
      };
    })

-- their datatypes, which are opaque, are not read
name_3 : Body 12 282 24
unfolding read bind le sizes3 known_class known_type data_type_header type_layer data_type type_space_value
name_3 = attribute_of_version_3 291 _ (sound kinds sizes3 282 291 _ refl) (omega arith) (omega arith) (λ q v h. absurd (none kinds (type_space_value 3 state) 293 11 refl q v h))

name_1 : Body 12 310 33
unfolding read bind le sizes1 known_class known_type data_type_header type_layer data_type type_space_value
name_1 = attribute_of_version_1 318 _ (sound kinds sizes1 310 318 _ refl) (omega arith) (omega arith) (λ q v h. absurd (none kinds (type_space_value 1 state) 326 11 refl q v h))

attributes : Body 21 347 10
unfolding read bind le optional address optional_address attribute_info_message
attributes = attribute_info_lem 357 _ (sound kinds (attribute_info_message 2) 347 357 _ refl) (omega arith)

other : Body 22 361 2
other = not_read {type = 22} (none_among 22 read_types refl)

message : (type position size : ℕ) → (type ≡ 16 → ⊥) → Body type position size → ReadMessage kinds state (plain_message type position size)
message type position size n b = record { flags = refl; body_read = λ _. b; block_read = λ q c o t h e. absurd (n t) }

-- a table of 18 rows
pub a_header_of_each_kind : ReadObjectHeader kinds 2 2 367 0 216 kind_messages
unfolding its_header levels
a_header_of_each_kind =
    record {
      checked = record {
        header = its_header;
        widths = record { offsets_least = omega arith; offsets = omega arith; lengths_least = omega arith; lengths = omega arith };
        small = omega arith;
        prefix_read = record { no_attribute_numbers = refl; small = omega arith };
        few_levels = omega arith;
        messages_read = (
          message 1 12 8 (λ e. omega arith) unlimited,
          (
            message 1 24 12 (λ e. omega arith) two_sizes,
            (
              message 2 40 16 (λ e. omega arith) links,
              (
                message 3 60 12 (λ e. omega arith) number,
                (
                  message 4 76 6 (λ e. omega arith) old_fill,
                  (
                    message 5 86 10 (λ e. omega arith) fill_2,
                    (
                      message 5 100 7 (λ e. omega arith) fill_3,
                      (
                        message 8 111 6 (λ e. omega arith) bytes,
                        (
                          message 8 121 6 (λ e. omega arith) compact_bytes,
                          (
                            message 10 131 10 (λ e. omega arith) group,
                            (
                              message 11 145 32 (λ e. omega arith) filters_1,
                              (
                                message 11 181 16 (λ e. omega arith) filters_2,
                                (
                                  message 12 201 31 (λ e. omega arith) text,
                                  (
                                    message 12 236 42 (λ e. omega arith) rate,
                                    (
                                      message 12 282 24 (λ e. omega arith) name_3,
                                      (
                                        message 12 310 33 (λ e. omega arith) name_1,
                                        (
                                          message 21 347 10 (λ e. omega arith) attributes,
                                          (
                                            message 22 361 2 (λ e. omega arith) other,
                                            tt,
                                          ),
                                        ),
                                      ),
                                    ),
                                  ),
                                ),
                              ),
                            ),
                          ),
                        ),
                      ),
                    ),
                  ),
                ),
              ),
            ),
          ),
        );
        few = omega arith;
      };
      room = omega arith;
    }
