-- A text and a number of each version of the attribute message, and a text with a null dataspace: what `text_value_lem` and `number_value_lem` ask is met, and the value is the standard's. Assumes nothing.
use Rattle.std.specs.Prelude.{ℕ, zero, suc, ◌≡◌, refl, Bool, true, ◌&&◌, List, [], ◌∷◌, ◌++◌, ltb, replicate}
use Rattle.std.proofs.Common.{inl, inr, arith, ltb-true}
use Rattle.format.specs.Bools.{and_left, and_right}
use Rattle.format.specs.Bytes.{AreBytes, le}
use Rattle.format.specs.Format.{read, bind}
use Rattle.format.specs.Laws.{sound}
use Rattle.parser.specs.declared.State.{State}
use Rattle.standard.specs.Fields.{many, raw}
use Rattle.standard.specs.Versions.{by_version, marked}
use Rattle.standard.specs.Datatypes.{datatype_header, datatype, fixed_point_lem, fixed_point, floating_point_lem, floating_point, no_properties, properties, datatype_of, datatype_message}
use Rattle.standard.specs.Dataspaces.{not_stored, stored, stored_sizes, dataspace1, dataspace2, version_1, version_2, dataspace_message, product}
use Rattle.standard.specs.Attributes.{sizes1, sizes3, sized, described, Attribute, of_version_1, of_version_3, attribute1, attribute3, attribute_message}
use Rattle.standard_datatype.specs.ReadTypes.{single}
use Rattle.standard_messages.specs.Differences.{ElementsDiffer, scalar_with_sizes}
use Rattle.standard_attribute.specs.ReadValues.{described_of, TextValue, TextIs, NumberValue, NumberIs, ValueStands}
use Rattle.standard_attribute.proofs.Values.{text_value_lem, number_value_lem}

-- lengths of 2 bytes
abbrev state : State
state = record { size_of_lengths = 2; size_of_offsets = 2; end_of_file_address = 0 }

-- version 1, a name of 8 bytes and its zero, padded to 16, a string of 2 bytes, a dataspace of version 1 without dimensions, and the text `v`
abbrev file1 : List ℕ
file1 =
    (1 ∷ 0 ∷ 9 ∷ 0 ∷ 8 ∷ 0 ∷ 8 ∷ 0 ∷ []) ++ replicate 8 0x6E ++ replicate 8 0
    ++ (0x13 ∷ 0 ∷ 0 ∷ 0 ∷ 2 ∷ 0 ∷ 0 ∷ 0 ∷ []) ++ (1 ∷ 0 ∷ 0 ∷ 0 ∷ 0 ∷ 0 ∷ 0 ∷ 0 ∷ []) ++ (0x76 ∷ 0 ∷ [])

abbrev text1 : Attribute
text1 =
    of_version_1 (record {
      sizes = record { version = 1; reserved = 0; name_size = 9; datatype_size = 8; dataspace_size = 8 };
      name = record { position = 8; length = 9 };
      name_padding = 0;
      described = record {
        datatype = datatype (record { class_and_version = 0x13; class_bit_field = 0; size = 2 }) no_properties;
        datatype_padding = 0;
        dataspace = version_1 (record { version = 1; dimensionality = 0; flags = 0; reserved = 0; reserved_2 = 0; dimension_size = []; dimension_maximum_size = not_stored; permutation_index = not_stored });
        dataspace_padding = 0;
      };
      «data» = record { position = 40; length = 2 };
    })

met1 : TextValue 2 text1
met1 =
    record {
      name_size = omega arith;
      described = record {
        string = refl;
        some_size = omega arith;
        small_size = omega arith;
        dataspace = record { few = omega arith; sizes = tt; maximum_sizes_lem = tt; no_permutation = refl; no_scalar_with_sizes = simple };
      };
    }
  where
    simple : ElementsDiffer (described_of text1).dataspace → ⊥
    simple = elim [ ]

pub a_text_of_version_1 : ValueStands file1 state 0 42 (record { position = 8; length = 9 }) (TextIs file1 (described_of text1) (record { position = 40; length = 2 }))
unfolding read bind le many raw by_version marked datatype_header properties datatype_of datatype_message stored_sizes dataspace1 dataspace2 dataspace_message sizes1 sizes3 sized described product attribute1 attribute3 attribute_message
a_text_of_version_1 = text_value_lem file1 state 4095 1 0 42 text1 (sound file1 (attribute_message 4095 1 2) 0 42 text1 refl) met1

-- version 3, a name `n`, strings of 2 bytes, a dataspace of version 2 with a size of 2 and an unlimited maximum, and the texts `a` and `b`
abbrev file3 : List ℕ
file3 =
    (3 ∷ 0 ∷ 2 ∷ 0 ∷ 8 ∷ 0 ∷ 8 ∷ 0 ∷ 0 ∷ 0x6E ∷ 0 ∷ []) ++ (0x13 ∷ 0 ∷ 0 ∷ 0 ∷ 2 ∷ 0 ∷ 0 ∷ 0 ∷ []) ++ (2 ∷ 1 ∷ 1 ∷ 1 ∷ 2 ∷ 0 ∷ 255 ∷ 255 ∷ [])
    ++ (0x61 ∷ 0 ∷ 0x62 ∷ 0 ∷ [])

abbrev text3 : Attribute
text3 =
    of_version_3 (record {
      sizes = record { version = 3; flags = 0; name_size = 2; datatype_size = 8; dataspace_size = 8; name_character_set_encoding = 0 };
      name = record { position = 9; length = 2 };
      described = record {
        datatype = datatype (record { class_and_version = 0x13; class_bit_field = 0; size = 2 }) no_properties;
        datatype_padding = 0;
        dataspace = version_2 (record { version = 2; dimensionality = 1; flags = 1; type = 1; dimension_size = 2 ∷ []; dimension_maximum_size = stored (65535 ∷ []) });
        dataspace_padding = 0;
      };
      «data» = record { position = 27; length = 4 };
    })

met3 : TextValue 2 text3
met3 =
    record {
      name_size = omega arith;
      described = record {
        string = refl;
        some_size = omega arith;
        small_size = omega arith;
        dataspace = record { few = omega arith; sizes = (omega arith, tt); maximum_sizes_lem = (inr refl, tt); no_permutation = refl; no_scalar_with_sizes = simple };
      };
    }
  where
    simple : ElementsDiffer (described_of text3).dataspace → ⊥
    simple (scalar_with_sizes e f) = omega arith

pub a_text_of_version_3 : ValueStands file3 state 0 31 (record { position = 9; length = 2 }) (TextIs file3 (described_of text3) (record { position = 27; length = 4 }))
unfolding read bind le many raw by_version marked datatype_header properties datatype_of datatype_message stored_sizes dataspace1 dataspace2 dataspace_message sizes1 sizes3 sized described product attribute1 attribute3 attribute_message
a_text_of_version_3 = text_value_lem file3 state 4095 1 0 31 text3 (sound file3 (attribute_message 4095 1 2) 0 31 text3 refl) met3

-- version 3, a name `n`, strings of 2 bytes, a null dataspace with a size of 2, no data, and a byte behind it
abbrev file_null : List ℕ
file_null =
    (3 ∷ 0 ∷ 2 ∷ 0 ∷ 8 ∷ 0 ∷ 6 ∷ 0 ∷ 0 ∷ 0x6E ∷ 0 ∷ []) ++ (0x13 ∷ 0 ∷ 0 ∷ 0 ∷ 2 ∷ 0 ∷ 0 ∷ 0 ∷ []) ++ (2 ∷ 1 ∷ 0 ∷ 2 ∷ 2 ∷ 0 ∷ [])
    ++ (0x61 ∷ [])

abbrev text_null : Attribute
text_null =
    of_version_3 (record {
      sizes = record { version = 3; flags = 0; name_size = 2; datatype_size = 8; dataspace_size = 6; name_character_set_encoding = 0 };
      name = record { position = 9; length = 2 };
      described = record {
        datatype = datatype (record { class_and_version = 0x13; class_bit_field = 0; size = 2 }) no_properties;
        datatype_padding = 0;
        dataspace = version_2 (record { version = 2; dimensionality = 1; flags = 0; type = 2; dimension_size = 2 ∷ []; dimension_maximum_size = not_stored });
        dataspace_padding = 0;
      };
      «data» = record { position = 25; length = 0 };
    })

met_null : TextValue 2 text_null
met_null =
    record {
      name_size = omega arith;
      described = record {
        string = refl;
        some_size = omega arith;
        small_size = omega arith;
        dataspace = record { few = omega arith; sizes = (omega arith, tt); maximum_sizes_lem = tt; no_permutation = refl; no_scalar_with_sizes = no_scalar };
      };
    }
  where
    no_scalar : ElementsDiffer (described_of text_null).dataspace → ⊥
    no_scalar (scalar_with_sizes e f) = omega arith

pub a_text_of_a_null_dataspace : ValueStands file_null state 0 25 (record { position = 9; length = 2 }) (TextIs file_null (described_of text_null) (record { position = 25; length = 0 }))
unfolding read bind le many raw by_version marked datatype_header properties datatype_of datatype_message stored_sizes dataspace1 dataspace2 dataspace_message sizes1 sizes3 sized described product attribute1 attribute3 attribute_message
a_text_of_a_null_dataspace = text_value_lem file_null state 4095 1 0 25 text_null (sound file_null (attribute_message 4095 1 2) 0 25 text_null refl) met_null

-- a list whose numbers are bytes, by looking at each
abbrev bytes : List ℕ → Bool
bytes [] = true
bytes (x ∷ xs) = ltb x 256 && bytes xs

are_bytes : (s : List ℕ) → bytes s ≡ true → AreBytes s
are_bytes [] e i = omega arith
are_bytes (x ∷ xs) e zero = ltb-true x 256 (and_left (ltb x 256) (bytes xs) e)
are_bytes (x ∷ xs) e (suc i) = are_bytes xs (and_right (ltb x 256) (bytes xs) e) i

-- version 1, a name `n`, a single, a dataspace of version 1 without dimensions, and a signalling NaN
abbrev file_single : List ℕ
file_single =
    (1 ∷ 0 ∷ 2 ∷ 0 ∷ 20 ∷ 0 ∷ 8 ∷ 0 ∷ []) ++ (0x6E ∷ []) ++ replicate 7 0
    ++ (0x11 ∷ 0x20 ∷ 0x1F ∷ 0 ∷ 4 ∷ 0 ∷ 0 ∷ 0 ∷ []) ++ (0 ∷ 0 ∷ 32 ∷ 0 ∷ 23 ∷ 8 ∷ 0 ∷ 23 ∷ 127 ∷ 0 ∷ 0 ∷ 0 ∷ []) ++ replicate 4 0
    ++ (1 ∷ 0 ∷ 0 ∷ 0 ∷ 0 ∷ 0 ∷ 0 ∷ 0 ∷ []) ++ (0 ∷ 0 ∷ 0xA0 ∷ 0x7F ∷ [])

abbrev single1 : Attribute
single1 =
    of_version_1 (record {
      sizes = record { version = 1; reserved = 0; name_size = 2; datatype_size = 20; dataspace_size = 8 };
      name = record { position = 8; length = 2 };
      name_padding = 0;
      described = record {
        datatype = datatype (record { class_and_version = 0x11; class_bit_field = 0x1F20; size = 4 }) (floating_point single);
        datatype_padding = 0;
        dataspace = version_1 (record { version = 1; dimensionality = 0; flags = 0; reserved = 0; reserved_2 = 0; dimension_size = []; dimension_maximum_size = not_stored; permutation_index = not_stored });
        dataspace_padding = 0;
      };
      «data» = record { position = 48; length = 4 };
    })

met_single : NumberValue 2 single1
unfolding product
met_single =
    record {
      name_size = omega arith;
      described = record {
        number = inl (record { of_class = refl; size = refl; bit_precision = refl; byte_order = refl; mantissa_normalization = refl; sign_location = refl });
        one = refl;
        float = inl refl;
        dataspace = record { few = omega arith; sizes = tt; maximum_sizes_lem = tt; no_permutation = refl; no_scalar_with_sizes = simple };
      };
    }
  where
    simple : ElementsDiffer (described_of single1).dataspace → ⊥
    simple = elim [ ]

pub a_number_of_version_1 : ValueStands file_single state 0 52 (record { position = 8; length = 2 }) (NumberIs file_single (described_of single1) (record { position = 48; length = 4 }))
unfolding read bind le many raw by_version marked datatype_header floating_point_lem properties datatype_of datatype_message stored_sizes dataspace1 dataspace2 dataspace_message sizes1 sizes3 sized described product attribute1 attribute3 attribute_message
a_number_of_version_1 = number_value_lem file_single state (are_bytes file_single refl) 4095 1 0 52 single1 (sound file_single (attribute_message 4095 1 2) 0 52 single1 refl) met_single

-- version 3, a name `n`, a whole number of 2 bytes with a sign, the highest byte first, a dataspace of version 2 with a size of 1, and -2
abbrev file_signed : List ℕ
file_signed =
    (3 ∷ 0 ∷ 2 ∷ 0 ∷ 12 ∷ 0 ∷ 6 ∷ 0 ∷ 0 ∷ 0x6E ∷ 0 ∷ []) ++ (0x10 ∷ 9 ∷ 0 ∷ 0 ∷ 2 ∷ 0 ∷ 0 ∷ 0 ∷ 0 ∷ 0 ∷ 16 ∷ 0 ∷ []) ++ (2 ∷ 1 ∷ 0 ∷ 1 ∷ 1 ∷ 0 ∷ [])
    ++ (0xFF ∷ 0xFE ∷ [])

abbrev signed3 : Attribute
signed3 =
    of_version_3 (record {
      sizes = record { version = 3; flags = 0; name_size = 2; datatype_size = 12; dataspace_size = 6; name_character_set_encoding = 0 };
      name = record { position = 9; length = 2 };
      described = record {
        datatype = datatype (record { class_and_version = 0x10; class_bit_field = 9; size = 2 }) (fixed_point (record { bit_offset = 0; bit_precision = 16 }));
        datatype_padding = 0;
        dataspace = version_2 (record { version = 2; dimensionality = 1; flags = 0; type = 1; dimension_size = 1 ∷ []; dimension_maximum_size = not_stored });
        dataspace_padding = 0;
      };
      «data» = record { position = 29; length = 2 };
    })

met_signed : NumberValue 2 signed3
unfolding product
met_signed =
    record {
      name_size = omega arith;
      described = record {
        number = record { of_class = refl; size = inr (inl refl); bit_offset = refl; bit_precision = refl };
        one = refl;
        float = tt;
        dataspace = record { few = omega arith; sizes = (omega arith, tt); maximum_sizes_lem = tt; no_permutation = refl; no_scalar_with_sizes = simple };
      };
    }
  where
    simple : ElementsDiffer (described_of signed3).dataspace → ⊥
    simple (scalar_with_sizes e f) = omega arith

pub a_number_of_version_3 : ValueStands file_signed state 0 31 (record { position = 9; length = 2 }) (NumberIs file_signed (described_of signed3) (record { position = 29; length = 2 }))
unfolding read bind le many raw by_version marked datatype_header fixed_point_lem properties datatype_of datatype_message stored_sizes dataspace1 dataspace2 dataspace_message sizes1 sizes3 sized described product attribute1 attribute3 attribute_message
a_number_of_version_3 = number_value_lem file_signed state (are_bytes file_signed refl) 4095 1 0 31 signed3 (sound file_signed (attribute_message 4095 1 2) 0 31 signed3 refl) met_signed
