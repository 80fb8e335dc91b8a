-- Rules of the standard on the values of an attribute message that are not tested: for each a message that is read and breaks it. Entries are
-- those of docs/DIFFERENCES.md, part one. Assumes nothing.
use Rattle.std.specs.Prelude.{ℕ, ◌≡◌, refl, List, [], ◌∷◌, ◌++◌}
use Rattle.std.proofs.Common.{arith}
use Rattle.format.specs.Bytes.{le, text_length}
use Rattle.format.specs.Format.{read, bind}
use Rattle.records.specs.Elements as counted
use Rattle.parser.specs.declared.State.{State}
use Rattle.ohdr_datatype.specs.DataTypes.{known_class, known_type, data_type_header, plain, type_layer, data_type}
use Rattle.ohdr_datatype.specs.DataTypes as types
use Rattle.ohdr_dataspace.specs.DataSpaces as spaces
use Rattle.ohdr_attribute.specs.Attributes.{text_value, value, space_value, type_space_value, name_and_value, encoding, attribute_fields, attribute}
use Rattle.standard.specs.Fields.{many, raw}
use Rattle.standard.specs.Untested.{Untested}
use Rattle.standard.specs.Versions.{by_version, marked}
use Rattle.standard.specs.Datatypes.{datatype_header, datatype, no_properties, properties, datatype_of, datatype_message}
use Rattle.standard.specs.Dataspaces.{not_stored, stored_sizes, dataspace1, dataspace2, version_1, version_2, dataspace_message, product}
use Rattle.standard.specs.Attributes.{sizes1, sizes3, sized, described, Attribute3, attribute1, attribute3}
use Rattle.standard.specs.AttributeRules.{ValidAttribute1, ValidAttribute3}

-- lengths of 2 bytes
abbrev state : State
state = record { size_of_lengths = 2; size_of_offsets = 2; end_of_file_address = 0 }

-- 51: version 1 with a reserved byte of 255
pub reserved_untested : Untested ValidAttribute1 (attribute state) (attribute1 4095 1 2)
unfolding read bind le many raw by_version marked datatype_header properties datatype_of datatype_message stored_sizes dataspace1 dataspace2 dataspace_message sizes1 sized described product attribute1 text_length known_class known_type data_type_header plain type_layer data_type types.properties spaces.data_space spaces.data_space1 spaces.dimensions spaces.dimensions_from spaces.dimension spaces.maximum_sizes counted.product text_value value space_value type_space_value name_and_value encoding attribute_fields attribute
reserved_untested =
    record {
      file = (1 ∷ 255 ∷ 1 ∷ 0 ∷ 8 ∷ 0 ∷ 8 ∷ 0 ∷ []) ++ (0 ∷ 0 ∷ 0 ∷ 0 ∷ 0 ∷ 0 ∷ 0 ∷ 0 ∷ []) ++ (0x13 ∷ 0 ∷ 0 ∷ 0 ∷ 1 ∷ 0 ∷ 0 ∷ 0 ∷ []) ++ (1 ∷ 0 ∷ 0 ∷ 0 ∷ 0 ∷ 0 ∷ 0 ∷ 0 ∷ []) ++ (0x76 ∷ []);
      end = 33;
      message = record {
        sizes = record { version = 1; reserved = 255; name_size = 1; datatype_size = 8; dataspace_size = 8 };
        name = record { position = 8; length = 1 };
        name_padding = 0;
        described = record {
          datatype = datatype (record { class_and_version = 0x13; class_bit_field = 0; size = 1 }) no_properties;
          datatype_padding = 0;
          dataspace = version_1 (record { version = 1; dimensionality = 0; flags = 0; reserved = 0; reserved_2 = 0; dimension_size = []; dimension_maximum_size = not_stored; permutation_index = not_stored });
          dataspace_padding = 0;
        };
        «data» = record { position = 32; length = 1 };
      };
      read_here = refl;
      standard = refl;
      broken = λ v. let e : ◌≡◌ {A = ℕ} 255 0 = v.reserved in omega arith;
    }

-- version 3, a character set, a name of one byte, a string of 1 byte, a scalar dataspace, and the text `v`
abbrev file3 : ℕ → ℕ → List ℕ
file3 set letter = (3 ∷ 0 ∷ 1 ∷ 0 ∷ 8 ∷ 0 ∷ 4 ∷ 0 ∷ set ∷ letter ∷ []) ++ (0x13 ∷ 0 ∷ 0 ∷ 0 ∷ 1 ∷ 0 ∷ 0 ∷ 0 ∷ []) ++ (2 ∷ 0 ∷ 0 ∷ 0 ∷ 0x76 ∷ [])

abbrev message3 : ℕ → Attribute3
message3 set =
    record {
      sizes = record { version = 3; flags = 0; name_size = 1; datatype_size = 8; dataspace_size = 4; name_character_set_encoding = set };
      name = record { position = 9; length = 1 };
      described = record {
        datatype = datatype (record { class_and_version = 0x13; class_bit_field = 0; size = 1 }) no_properties;
        datatype_padding = 0;
        dataspace = version_2 (record { version = 2; dimensionality = 0; flags = 0; type = 0; dimension_size = []; dimension_maximum_size = not_stored });
        dataspace_padding = 0;
      };
      «data» = record { position = 22; length = 1 };
    }

-- 54: the character set 255; and 55: a name without its zero
pub version_3_untested : Untested ValidAttribute3 (attribute state) (attribute3 4095 1 2) × Untested ValidAttribute3 (attribute state) (attribute3 4095 1 2)
unfolding read bind le many raw by_version marked datatype_header properties datatype_of datatype_message stored_sizes dataspace1 dataspace2 dataspace_message sizes3 sized described product attribute3 text_length known_class known_type data_type_header plain type_layer data_type types.properties spaces.data_space spaces.data_space2 spaces.dimensions spaces.dimensions_from spaces.dimension spaces.maximum_sizes counted.product text_value value space_value type_space_value name_and_value encoding attribute_fields attribute
version_3_untested = (
  record { file = file3 255 0; end = 23; message = message3 255; read_here = refl; standard = refl; broken = λ v. omega (arith, v.name_character_set_encoding) },
  record {
    file = file3 0 0x61;
    end = 23;
    message = message3 0;
    read_here = refl;
    standard = refl;
    broken = λ v.
        let e : v.name.0 ≡ 0 = omega (arith, v.name.1.size) in
        let z : ◌≡◌ {A = ℕ} 0x61 0 = rw e at v.name.1.terminator in
        omega arith;
  },
)
