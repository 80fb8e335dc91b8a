-- Datatype messages in bytes, and as the standard has them, for rules and samples. Assumes nothing: these are definitions.
use Rattle.std.specs.Prelude.{ℕ, List, [], ◌∷◌, ◌++◌}
use Rattle.standard.specs.Datatypes.{Member1, version_1, Datatype, datatype, no_properties, members, no_members, more_members}

-- a string of 4 bytes
abbrev pub string4 : List ℕ
string4 = 0x13 ∷ 0 ∷ 0 ∷ 0 ∷ 4 ∷ 0 ∷ 0 ∷ 0 ∷ []

abbrev pub the_string4 : Datatype
the_string4 = datatype (record { class_and_version = 0x13; class_bit_field = 0; size = 4 }) no_properties

-- a member `n` of version 1 at offset 9, in whose padding, dimensionality, reserved bytes and permutation these numbers below 256 stand
abbrev pub a_member1 : (padding dimensionality reserved permutation reserved_2 : ℕ) → Member1
a_member1 padding dimensionality reserved permutation reserved_2 =
    record {
      name = record { position = 8; length = 1 };
      name_padding = padding;
      byte_offset_of_member = 9;
      dimensionality = dimensionality;
      reserved_after_dimensionality = reserved;
      dimension_permutation = permutation;
      reserved_after_permutation = reserved_2;
      dimension_1_size = 5;
      dimension_2_size = 6;
      dimension_3_size = 7;
      dimension_4_size = 8;
    }

-- a compound of version 1 and 60 bytes with such a member, a string
abbrev pub the_compound1 : Member1 → Datatype
the_compound1 m = datatype (record { class_and_version = 0x16; class_bit_field = 1; size = 60 }) (members (more_members (version_1 m) the_string4 no_members))

abbrev pub compound1 : Member1 → List ℕ
compound1 m =
    (0x16 ∷ 1 ∷ 0 ∷ 0 ∷ 60 ∷ 0 ∷ 0 ∷ 0 ∷ [])
    ++ (0x6E ∷ 0 ∷ m.name_padding ∷ 0 ∷ 0 ∷ 0 ∷ 0 ∷ 0 ∷ [])
    ++ (9 ∷ 0 ∷ 0 ∷ 0 ∷ m.dimensionality ∷ m.reserved_after_dimensionality ∷ 0 ∷ 0 ∷ [])
    ++ (m.dimension_permutation ∷ 0 ∷ 0 ∷ 0 ∷ m.reserved_after_permutation ∷ 0 ∷ 0 ∷ 0 ∷ [])
    ++ (5 ∷ 0 ∷ 0 ∷ 0 ∷ 6 ∷ 0 ∷ 0 ∷ 0 ∷ 7 ∷ 0 ∷ 0 ∷ 0 ∷ 8 ∷ 0 ∷ 0 ∷ 0 ∷ [])
    ++ string4
