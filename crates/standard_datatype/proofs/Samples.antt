-- Compounds with a member that the standard reads: one that is read too, and two that are refused, by listed differences. Assumes nothing.
use Rattle.std.specs.Prelude.{ℕ, ◌≡◌, refl, List, [], ◌∷◌, ◌++◌, None}
use Rattle.std.proofs.Common.{arith}
use Rattle.format.specs.Bytes.{le, name_length}
use Rattle.format.specs.Format.{found, refused, read, bind, times}
use Rattle.ohdr_member.specs.Members.{member_fields}
use Rattle.ohdr_member.specs.Members as fields
use Rattle.ohdr_datatype.specs.DataTypes.{known_class, known_type, data_type_header, plain, type_layer, data_type}
use Rattle.ohdr_datatype.specs.DataTypes as ours
use Rattle.standard.specs.Versions.{marked}
use Rattle.standard.specs.Datatypes.{datatype_header, terminated, Member1, member1, member3, version_3, member, datatype, members, no_members, more_members, members_of, compound, properties, datatype_of, datatype_message}
use Rattle.standard.specs.DatatypeRules.{Each}
use Rattle.standard_datatype.specs.ReadTypes.{ReadType}
use Rattle.standard_datatype.specs.SampleTypes.{string4, the_string4, a_member1, the_compound1, compound1}

abbrev scalar : Member1
scalar = a_member1 0 0 0 0 0

abbrev array : Member1
array = a_member1 0 2 0 0 0

-- a scalar and an array of 2 dimensions
pub compound1_read : (read (compound1 scalar) (datatype_message 4095 2) 0 ≡ found (the_compound1 scalar) 56) × (read (compound1 array) (datatype_message 4095 2) 0 ≡ found (the_compound1 array) 56)
unfolding read bind le name_length marked datatype_header terminated member1 member members_of compound properties datatype_of datatype_message
compound1_read = (refl, refl)

-- the scalar is read over the same bytes; 38: the array is refused
pub compound1_here : (read (compound1 scalar) (data_type 32) 0 ≡ found (record { class_and_version = 0x16; class_bit_field = 1; size = 60; list_size = None; data_fmt = None }) 56)
    × (read (compound1 array) (data_type 32) 0 ≡ refused 11)
unfolding read bind times le name_length known_class known_type data_type_header member_fields fields.member1 ours.member plain ours.properties type_layer data_type
compound1_here = (refl, refl)

-- what `datatype_is_read` asks is met by the scalar
pub compound1_met : Each ReadType (the_compound1 scalar)
compound1_met = (
  record { small_size = omega arith; float = tt; members = ((omega arith, refl), tt) },
  ((record { small_size = omega arith; float = tt; members = tt }, tt), tt),
)

-- a compound of version 3 and size 0 with a member `n` at offset 0
abbrev pub compound0 : List ℕ
compound0 = (0x36 ∷ 1 ∷ 0 ∷ 0 ∷ 0 ∷ 0 ∷ 0 ∷ 0 ∷ []) ++ (0x6E ∷ 0 ∷ 0 ∷ []) ++ string4

pub compound0_read : read compound0 (datatype_message 4095 2) 0
    ≡ found (datatype (record { class_and_version = 0x36; class_bit_field = 1; size = 0 }) (members (more_members
    (version_3 (record { name = record { position = 8; length = 1 }; byte_offset_of_member = 0 }))
    the_string4 no_members))) 19
unfolding read bind le name_length marked datatype_header terminated member3 member members_of compound properties datatype_of datatype_message
compound0_read = refl

-- 35: the same bytes are refused
pub compound0_refused : read compound0 (data_type 32) 0 ≡ refused 11
unfolding read bind times le name_length known_class known_type data_type_header member_fields fields.member3 ours.member plain ours.properties type_layer data_type
compound0_refused = refl
