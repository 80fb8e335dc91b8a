-- Rules of the standard on the values of a datatype message that are not tested: for each a message that is read and breaks it. Entries are
-- those of docs/DIFFERENCES.md, part one. Assumes nothing.
use Rattle.std.specs.Prelude.{ℕ, ◌≡◌, refl, [], ◌∷◌, ◌++◌}
use Rattle.std.proofs.Common.{arith}
use Rattle.format.specs.Bytes.{le, name_length}
use Rattle.format.specs.Format.{read, bind, times}
use Rattle.ohdr_member.specs.Members.{member_fields}
use Rattle.ohdr_member.specs.Members as fields
use Rattle.ohdr_datatype.specs.DataTypes.{known_class, known_type, data_type_header, fixed_properties, float_properties, float_is, ieee, float_format, plain, list_properties, type_layer, data_type}
use Rattle.ohdr_datatype.specs.DataTypes as ours
use Rattle.standard.specs.Untested.{Untested}
use Rattle.standard.specs.Versions.{marked}
use Rattle.standard.specs.Datatypes.{DatatypeHeader, datatype_header, fixed_point_lem, floating_point_lem, terminated, member1, member3, version_3, member, datatype, Properties, fixed_point, floating_point, members, parent_type, no_members, more_members, members_of, compound, properties, datatype_of, datatype_message}
use Rattle.standard.specs.DatatypeRules.{ValidClassBits, ValidNumber, ValidParentType, ValidMembers, ValidMembers1, Each}
use Rattle.standard_datatype.specs.SampleTypes.{string4, the_string4, a_member1, the_compound1, compound1}

-- a rule on each datatype message, also inside another, that is not tested
abbrev pub NotTested : (DatatypeHeader → Properties → Type 0) → Type 0
NotTested rule = Untested (λ _ t. Each rule t) (data_type 32) (datatype_message 4095 32)

-- 33: a number of one byte with a reserved bit
pub class_bits_untested : NotTested (λ h _. ValidClassBits h)
unfolding read bind le datatype_header fixed_point_lem properties datatype_of datatype_message known_class known_type data_type_header fixed_properties ours.properties type_layer data_type
class_bits_untested =
    record {
      file = 0x10 ∷ 16 ∷ 0 ∷ 0 ∷ 1 ∷ 0 ∷ 0 ∷ 0 ∷ 0 ∷ 0 ∷ 8 ∷ 0 ∷ [];
      end = 12;
      message = datatype (record { class_and_version = 0x10; class_bit_field = 16; size = 1 }) (fixed_point (record { bit_offset = 0; bit_precision = 8 }));
      read_here = refl;
      standard = refl;
      broken = λ v. let e : ◌≡◌ {A = ℕ} 1 0 = v.0.fixed_point_reserved refl in omega arith;
    }

-- 33: an IEEE single of version 1 in VAX order
pub vax_order_untested : NotTested (λ h _. ValidClassBits h)
unfolding read bind le datatype_header floating_point_lem properties datatype_of datatype_message known_class known_type data_type_header float_properties float_is ieee float_format ours.properties type_layer data_type
vax_order_untested =
    record {
      file = (0x11 ∷ 0x61 ∷ 31 ∷ 0 ∷ 4 ∷ 0 ∷ 0 ∷ 0 ∷ []) ++ (0 ∷ 0 ∷ 32 ∷ 0 ∷ 23 ∷ 8 ∷ 0 ∷ 23 ∷ 127 ∷ 0 ∷ 0 ∷ 0 ∷ []);
      end = 20;
      message = datatype (record { class_and_version = 0x11; class_bit_field = 0x1F61; size = 4 }) (floating_point (record {
        bit_offset = 0;
        bit_precision = 32;
        exponent_location = 23;
        exponent_size = 8;
        mantissa_location = 0;
        mantissa_size = 23;
        exponent_bias = 127;
      }));
      read_here = refl;
      standard = refl;
      broken = λ v. let e : ◌≡◌ {A = ℕ} 1 3 = v.0.floating_point_vax_order refl refl in omega arith;
    }

-- 32: a number of 16 bits in one byte
pub number_untested : NotTested ValidNumber
unfolding read bind le datatype_header fixed_point_lem properties datatype_of datatype_message known_class known_type data_type_header fixed_properties ours.properties type_layer data_type
number_untested =
    record {
      file = 0x10 ∷ 0 ∷ 0 ∷ 0 ∷ 1 ∷ 0 ∷ 0 ∷ 0 ∷ 0 ∷ 0 ∷ 16 ∷ 0 ∷ [];
      end = 12;
      message = datatype (record { class_and_version = 0x10; class_bit_field = 0; size = 1 }) (fixed_point (record { bit_offset = 0; bit_precision = 16 }));
      read_here = refl;
      standard = refl;
      broken = λ v. omega (arith, v.0);
    }

-- 86. It is a string here.
pub parent_type_untested : NotTested ValidParentType
unfolding read bind le datatype_header properties datatype_of datatype_message known_class known_type data_type_header plain list_properties ours.properties type_layer data_type
parent_type_untested =
    record {
      file = (0x19 ∷ 1 ∷ 0 ∷ 0 ∷ 16 ∷ 0 ∷ 0 ∷ 0 ∷ []) ++ string4;
      end = 16;
      message = datatype (record { class_and_version = 0x19; class_bit_field = 1; size = 16 }) (parent_type the_string4);
      read_here = refl;
      standard = refl;
      broken = λ v. v.0 refl;
    }

-- 36: a compound of one byte with a member of 4 bytes
pub members_untested : NotTested ValidMembers
unfolding read bind times le name_length marked datatype_header terminated member3 member members_of compound properties datatype_of datatype_message known_class known_type data_type_header member_fields fields.member3 ours.member plain ours.properties type_layer data_type
members_untested =
    record {
      file = (0x36 ∷ 1 ∷ 0 ∷ 0 ∷ 1 ∷ 0 ∷ 0 ∷ 0 ∷ []) ++ (0x6E ∷ 0 ∷ 0 ∷ []) ++ string4;
      end = 19;
      message = datatype (record { class_and_version = 0x36; class_bit_field = 1; size = 1 }) (members (more_members (version_3 (record { name = record { position = 8; length = 1 }; byte_offset_of_member = 0 })) the_string4 no_members));
      read_here = refl;
      standard = refl;
      broken = λ v. omega (arith, v.0.0);
    }

-- 108: padding of the name, reserved bytes, permutation and the other reserved bytes of a version 1 member, each once other than zero
pub members_of_version_1_untested : NotTested ValidMembers1 × NotTested ValidMembers1 × NotTested ValidMembers1 × NotTested ValidMembers1
unfolding read bind times le name_length marked datatype_header terminated member1 member members_of compound properties datatype_of datatype_message known_class known_type data_type_header member_fields fields.member1 ours.member plain ours.properties type_layer data_type
members_of_version_1_untested = (
  record { file = compound1 (a_member1 1 0 0 0 0); end = 56; message = the_compound1 (a_member1 1 0 0 0 0); read_here = refl; standard = refl; broken = λ v. let e : ◌≡◌ {A = ℕ} 1 0 = v.0.0.name_padding in omega arith },
  record { file = compound1 (a_member1 0 0 1 0 0); end = 56; message = the_compound1 (a_member1 0 0 1 0 0); read_here = refl; standard = refl; broken = λ v. let e : ◌≡◌ {A = ℕ} 1 0 = v.0.0.reserved_after_dimensionality in omega arith },
  record { file = compound1 (a_member1 0 0 0 1 0); end = 56; message = the_compound1 (a_member1 0 0 0 1 0); read_here = refl; standard = refl; broken = λ v. let e : ◌≡◌ {A = ℕ} 1 0 = v.0.0.dimension_permutation in omega arith },
  record { file = compound1 (a_member1 0 0 0 0 1); end = 56; message = the_compound1 (a_member1 0 0 0 0 1); read_here = refl; standard = refl; broken = λ v. let e : ◌≡◌ {A = ℕ} 1 0 = v.0.0.reserved_after_permutation in omega arith },
)
