-- IV.A.2.d, The Datatype Message: versions 1 and 3 of the classes fixed-point 0, floating-point 1, string 3, compound 6, reference 7
-- and variable-length 9. Assumes nothing: these are definitions.
-- Versions 2 and 4 and the other classes have tables too; nothing that is read is compared with them.
use Rattle.std.specs.Prelude.{ℕ, zero, suc, ◌+◌, ◌/◌, ◌%◌, ◌||◌, eqb, ltb}
use Rattle.format.specs.Bytes.{to_multiple_of8}
use Rattle.format.specs.Format.{Format, done, refuse, number, name, here, bind, pick}
use Rattle.standard.specs.Fields.{Bytes, only}
use Rattle.standard.specs.Versions.{marked}

-- Layout: Datatype Message, up to its properties. The three bytes of the class bit field are one number.
pub record DatatypeHeader : Type 0 where
  pub class_and_version : ℕ
  pub class_bit_field : ℕ
  pub size : ℕ

unfoldable pub datatype_header : Format DatatypeHeader
datatype_header =
    number 1 (λ class_and_version.
    number 3 (λ class_bit_field.
    number 4 (λ size.
    done {A = DatatypeHeader} (record {
      class_and_version = class_and_version;
      class_bit_field = class_bit_field;
      size = size;
    }))))

-- Class and Version: the class in the low 4 bits, the version in the high 4
abbrev pub class : DatatypeHeader → ℕ
class h = h.class_and_version % 16

abbrev pub version : DatatypeHeader → ℕ
version h = h.class_and_version / 16

-- Layout: Fixed-point Property Description
pub record FixedPoint : Type 0 where
  pub bit_offset : ℕ
  pub bit_precision : ℕ

unfoldable pub fixed_point_lem : Format FixedPoint
fixed_point_lem =
    number 2 (λ bit_offset.
    number 2 (λ bit_precision.
    done {A = FixedPoint} (record {
      bit_offset = bit_offset;
      bit_precision = bit_precision;
    })))

-- Layout: Floating-point Property Description
pub record FloatingPoint : Type 0 where
  pub bit_offset : ℕ
  pub bit_precision : ℕ
  pub exponent_location : ℕ
  pub exponent_size : ℕ
  pub mantissa_location : ℕ
  pub mantissa_size : ℕ
  pub exponent_bias : ℕ

unfoldable pub floating_point_lem : Format FloatingPoint
floating_point_lem =
    number 2 (λ bit_offset.
    number 2 (λ bit_precision.
    number 1 (λ exponent_location.
    number 1 (λ exponent_size.
    number 1 (λ mantissa_location.
    number 1 (λ mantissa_size.
    number 4 (λ exponent_bias.
    done {A = FloatingPoint} (record {
      bit_offset = bit_offset;
      bit_precision = bit_precision;
      exponent_location = exponent_location;
      exponent_size = exponent_size;
      mantissa_location = mantissa_location;
      mantissa_size = mantissa_size;
      exponent_bias = exponent_bias;
    }))))))))

-- A name and the zero that ends it. The standard has no bound on its length. A format's name has one, here `longest`: it only
-- refuses longer names, and what is proved is proved for every one from 4,095 on.
unfoldable pub terminated : ℕ → Format Bytes
terminated longest =
    here (λ position.
    name longest (λ length.
    number 1 (λ terminator.
    only (eqb terminator 0) (
    done {A = Bytes} (record { position = position; length = length })))))

-- Layout: Compound Properties Description for Datatype Version 1, a member up to its type
pub record Member1 : Type 0 where
  pub name : Bytes
  pub name_padding : ℕ
  pub byte_offset_of_member : ℕ
  pub dimensionality : ℕ
  pub reserved_after_dimensionality : ℕ
  pub dimension_permutation : ℕ
  pub reserved_after_permutation : ℕ
  pub dimension_1_size : ℕ
  pub dimension_2_size : ℕ
  pub dimension_3_size : ℕ
  pub dimension_4_size : ℕ

unfoldable pub member1 : ℕ → Format Member1
member1 longest =
    bind (terminated longest) (λ name.
    number (to_multiple_of8 (name.length + 1)) (λ name_padding.
    number 4 (λ byte_offset_of_member.
    number 1 (λ dimensionality.
    number 3 (λ reserved_after_dimensionality.
    number 4 (λ dimension_permutation.
    number 4 (λ reserved_after_permutation.
    number 4 (λ dimension_1_size.
    number 4 (λ dimension_2_size.
    number 4 (λ dimension_3_size.
    number 4 (λ dimension_4_size.
    done {A = Member1} (record {
      name = name;
      name_padding = name_padding;
      byte_offset_of_member = byte_offset_of_member;
      dimensionality = dimensionality;
      reserved_after_dimensionality = reserved_after_dimensionality;
      dimension_permutation = dimension_permutation;
      reserved_after_permutation = reserved_after_permutation;
      dimension_1_size = dimension_1_size;
      dimension_2_size = dimension_2_size;
      dimension_3_size = dimension_3_size;
      dimension_4_size = dimension_4_size;
    }))))))))))))

-- Layout: Compound Properties Description for Datatype Version 3, a member up to its type
pub record Member3 : Type 0 where
  pub name : Bytes
  pub byte_offset_of_member : ℕ

-- Byte Offset of Member: as many bytes as the size of the datatype element needs: 1 below 256, 2 below 65,536, and likewise for 3 and 4
abbrev pub offset_bytes : ℕ → ℕ
offset_bytes size = pick (ltb size 256) 1 (pick (ltb size 65536) 2 (pick (ltb size 16777216) 3 4))

unfoldable pub member3 : ℕ → ℕ → Format Member3
member3 longest size =
    bind (terminated longest) (λ name.
    number (offset_bytes size) (λ byte_offset_of_member.
    done {A = Member3} (record { name = name; byte_offset_of_member = byte_offset_of_member })))

-- a member up to its type, in either version
pub data Member : Type 0 where
  version_1 : Member1 → Member
  version_3 : Member3 → Member

-- its table is that of the compound's own version
unfoldable pub member : ℕ → DatatypeHeader → Format Member
member longest h = pick (eqb (version h) 1) (marked version_1 (member1 longest)) (marked version_3 (member3 longest h.size))

mutual
  -- Layout: Datatype Message
  pub data Datatype : Type 0 where
    datatype : DatatypeHeader → Properties → Datatype

  -- Properties, by class; a class without them has no bytes here
  pub data Properties : Type 0 where
    fixed_point : FixedPoint → Properties
    floating_point : FloatingPoint → Properties
    no_properties : Properties
    members : Members → Properties
    parent_type : Datatype → Properties

  -- a compound's members, each with its member type message, one after another
  pub data Members : Type 0 where
    no_members : Members
    more_members : Member → Datatype → Members → Members

abbrev pub header_of : Datatype → DatatypeHeader
header_of (datatype h p) = h

-- Compound Bit Field Description: bits 0-15 are the number of members
abbrev pub member_count : DatatypeHeader → ℕ
member_count h = h.class_bit_field % 65536

-- n members, where T is the format of the member type messages
unfoldable pub members_of : ℕ → DatatypeHeader → Format Datatype → ℕ → Format Members
members_of longest h T zero = done no_members
members_of longest h T (suc n) =
    bind (member longest h) (λ member.
    bind T (λ member-type.
    bind (members_of longest h T n) (λ rest.
    done (more_members member member-type rest))))

unfoldable pub compound : ℕ → Format Datatype → DatatypeHeader → Format Members
compound longest T h = members_of longest h T (member_count h)

-- the properties by class, where T is the format of the datatype messages inside
unfoldable pub properties : ℕ → Format Datatype → DatatypeHeader → Format Properties
properties longest T h =
    pick (eqb (class h) 0) (bind fixed_point_lem (λ f. done (fixed_point f))) (
    pick (eqb (class h) 1) (bind floating_point_lem (λ f. done (floating_point f))) (
    pick (eqb (class h) 3) (done no_properties) (
    pick (eqb (class h) 6) (bind (compound longest T h) (λ m. done (members m))) (
    pick (eqb (class h) 7) (done no_properties) (
    pick (eqb (class h) 9) (bind T (λ t. done (parent_type t))) (
    refuse 0))))))

-- a datatype message, where T is the format of the datatype messages inside
unfoldable pub datatype_of : ℕ → Format Datatype → Format Datatype
datatype_of longest T =
    bind datatype_header (λ h.
    only (eqb (version h) 1 || eqb (version h) 3) (
    bind (properties longest T h) (λ p.
    done (datatype h p))))

-- A datatype message with at most so many datatype messages one inside another. The standard has no bound on them. A format is
-- finite, so it has one, here `levels`: it only refuses deeper messages, and what is proved is proved for every number.
unfoldable pub datatype_message : ℕ → ℕ → Format Datatype
datatype_message longest zero = refuse 0
datatype_message longest (suc levels) = datatype_of longest (datatype_message longest levels)
