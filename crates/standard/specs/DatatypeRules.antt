-- IV.A.2.d, The Datatype Message: what the specification asks of the values of its fields, beside their layout. Assumes nothing: these are
-- definitions.
use Rattle.std.specs.Prelude.{ℕ, ◌+◌, ◌*◌, ◌/◌, ◌%◌, ◌^◌, ◌≤◌, ◌≡◌}
use Rattle.standard.specs.Datatypes.{DatatypeHeader, class, version, FixedPoint, Member1, Member, version_1, version_3, Datatype, datatype, header_of, Properties, fixed_point, floating_point, no_properties, members, parent_type, Members, no_members, more_members}

-- as many bits of a number as are said, from the given one on
abbrev pub bits : ℕ → ℕ → ℕ → ℕ
bits n low count = n / 2 ^ low % 2 ^ count

-- the class bit field, by the table of bits of each class: values that are not reserved, and reserved bits that are zero
pub record ValidClassBits (h : DatatypeHeader) : Type 0 where
  pub fixed_point_reserved : class h ≡ 0 → bits h.class_bit_field 4 20 ≡ 0
  pub floating_point_byte_order : class h ≡ 1 → bits h.class_bit_field 6 1 ≡ 1 → bits h.class_bit_field 0 1 ≡ 1
  pub floating_point_vax_order : class h ≡ 1 → bits h.class_bit_field 6 1 ≡ 1 → version h ≡ 3
  pub floating_point_normalization : class h ≡ 1 → bits h.class_bit_field 4 2 ≤ 2
  pub floating_point_reserved : class h ≡ 1 → bits h.class_bit_field 7 1 ≡ 0
  pub floating_point_reserved_high : class h ≡ 1 → bits h.class_bit_field 16 8 ≡ 0
  pub string_padding_type : class h ≡ 3 → bits h.class_bit_field 0 4 ≤ 2
  pub string_character_set : class h ≡ 3 → bits h.class_bit_field 4 4 ≤ 1
  pub string_reserved : class h ≡ 3 → bits h.class_bit_field 8 16 ≡ 0
  pub compound_reserved : class h ≡ 6 → bits h.class_bit_field 16 8 ≡ 0
  pub reference_type : class h ≡ 7 → bits h.class_bit_field 0 4 ≤ 1
  pub reference_reserved : class h ≡ 7 → bits h.class_bit_field 4 20 ≡ 0
  pub variable_length_type : class h ≡ 9 → bits h.class_bit_field 0 4 ≤ 1
  pub variable_length_padding_type : class h ≡ 9 → bits h.class_bit_field 4 4 ≤ 2
  pub variable_length_character_set : class h ≡ 9 → bits h.class_bit_field 8 4 ≤ 1
  pub sequence_padding_type : class h ≡ 9 → bits h.class_bit_field 0 4 ≡ 0 → bits h.class_bit_field 4 4 ≡ 0
  pub sequence_character_set : class h ≡ 9 → bits h.class_bit_field 0 4 ≡ 0 → bits h.class_bit_field 8 4 ≡ 0
  pub variable_length_reserved : class h ≡ 9 → bits h.class_bit_field 12 12 ≡ 0

-- bit offset and bit precision lie within the datatype element
abbrev pub ValidNumber : DatatypeHeader → Properties → Type 0
ValidNumber h (fixed_point f) = f.bit_offset + f.bit_precision ≤ 8 * h.size
ValidNumber h (floating_point f) = f.bit_offset + f.bit_precision ≤ 8 * h.size
ValidNumber h no_properties = Unit {0}
ValidNumber h (members m) = Unit {0}
ValidNumber h (parent_type t) = Unit {0}

-- H5T_NATIVE_UCHAR: an unsigned fixed-point number of one byte, in either byte order
pub record UnsignedByte (h : DatatypeHeader) (f : FixedPoint) : Type 0 where
  pub fixed_point : class h ≡ 0
  pub size : h.size ≡ 1
  pub unsigned : bits h.class_bit_field 3 1 ≡ 0
  pub bit_offset : f.bit_offset ≡ 0
  pub bit_precision : f.bit_precision ≡ 8

abbrev pub NativeUchar : Datatype → Type 0
NativeUchar (datatype h (fixed_point f)) = UnsignedByte h f
NativeUchar (datatype h (floating_point f)) = ⊥
NativeUchar (datatype h no_properties) = ⊥
NativeUchar (datatype h (members m)) = ⊥
NativeUchar (datatype h (parent_type t)) = ⊥

-- a variable-length string (1 in bits 0-3) has that parent type
abbrev pub ValidParentType : DatatypeHeader → Properties → Type 0
ValidParentType h (fixed_point f) = Unit {0}
ValidParentType h (floating_point f) = Unit {0}
ValidParentType h no_properties = Unit {0}
ValidParentType h (members m) = Unit {0}
ValidParentType h (parent_type t) = bits h.class_bit_field 0 4 ≡ 1 → NativeUchar t

-- a rule on each member and its type
abbrev pub EveryMember : (Member → Datatype → Type 0) → Members → Type 0
EveryMember P no_members = Unit {0}
EveryMember P (more_members m t rest) = P m t × EveryMember P rest

-- and on those of a compound with this header
abbrev pub OfMembers : (DatatypeHeader → Member → Datatype → Type 0) → DatatypeHeader → Properties → Type 0
OfMembers P h (fixed_point f) = Unit {0}
OfMembers P h (floating_point f) = Unit {0}
OfMembers P h no_properties = Unit {0}
OfMembers P h (members m) = EveryMember (P h) m
OfMembers P h (parent_type t) = Unit {0}

abbrev pub byte_offset_of : Member → ℕ
byte_offset_of (version_1 m) = m.byte_offset_of_member
byte_offset_of (version_3 m) = m.byte_offset_of_member

-- each member lies within the datatype element
abbrev pub ValidMembers : DatatypeHeader → Properties → Type 0
ValidMembers = OfMembers (λ h m t. byte_offset_of m + (header_of t).size ≤ h.size)

-- a member of version 1: padding of its name, reserved bytes and permutation are zero
pub record ValidMember1 (m : Member1) : Type 0 where
  pub name_padding : m.name_padding ≡ 0
  pub reserved_after_dimensionality : m.reserved_after_dimensionality ≡ 0
  pub dimension_permutation : m.dimension_permutation ≡ 0
  pub reserved_after_permutation : m.reserved_after_permutation ≡ 0

abbrev pub InVersion1 : (Member1 → Type 0) → Member → Type 0
InVersion1 P (version_1 m) = P m
InVersion1 P (version_3 m) = Unit {0}

abbrev pub ValidMembers1 : DatatypeHeader → Properties → Type 0
ValidMembers1 = OfMembers (λ h m t. InVersion1 ValidMember1 m)

-- P holds of the header and the properties of a datatype message and of all datatype messages inside it
abbrev mutual
  pub Each : (DatatypeHeader → Properties → Type 0) → Datatype → Type 0
  Each P (datatype h p) = P h p × EachInside P p

  pub EachInside : (DatatypeHeader → Properties → Type 0) → Properties → Type 0
  EachInside P (fixed_point f) = Unit {0}
  EachInside P (floating_point f) = Unit {0}
  EachInside P no_properties = Unit {0}
  EachInside P (members m) = EachMember P m
  EachInside P (parent_type t) = Each P t

  pub EachMember : (DatatypeHeader → Properties → Type 0) → Members → Type 0
  EachMember P no_members = Unit {0}
  EachMember P (more_members m t rest) = Each P t × EachMember P rest

-- what is asked of a datatype message
pub record ValidDatatype (t : Datatype) : Type 0 where
  pub class_bits : Each (λ h p. ValidClassBits h) t
  pub numbers : Each ValidNumber t
  pub parent_types : Each ValidParentType t
  pub members : Each ValidMembers t
  pub members_of_version_1 : Each ValidMembers1 t
