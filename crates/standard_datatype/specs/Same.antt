-- What the record of a datatype that is read has of the standard's datatype message. Assumes nothing: these are definitions.
use Rattle.std.specs.Prelude.{ℕ, ◌≡◌, ◌⊎◌, List, eqb, Option, Some, None}
use Rattle.format.specs.Format.{Stands, pick}
use Rattle.records.specs.declared.DataFormat.{DataFormat}
use Rattle.records.specs.declared.DataFormat.TheVariants as formats
use Rattle.records.specs.declared.DataType.{DataType}
use Rattle.ohdr_datatype.specs.declared.DataTypeHeader.{DataTypeHeader}
use Rattle.ohdr_datatype.specs.DataTypes.{list_size}
use Rattle.standard.specs.Datatypes.{DatatypeHeader, datatype_header, class, Datatype, datatype, header_of, Properties, fixed_point, floating_point, no_properties, members, parent_type, Member1, Member}
use Rattle.standard.specs.DatatypeRules.{InVersion1, OfMembers, Each}
use Rattle.standard_datatype.specs.ReadTypes.{single, double}

-- the format of a number is that of the property fields; a variable-length type takes it of its parent type, and so on to the innermost
abbrev mutual
  pub format_of : Datatype → Option DataFormat
  format_of (datatype h p) = format_in p

  pub format_in : Properties → Option DataFormat
  format_in (fixed_point f) = Some (formats.Fixed f.bit_offset f.bit_precision)
  format_in (floating_point f) =
      Some (formats.Float (record {
        bit_offset = f.bit_offset;
        bit_precision = f.bit_precision;
        exponent_location = f.exponent_location;
        exponent_size = f.exponent_size;
        mantissa_location = f.mantissa_location;
        mantissa_size = f.mantissa_size;
        exponent_bias = f.exponent_bias;
      }))
  format_in no_properties = None
  format_in (members m) = None
  format_in (parent_type t) = format_of t

-- The standard has no list size: of a variable-length type it is the type's own size (docs/DIFFERENCES.md, 39), other classes have none.
abbrev pub list_size_of : DatatypeHeader → Option ℕ
list_size_of h = pick (eqb (class h) 9) (Some h.size) None

-- the record that is made of a header and a format
abbrev pub type_of : DataTypeHeader → Option DataFormat → DataType
type_of h f = record { class_and_version = h.class_and_version; class_bit_field = h.class_bit_field; size = h.size; list_size = list_size h; data_fmt = f }

-- a member of version 1 that is read is scalar (docs/DIFFERENCES.md, 38)
abbrev pub ScalarMember : Member → Type 0
ScalarMember m = InVersion1 (λ (x : Member1). x.dimensionality ≡ 0) m

abbrev pub ScalarMembers : DatatypeHeader → Properties → Type 0
ScalarMembers = OfMembers (λ h m t. ScalarMember m)

-- each field of the record is the field that the standard names: those of the message's header
pub record SameHeader (ours : DataType) (theirs : DatatypeHeader) : Type 0 where
  pub class_and_version : ours.class_and_version ≡ theirs.class_and_version
  pub class_bit_field : ours.class_bit_field ≡ theirs.class_bit_field
  pub size : ours.size ≡ theirs.size
  pub list_size_lem : ours.list_size ≡ list_size_of theirs

-- properties of a number are those of its class, and a float that is read is IEEE single or double (docs/DIFFERENCES.md, 31)
abbrev pub OfClass : ℕ → Properties → Type 0
OfClass class (fixed_point f) = class ≡ 0
OfClass class (floating_point f) = (class ≡ 1) × ((f ≡ single) ⊎ (f ≡ double))
OfClass class no_properties = Unit {0}
OfClass class (members m) = Unit {0}
OfClass class (parent_type t) = class ≡ 9

abbrev pub properties_of : Datatype → Properties
properties_of (datatype h p) = p

-- and its properties; nothing is handed out of the members of a compound
pub record SameType (ours : DataType) (theirs : Datatype) : Type 0 where
  pub header : SameHeader ours (header_of theirs)
  pub properties : ours.data_fmt ≡ format_of theirs
  pub of_class : OfClass (class (header_of theirs)) (properties_of theirs)
  pub members : Each ScalarMembers theirs

-- the header alone stands at p
pub record HeaderStood (s : List ℕ) (p : ℕ) (ours : DataType) : Type 0 where
  pub upto : ℕ
  pub header : DatatypeHeader
  pub stands : Stands s datatype_header p upto header
  pub same : SameHeader ours header
