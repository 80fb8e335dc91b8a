-- IV.A.2.d, the datatype message, versions 1 and 3. Assumes nothing: these are definitions.
use Rattle.std.specs.Prelude.{ℕ, zero, suc, ◌/◌, ◌%◌, Bool, ◌&&◌, ◌||◌, eqb, ltb, Option, Some, None}
use Rattle.format.specs.Format.{Format, done, refuse, number, bind, times, check, pick, nothing}
use Rattle.records.specs.declared.DataFormat.TheVariants as formats
use Rattle.records.specs.declared.DataType.{DataType}
use Rattle.ohdr_member.specs.Members.{member_fields}
use Rattle.ohdr_datatype.specs.declared.DataTypeHeader.{DataTypeHeader}
use Rattle.records.specs.declared.FloatProperties.{FloatProperties}
use Rattle.records.specs.declared.DataFormat.{DataFormat}

-- the class stands in the low four bits of the first byte, the version in the high four
abbrev pub class_of : ℕ → ℕ
class_of class_and_version = class_and_version % 16

abbrev pub version_of : ℕ → ℕ
version_of class_and_version = class_and_version / 16

abbrev pub known_version : ℕ → Bool
known_version version = eqb version 1 || eqb version 3

-- fixed-point 0, floating-point 1, string 3, compound 6, reference 7, variable-length 9
unfoldable pub known_class : ℕ → Bool
known_class class = eqb class 0 || (eqb class 1 || (eqb class 3 || (eqb class 6 || (eqb class 7 || eqb class 9))))

-- versions 1 and 3 of the classes that are read
unfoldable pub known_type : ℕ → Bool
known_type cv = known_version (version_of cv) && known_class (class_of cv)

-- class and version, class bit field, and a size below 64
unfoldable pub data_type_header : Format DataTypeHeader
data_type_header =
    number 1 (λ class_and_version.
    check (known_type class_and_version) 11 (
    number 3 (λ class_bit_field.
    number 4 (λ size.
    check (ltb size 64) 11 (
    done {A = DataTypeHeader} (record { class_and_version = class_and_version; class_bit_field = class_bit_field; size = size }))))))

-- properties of a fixed-point number
unfoldable pub fixed_properties : Format (Option DataFormat)
fixed_properties =
    number 2 (λ bit_offset.
    number 2 (λ bit_precision.
    done (Some (formats.Fixed bit_offset bit_precision))))

-- properties of a floating-point number
unfoldable pub float_properties : Format FloatProperties
float_properties =
    number 2 (λ bit_offset.
    number 2 (λ bit_precision.
    number 1 (λ exponent_location.
    number 1 (λ exponent_size.
    number 1 (λ mantissa_location.
    number 1 (λ mantissa_size.
    number 4 (λ exponent_bias.
    done {A = FloatProperties} (record {
      bit_offset = bit_offset;
      bit_precision = bit_precision;
      exponent_location = exponent_location;
      exponent_size = exponent_size;
      mantissa_location = mantissa_location;
      mantissa_size = mantissa_size;
      exponent_bias = exponent_bias;
    }))))))))

-- bit offset and mantissa location 0, and the precision, exponent location and size, mantissa size and exponent bias given
unfoldable pub float_is : FloatProperties → ℕ → ℕ → ℕ → ℕ → ℕ → Bool
float_is f precision location exponent mantissa bias =
    eqb f.bit_offset 0
    && (eqb f.mantissa_location 0
    && (eqb f.bit_precision precision
    && (eqb f.exponent_location location
    && (eqb f.exponent_size exponent
    && (eqb f.mantissa_size mantissa
    && eqb f.exponent_bias bias)))))

-- IEEE single or double
unfoldable pub ieee : FloatProperties → Bool
ieee f = float_is f 32 23 8 23 127 || float_is f 64 52 11 52 1023

-- the two IEEE formats alone, tested after all twelve bytes
unfoldable pub float_format : Format (Option DataFormat)
float_format =
    bind float_properties (λ f.
    check (ieee f) 11 (
    done (Some (formats.Float f))))

-- a member, where T is the format of its type
unfoldable pub member : ℕ → ℕ → Format DataType → Format (Unit {0})
member version size T = bind (member_fields version size) (λ _. bind T (λ _. nothing))

-- no format of a number
unfoldable pub plain : Format (Option DataFormat)
plain = done None

-- the format of a variable-length type is that of its base type
unfoldable pub list_properties : Format DataType → Format (Option DataFormat)
list_properties T = bind T (λ base. done base.data_fmt)

-- the properties by class, where T is the format of the types inside; a compound has as many members as the low 16 class bits say
unfoldable pub properties : DataTypeHeader → Format DataType → Format (Option DataFormat)
properties h T =
    let class = class_of h.class_and_version in
    pick (eqb class 0) fixed_properties (
    pick (eqb class 1) float_format (
    pick (eqb class 3 || eqb class 7) plain (
    pick (eqb class 6) (times (h.class_bit_field % 65536) (member (version_of h.class_and_version) h.size T) plain) (
    pick (eqb class 9) (list_properties T) (
    refuse 11)))))

-- a variable-length type's `list_size` is its own size; other classes have none
abbrev pub list_size : DataTypeHeader → Option ℕ
list_size h = pick (eqb (class_of h.class_and_version) 9) (Some h.size) None

-- a datatype, where T is the format of the types inside
unfoldable pub type_layer : Format DataType → Format DataType
type_layer T =
    bind data_type_header (λ h.
    bind (properties h T) (λ data-fmt.
    done {A = DataType} (record {
      class_and_version = h.class_and_version;
      class_bit_field = h.class_bit_field;
      size = h.size;
      list_size = list_size h;
      data_fmt = data-fmt;
    })))

-- a datatype with at most so many types one inside another: the next is refused before its first byte
unfoldable pub data_type : ℕ → Format DataType
data_type zero = refuse 22
data_type (suc levels) = type_layer (data_type levels)

-- levels of types that are allowed; a level is document 01's term, the standard has types in types and no bound (IV.A.2.d)
abbrev pub type_levels : ℕ
type_levels = 32
