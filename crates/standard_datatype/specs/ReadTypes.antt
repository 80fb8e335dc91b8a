-- When a datatype message of the standard is read. Each condition is named by the entry of docs/DIFFERENCES.md, part one, that it excludes.
-- Assumes nothing: these are definitions.
use Rattle.std.specs.Prelude.{◌≤◌, ◌<◌, ◌≡◌, ◌⊎◌}
use Rattle.standard.specs.Datatypes.{DatatypeHeader, FloatingPoint, Member, version_1, version_3, Properties, fixed_point, floating_point, no_properties, members, parent_type}
use Rattle.standard.specs.DatatypeRules.{OfMembers}

-- IEEE single and double
abbrev pub single : FloatingPoint
single = record { bit_offset = 0; bit_precision = 32; exponent_location = 23; exponent_size = 8; mantissa_location = 0; mantissa_size = 23; exponent_bias = 127 }

abbrev pub double : FloatingPoint
double = record { bit_offset = 0; bit_precision = 64; exponent_location = 52; exponent_size = 11; mantissa_location = 0; mantissa_size = 52; exponent_bias = 1023 }

abbrev pub ReadFloat : Properties → Type 0
ReadFloat (fixed_point f) = Unit {0}
ReadFloat (floating_point f) = (f ≡ single) ⊎ (f ≡ double)
ReadFloat no_properties = Unit {0}
ReadFloat (members m) = Unit {0}
ReadFloat (parent_type t) = Unit {0}

-- 34: a name up to its limit; 38: in version 1 a scalar; 35: in version 3 a compound that has a size
abbrev pub ReadMember : DatatypeHeader → Member → Type 0
ReadMember h (version_1 m) = (m.name.length ≤ 255) × (m.dimensionality ≡ 0)
ReadMember h (version_3 m) = (m.name.length ≤ 4095) × (0 < h.size)

-- Of a datatype message; that it is of version 1 or 3 (28), and of the classes that are read (29), is in the standard's format.
pub record ReadType (h : DatatypeHeader) (p : Properties) : Type 0 where
  -- 30: sizes below 64
  pub small_size : h.size < 64
  -- 31: two float formats
  pub float : ReadFloat p
  pub members : OfMembers (λ h m t. ReadMember h m) h p
