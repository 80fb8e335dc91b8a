-- IV.A.2.m, The Attribute Message: what the specification asks of the values of its fields, beside their layout. Assumes nothing: these are
-- definitions.
use Rattle.std.specs.Prelude.{ℕ, ◌+◌, ◌≤◌, ◌<◌, ◌≡◌, List, get_or}
use Rattle.standard.specs.Fields.{Bytes}
use Rattle.standard.specs.DatatypeRules.{ValidDatatype}
use Rattle.standard.specs.Dataspaces.{ValidDataspace2, Dataspace, version_1, version_2}
use Rattle.standard.specs.Attributes.{Described, Attribute1, Attribute3}

-- Name Size counts the null terminator: a name of n bytes and its terminator fill the field
pub record NullTerminated (s : List ℕ) (field : Bytes) (n : ℕ) : Type 0 where
  pub size : field.length ≡ n + 1
  pub name : (i : ℕ) → i < n → get_or s (field.position + i) 0 ≡ 0 → ⊥
  pub terminator : get_or s (field.position + n) 0 ≡ 0

abbrev pub ValidDataspace : Dataspace → Type 0
ValidDataspace (version_1 x) = Unit {0}
ValidDataspace (version_2 x) = ValidDataspace2 x

pub record ValidDescribed (x : Described) : Type 0 where
  pub datatype : ValidDatatype x.datatype
  pub dataspace : ValidDataspace x.dataspace

-- Reserved (zero), and padding with zero bytes
pub record ValidAttribute1 (s : List ℕ) (x : Attribute1) : Type 0 where
  pub reserved : x.sizes.reserved ≡ 0
  pub name : (n : ℕ) × NullTerminated s x.name n
  pub name_padding : x.name_padding ≡ 0
  pub datatype_padding : x.described.datatype_padding ≡ 0
  pub dataspace_padding : x.described.dataspace_padding ≡ 0
  pub described : ValidDescribed x.described

-- Name Character Set Encoding: 0 or 1
pub record ValidAttribute3 (s : List ℕ) (x : Attribute3) : Type 0 where
  pub name_character_set_encoding : x.sizes.name_character_set_encoding ≤ 1
  pub name : (n : ℕ) × NullTerminated s x.name n
  pub described : ValidDescribed x.described
