-- When the data of an attribute message of the standard are handed out as a value, and what is then handed out. Each condition is named by the
-- entry of docs/DIFFERENCES.md, part one, that it excludes. Assumes nothing: these are definitions.
use Rattle.std.specs.Prelude.{ℕ, ◌≤◌, ◌<◌, ◌≡◌, List}
use Rattle.format.specs.Format.{Stands}
use Rattle.records.specs.declared.Part.{Part}
use Rattle.records.specs.declared.Number.{Number}
use Rattle.records.specs.declared.Value.{Value}
use Rattle.records.specs.declared.Value.TheVariants as values
use Rattle.parser.specs.declared.State.{State}
use Rattle.ohdr_attribute.specs.Attributes.{attribute}
use Rattle.standard.specs.Fields.{Bytes}
use Rattle.standard.specs.Datatypes.{class, header_of}
use Rattle.standard.specs.DatatypeRules.{Each}
use Rattle.standard.specs.Dataspaces.{elements}
use Rattle.standard.specs.Attributes.{Described, element_size, raw_size, Attribute, of_version_1, of_version_3}
use Rattle.standard_datatype.specs.ReadTypes.{ReadFloat, ReadType}
use Rattle.standard_datatype.specs.Same.{properties_of}
use Rattle.standard_messages.specs.ReadMessages.{ReadSpace}
use Rattle.standard_attribute.specs.SameNumbers.{HasNumber, SameNumber}
use Rattle.standard_attribute.specs.Same.{Less, SameName}

-- fields of an attribute of either version
abbrev pub name_size_of : Attribute → ℕ
name_size_of (of_version_1 x) = x.sizes.name_size
name_size_of (of_version_3 x) = x.sizes.name_size

abbrev pub name_of : Attribute → Bytes
name_of (of_version_1 x) = x.name
name_of (of_version_3 x) = x.name

abbrev pub described_of : Attribute → Described
described_of (of_version_1 x) = x.described
described_of (of_version_3 x) = x.described

abbrev pub data_of : Attribute → Bytes
data_of (of_version_1 x) = x.«data»
data_of (of_version_3 x) = x.«data»

-- Datatype and dataspace of a text that is read. That the datatype is of version 1 or 3 (28), and that both fill the sizes that are written
-- for them (53), is in the standard's format.
pub record TextDescribed (w : ℕ) (x : Described) : Type 0 where
  -- 57: a string, and a size
  pub string : class (header_of x.datatype) ≡ 3
  pub some_size : 0 < element_size x.datatype
  -- 30: sizes below 64
  pub small_size : element_size x.datatype < 64
  -- 19, 20, 21, 24 and 26
  pub dataspace : ReadSpace w x.dataspace

-- Datatype and dataspace of a number that is read, of which the same is in the standard's format
pub record NumberDescribed (w : ℕ) (x : Described) : Type 0 where
  -- 57: a form that has a number, and one element
  pub number : HasNumber x.datatype
  pub one : elements x.dataspace ≡ 1
  -- 31: two float formats
  pub float : ReadFloat (properties_of x.datatype)
  -- 19, 20, 21, 24 and 26
  pub dataspace : ReadSpace w x.dataspace

-- Datatype and dataspace of which the data are read, whatever their class: handed out as a text or a number, or passed over
pub record ReadDescribed (w : ℕ) (x : Described) : Type 0 where
  -- 30, 31, 34, 35 and 38, of the datatype and of all inside it
  pub datatype : Each ReadType x.datatype
  -- 19, 20, 21, 24 and 26
  pub dataspace : ReadSpace w x.dataspace
  -- 60: of variable length one element, of at most 12 bytes
  pub variable_length : class (header_of x.datatype) ≡ 9 → (elements x.dataspace ≡ 1) × (element_size x.datatype ≤ 12)
  -- 61: at most 1,048,576 bytes of other classes
  pub short : (class (header_of x.datatype) ≡ 3 → ⊥) → raw_size x ≤ 1048576

-- An attribute whose data are handed out, described as D says. That it is of version 1 or 3 (48), without a shared datatype or dataspace (50), is in
-- the standard's format. Entry 56, a datatype, dataspace or data that have no reading, is no condition: it is what these exclude.
pub record ReadAttribute (D : Described → Type 0) (x : Attribute) : Type 0 where
  -- 52: names up to 4,096 bytes
  pub name_size : name_size_of x ≤ 4096
  pub described : D (described_of x)

abbrev pub TextValue : ℕ → Attribute → Type 0
TextValue w x = ReadAttribute (TextDescribed w) x

abbrev pub NumberValue : ℕ → Attribute → Type 0
NumberValue w x = ReadAttribute (NumberDescribed w) x

-- a value is the data field, less the zeros at its end, or the number that the data field is by the table of its class
abbrev pub TextIs : List ℕ → Described → Bytes → Value → Type 0
TextIs s x field v = (part : Part) × (v ≡ values.Text part) × Less s part field

abbrev pub NumberIs : List ℕ → Described → Bytes → Value → Type 0
NumberIs s x field v = (n : Number) × (v ≡ values.Number n) × SameNumber s x.datatype field.position n

-- From p to q stands an attribute with such a value. Its name is the name field, less the zeros at its end. No other attribute stands at p, since a
-- format stands in one way (`unique`: format, Laws).
pub record ValueStands (s : List ℕ) (state : State) (p q : ℕ) (name-field : Bytes) (Is : Value → Type 0) : Type 0 where
  pub name : Part
  pub value : Value
  pub stands : Stands s (attribute state) p q (record { name = name; value = value })
  pub same_name : SameName s name name-field
  pub same_value : Is value
