-- What the record of an attribute that is read has of the standard's attribute message. Assumes nothing: these are definitions.
use Rattle.std.specs.Prelude.{ℕ, ◌+◌, ◌≤◌, ◌<◌, ◌≡◌, List, get_or}
use Rattle.format.specs.Bytes.{AreBytes, Trimmed}
use Rattle.format.specs.Format.{Stands}
use Rattle.records.specs.declared.Part.{Part}
use Rattle.records.specs.declared.Number.{Number}
use Rattle.records.specs.declared.Value.{Value}
use Rattle.records.specs.declared.Value.TheVariants as values
use Rattle.records.specs.declared.Attribute as ours
use Rattle.standard.specs.Fields.{Bytes}
use Rattle.standard.specs.Datatypes.{class, Datatype, header_of}
use Rattle.standard.specs.DatatypeRules.{Each}
use Rattle.standard.specs.AttributeRules.{NullTerminated}
use Rattle.standard_datatype.specs.Same.{ScalarMembers}
use Rattle.standard.specs.Dataspaces.{elements}
use Rattle.standard.specs.Attributes.{Sizes1, sizes1, Sizes3, sizes3, Described, Attribute, of_version_1, of_version_3}
use Rattle.standard_attribute.specs.SameNumbers.{HasNumber, SameNumber}

-- a part of the file is the bytes of a field, less the zeros at their end
pub record Less (s : List ℕ) (part : Part) (field : Bytes) : Type 0 where
  pub position : part.position ≡ field.position
  pub length : Trimmed s field.position field.length part.length

-- a text of n bytes in a field, and zeros alone after it
pub record PaddedText (s : List ℕ) (field : Bytes) (n : ℕ) : Type 0 where
  pub within : n ≤ field.length
  pub text : (i : ℕ) → i < n → get_or s (field.position + i) 0 ≡ 0 → ⊥
  pub zeros : (i : ℕ) → n ≤ i → i < field.length → get_or s (field.position + i) 0 ≡ 0

-- The value of strings that have a size is the bytes of the data field, less the zeros at their end: of one element whose text is ended or padded
-- by zeros these are the text's, `PaddedText` (docs/DIFFERENCES.md, 58 and 59, say where it is not so). The value of one element in a form that has a
-- number is that number. Nothing else has a value (57).
pub record SameValue (s : List ℕ) (value : Value) (t : Datatype) (n : ℕ) (field : Bytes) : Type 0 where
  pub text : class (header_of t) ≡ 3 → 0 < (header_of t).size → (part : Part) × (value ≡ values.Text part) × Less s part field × ((k : ℕ) → PaddedText s field k → part.length ≡ k)
  pub number : AreBytes s → n ≡ 1 → HasNumber t → (x : Number) × (value ≡ values.Number x) × SameNumber s t field.position x
  pub other : (class (header_of t) ≡ 3 → 0 < (header_of t).size → ⊥) → (n ≡ 1 → HasNumber t → ⊥) → value ≡ values.None

-- The name is the bytes of the name field, less the zeros at their end: what stands before the null terminator, where that is its first zero and
-- its last byte (docs/DIFFERENCES.md, 55).
pub record SameName (s : List ℕ) (name : Part) (field : Bytes) : Type 0 where
  pub bytes : Less s name field
  pub terminated : (n : ℕ) → NullTerminated s field n → name.length ≡ n

-- name and value; the other fields are not handed out, nor are the members of a compound
pub record SameFields (s : List ℕ) (a : ours.Attribute) (name-field : Bytes) (contents : Described) (data-field : Bytes) : Type 0 where
  pub name : SameName s a.name name-field
  pub members : Each ScalarMembers contents.datatype
  pub value : SameValue s a.value contents.datatype (elements contents.dataspace) data-field

abbrev pub SameAttribute : List ℕ → ours.Attribute → Attribute → Type 0
SameAttribute s a (of_version_1 x) = SameFields s a x.name x.described x.«data»
SameAttribute s a (of_version_3 x) = SameFields s a x.name x.described x.«data»

-- the name alone: the fields before it stand by the standard from p to m, and it is the name field that follows them
pub data NameStood (s : List ℕ) (p : ℕ) (name : Part) : Type 0 where
  in_version_1 : (m : ℕ) (x : Sizes1) → Stands s sizes1 p m x → SameName s name (record { position = m; length = x.name_size }) → NameStood s p name
  in_version_3 : (m : ℕ) (x : Sizes3) → Stands s sizes3 p m x → SameName s name (record { position = m; length = x.name_size }) → NameStood s p name
