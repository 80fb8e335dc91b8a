-- IV.A.2.m, The Attribute Message: versions 1 and 3. Assumes nothing: these are definitions.
-- Version 2 has a table too; nothing that is read is compared with it.
use Rattle.std.specs.Prelude.{ℕ, ◌+◌, ◌*◌, not, ◌||◌, eqb}
use Rattle.format.specs.Bits.{bit}
use Rattle.format.specs.Bytes.{to_multiple_of8}
use Rattle.format.specs.Format.{Format, done, refuse, number, here, bind, pick}
use Rattle.standard.specs.Fields.{Bytes, only, raw}
use Rattle.standard.specs.Versions.{by_version, marked}
use Rattle.standard.specs.Datatypes.{Datatype, header_of, datatype_message}
use Rattle.standard.specs.Dataspaces.{Dataspace, dataspace_message, elements}

-- Layout: Attribute Message (Version 1), up to the name
pub record Sizes1 : Type 0 where
  pub version : ℕ
  pub reserved : ℕ
  pub name_size : ℕ
  pub datatype_size : ℕ
  pub dataspace_size : ℕ

unfoldable pub sizes1 : Format Sizes1
sizes1 =
    number 1 (λ version.
    only (eqb version 1) (
    number 1 (λ reserved.
    number 2 (λ name_size.
    number 2 (λ datatype_size.
    number 2 (λ dataspace_size.
    done {A = Sizes1} (record {
      version = version;
      reserved = reserved;
      name_size = name_size;
      datatype_size = datatype_size;
      dataspace_size = dataspace_size;
    })))))))

-- Layout: Attribute Message (Version 3), up to the name
pub record Sizes3 : Type 0 where
  pub version : ℕ
  pub flags : ℕ
  pub name_size : ℕ
  pub datatype_size : ℕ
  pub dataspace_size : ℕ
  pub name_character_set_encoding : ℕ

unfoldable pub sizes3 : Format Sizes3
sizes3 =
    number 1 (λ version.
    only (eqb version 3) (
    number 1 (λ flags.
    number 2 (λ name_size.
    number 2 (λ datatype_size.
    number 2 (λ dataspace_size.
    number 1 (λ name_character_set_encoding.
    done {A = Sizes3} (record {
      version = version;
      flags = flags;
      name_size = name_size;
      datatype_size = datatype_size;
      dataspace_size = dataspace_size;
      name_character_set_encoding = name_character_set_encoding;
    }))))))))

-- a description of so many bytes: it ends where its size says
unfoldable pub sized : {A : Type 0} → ℕ → Format A → Format A
sized n F = here (λ from. bind F (λ x. here (λ upto. only (eqb upto (from + n)) (done x))))

-- Datatype and Dataspace, each with its padding: in version 1 to a multiple of eight bytes, in version 3 none
pub record Described : Type 0 where
  pub datatype : Datatype
  pub datatype_padding : ℕ
  pub dataspace : Dataspace
  pub dataspace_padding : ℕ

module _ (longest levels size_of_lengths : ℕ) where
  unfoldable pub described : (ℕ → ℕ) → ℕ → ℕ → Format Described
  described padding datatype_size dataspace_size =
      bind (sized datatype_size (datatype_message longest levels)) (λ datatype.
      number (padding datatype_size) (λ datatype_padding.
      bind (sized dataspace_size (dataspace_message size_of_lengths)) (λ dataspace.
      number (padding dataspace_size) (λ dataspace_padding.
      done {A = Described} (record {
        datatype = datatype;
        datatype_padding = datatype_padding;
        dataspace = dataspace;
        dataspace_padding = dataspace_padding;
      })))))

-- the size of a datatype element
abbrev pub element_size : Datatype → ℕ
element_size t = (header_of t).size

-- Data: as many bytes as datatype and dataspace say, one datatype element for each element of the dataspace
abbrev pub raw_size : Described → ℕ
raw_size x = elements x.dataspace * element_size x.datatype

-- Layout: Attribute Message (Version 1)
pub record Attribute1 : Type 0 where
  pub sizes : Sizes1
  pub name : Bytes
  pub name_padding : ℕ
  pub described : Described
  pub «data» : Bytes

-- Layout: Attribute Message (Version 3)
pub record Attribute3 : Type 0 where
  pub sizes : Sizes3
  pub name : Bytes
  pub described : Described
  pub «data» : Bytes

module _ (longest levels size_of_lengths : ℕ) where
  unfoldable pub attribute1 : Format Attribute1
  attribute1 =
      bind sizes1 (λ sizes.
      bind (raw sizes.name_size) (λ name.
      number (to_multiple_of8 sizes.name_size) (λ name_padding.
      bind (described longest levels size_of_lengths to_multiple_of8 sizes.datatype_size sizes.dataspace_size) (λ described.
      bind (raw (raw_size described)) (λ «data».
      done {A = Attribute1} (record {
        sizes = sizes;
        name = name;
        name_padding = name_padding;
        described = described;
        «data» = «data»;
      }))))))

  -- Flags: with bit 0 the datatype is shared, with bit 1 the dataspace: the field then holds a shared message. This is the table without.
  unfoldable pub attribute3 : Format Attribute3
  attribute3 =
      bind sizes3 (λ sizes.
      only (not (bit sizes.flags 0 || bit sizes.flags 1)) (
      bind (raw sizes.name_size) (λ name.
      bind (described longest levels size_of_lengths (λ _. 0) sizes.datatype_size sizes.dataspace_size) (λ described.
      bind (raw (raw_size described)) (λ «data».
      done {A = Attribute3} (record {
        sizes = sizes;
        name = name;
        described = described;
        «data» = «data»;
      }))))))

-- the message in either version
pub data Attribute : Type 0 where
  of_version_1 : Attribute1 → Attribute
  of_version_3 : Attribute3 → Attribute

unfoldable pub attribute_message : ℕ → ℕ → ℕ → Format Attribute
attribute_message longest levels size_of_lengths =
    by_version (λ version.
    pick (eqb version 1) (marked of_version_1 (attribute1 longest levels size_of_lengths)) (
    pick (eqb version 3) (marked of_version_3 (attribute3 longest levels size_of_lengths)) (
    refuse 0)))
