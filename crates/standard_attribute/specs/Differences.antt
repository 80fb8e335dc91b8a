-- Where the bytes of an attribute that is read are not those of the standard's attribute message, in the words of the standard's formats.
-- Each case is an entry of docs/DIFFERENCES.md, part one. Assumes nothing: these are definitions.
use Rattle.std.specs.Prelude.{ℕ, ◌+◌, ◌<◌, ◌≡◌, true, ◌||◌, List}
use Rattle.format.specs.Bits.{bit}
use Rattle.format.specs.Bytes.{to_multiple_of8}
use Rattle.format.specs.Format.{Stands}
use Rattle.records.specs.declared.Value.{Value}
use Rattle.parser.specs.declared.State.{State}
use Rattle.ohdr_datatype.specs.DataTypes.{type_levels}
use Rattle.ohdr_attribute.specs.Attributes.{type_space_value}
use Rattle.standard.specs.Datatypes.{class, Datatype, header_of, datatype_message}
use Rattle.standard.specs.Dataspaces.{Dataspace, dataspace_message, elements}
use Rattle.standard.specs.Attributes.{Sizes1, sizes1, Sizes3, sizes3, sized, Described, described, raw_size}
use Rattle.standard_datatype.specs.Differences.{TypeDiffers}
use Rattle.standard_messages.specs.Differences.{ElementsDiffer}

-- over a file, the widths, and the longest name that is asked for
module _ (s : List ℕ) (state : State) (longest : ℕ) where
  -- datatype, dataspace and data of an attribute, from p on, differ; padding is the version's, and the two sizes are those that are written
  pub data ContentsDiffer (version : ℕ) (padding : ℕ → ℕ) (datatype_size dataspace_size p : ℕ) : Type 0 where
    -- 56: they have no reading, and the attribute stands without a value
    no_reading : ((q : ℕ) (value : Value) → Stands s (type_space_value version state) p q value → ⊥) → ContentsDiffer version padding datatype_size dataspace_size p
    -- 34, 35: the datatype differs
    in_datatype : TypeDiffers longest s p → ContentsDiffer version padding datatype_size dataspace_size p
    -- 53: the datatype's size is not the one that is written
    other_datatype_size : (m : ℕ) (t : Datatype) → Stands s (datatype_message longest type_levels) p m t → (m ≡ p + datatype_size → ⊥)
        → ContentsDiffer version padding datatype_size dataspace_size p
    -- 53: the dataspace's size is not the one that is written
    other_dataspace_size : (m q : ℕ) (t : Datatype) (d : Dataspace) → Stands s (sized datatype_size (datatype_message longest type_levels)) p m t
        → Stands s (dataspace_message state.size_of_lengths) (m + padding datatype_size) q d → (q ≡ m + padding datatype_size + dataspace_size → ⊥)
        → ContentsDiffer version padding datatype_size dataspace_size p
    -- 26
    other_elements : (m : ℕ) (x : Described) → Stands s (described longest type_levels state.size_of_lengths padding datatype_size dataspace_size) p m x
        → ElementsDiffer x.dataspace → ContentsDiffer version padding datatype_size dataspace_size p
    -- 60: elements of variable length, other than one
    variable_length_elements : (m : ℕ) (x : Described) → Stands s (described longest type_levels state.size_of_lengths padding datatype_size dataspace_size) p m x
        → class (header_of x.datatype) ≡ 9 → (elements x.dataspace ≡ 1 → ⊥) → ContentsDiffer version padding datatype_size dataspace_size p
    -- 61: long data of a class that is neither a string nor of variable length
    long_data : (m : ℕ) (x : Described) → Stands s (described longest type_levels state.size_of_lengths padding datatype_size dataspace_size) p m x
        → (class (header_of x.datatype) ≡ 3 → ⊥) → (class (header_of x.datatype) ≡ 9 → ⊥) → 1048576 < raw_size x → ContentsDiffer version padding datatype_size dataspace_size p

  -- the attribute message at p differs
  pub data AttributeDiffers (p : ℕ) : Type 0 where
    -- 50: a shared datatype or dataspace
    shared : (m : ℕ) (x : Sizes3) → Stands s sizes3 p m x → (bit x.flags 0 || bit x.flags 1) ≡ true → AttributeDiffers p
    -- what follows the name differs
    in_version_1 : (m : ℕ) (x : Sizes1) → Stands s sizes1 p m x
        → ContentsDiffer 1 to_multiple_of8 x.datatype_size x.dataspace_size (m + x.name_size + to_multiple_of8 x.name_size) → AttributeDiffers p
    in_version_3 : (m : ℕ) (x : Sizes3) → Stands s sizes3 p m x
        → ContentsDiffer 3 (λ _. 0) x.datatype_size x.dataspace_size (m + x.name_size) → AttributeDiffers p
