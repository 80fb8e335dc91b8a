-- IV.A.2.b, the dataspace message, versions 1 and 2. Assumes nothing: these are definitions.
use Rattle.std.specs.Prelude.{ℕ, ◌*◌, ◌≤◌, ◌<◌, ◌≡◌, Bool, List, [], ◌∷◌, eqb}
use Rattle.format.specs.Bits.{bit}
use Rattle.format.specs.Format.{Format, done, refuse, number, bind, pick}
use Rattle.standard.specs.Fields.{only, many}
use Rattle.standard.specs.Versions.{by_version, marked}

-- a number for each dimension, where they are stored
pub data Stored : Type 0 where
  not_stored : Stored
  stored : List ℕ → Stored

unfoldable pub stored_sizes : Bool → ℕ → ℕ → Format Stored
stored_sizes test n w = pick test (bind (many n (number w done)) (λ sizes. done (stored sizes))) (done not_stored)

-- Layout: Dataspace Message - Version 1
pub record Dataspace1 : Type 0 where
  pub version : ℕ
  pub dimensionality : ℕ
  pub flags : ℕ
  pub reserved : ℕ
  pub reserved_2 : ℕ
  pub dimension_size : List ℕ
  pub dimension_maximum_size : Stored
  pub permutation_index : Stored

-- bit 0 of the flags: maximum sizes; bit 1: permutation indices
unfoldable pub dataspace1 : ℕ → Format Dataspace1
dataspace1 size_of_lengths =
    number 1 (λ version.
    only (eqb version 1) (
    number 1 (λ dimensionality.
    number 1 (λ flags.
    number 1 (λ reserved.
    number 4 (λ reserved_2.
    bind (many dimensionality (number size_of_lengths done)) (λ dimension_size.
    bind (stored_sizes (bit flags 0) dimensionality size_of_lengths) (λ dimension_maximum_size.
    bind (stored_sizes (bit flags 1) dimensionality size_of_lengths) (λ permutation_index.
    done {A = Dataspace1} (record {
      version = version;
      dimensionality = dimensionality;
      flags = flags;
      reserved = reserved;
      reserved_2 = reserved_2;
      dimension_size = dimension_size;
      dimension_maximum_size = dimension_maximum_size;
      permutation_index = permutation_index;
    }))))))))))

-- Layout: Dataspace Message - Version 2
pub record Dataspace2 : Type 0 where
  pub version : ℕ
  pub dimensionality : ℕ
  pub flags : ℕ
  pub type : ℕ
  pub dimension_size : List ℕ
  pub dimension_maximum_size : Stored

-- bit 0 of the flags: maximum sizes
unfoldable pub dataspace2 : ℕ → Format Dataspace2
dataspace2 size_of_lengths =
    number 1 (λ version.
    only (eqb version 2) (
    number 1 (λ dimensionality.
    number 1 (λ flags.
    number 1 (λ type.
    bind (many dimensionality (number size_of_lengths done)) (λ dimension_size.
    bind (stored_sizes (bit flags 0) dimensionality size_of_lengths) (λ dimension_maximum_size.
    done {A = Dataspace2} (record {
      version = version;
      dimensionality = dimensionality;
      flags = flags;
      type = type;
      dimension_size = dimension_size;
      dimension_maximum_size = dimension_maximum_size;
    }))))))))

-- what is asked of the type: scalar (0), of no dimension; simple (1), of some; or null (2)
pub record ValidDataspace2 (x : Dataspace2) : Type 0 where
  pub type_known : x.type ≤ 2
  pub scalar : x.type ≡ 0 → x.dimensionality ≡ 0
  pub simple : x.type ≡ 1 → 0 < x.dimensionality

-- the message in either version
pub data Dataspace : Type 0 where
  version_1 : Dataspace1 → Dataspace
  version_2 : Dataspace2 → Dataspace

unfoldable pub dataspace_message : ℕ → Format Dataspace
dataspace_message size_of_lengths =
    by_version (λ version.
    pick (eqb version 1) (marked version_1 (dataspace1 size_of_lengths)) (
    pick (eqb version 2) (marked version_2 (dataspace2 size_of_lengths)) (
    refuse 0)))

-- the elements of a dataspace: a scalar one has a single element, a null one none, and else the product of the sizes of its dimensions
unfoldable pub product : List ℕ → ℕ
product [] = 1
product (n ∷ ns) = n * product ns

abbrev pub elements : Dataspace → ℕ
elements (version_1 x) = product x.dimension_size
elements (version_2 x) = pick (eqb x.type 0) 1 (pick (eqb x.type 2) 0 (product x.dimension_size))
