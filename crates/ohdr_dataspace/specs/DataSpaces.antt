-- IV.A.2.b, the dataspace message: a table for version 1, and one for version 2. Assumes nothing: these are definitions.
use Rattle.std.specs.Prelude.{ℕ, zero, suc, ◌+◌, Bool, true, false, ◌&&◌, ◌||◌, not, List, replicate, set, eqb, leb, Some, None}
use Rattle.format.specs.Bits.{bit}
use Rattle.format.specs.Bytes.{all_ones}
use Rattle.format.specs.Format.{Format, done, refuse, number, skip, bind, check, pick}
use Rattle.records.specs.Defaults.{no_dimensions}
use Rattle.records.specs.Elements.{elements_by, count_of}
use Rattle.records.specs.declared.Dimensions.{Dimensions}
use Rattle.records.specs.declared.DataSpace.{DataSpace}
use Rattle.parser.specs.declared.State.{State}

-- one size in w bytes: at most 1,000,000; a maximum size may also be unlimited, which is all ones
unfoldable pub dimension : ℕ → Bool → Format ℕ
dimension w maximum =
    number w (λ size.
    check (leb size 1000000 || (maximum && eqb size (all_ones w))) 9 (
    done size))

-- n sizes, which go into the list from place i on
unfoldable pub dimensions_from : ℕ → ℕ → Bool → ℕ → List ℕ → Format (List ℕ)
dimensions_from zero w maximum i sizes = done sizes
dimensions_from (suc n) w maximum i sizes = bind (dimension w maximum) (λ size. dimensions_from n w maximum (i + 1) (set sizes i size))

-- n sizes, the first of four; the others are zero
unfoldable pub dimensions : ℕ → ℕ → Bool → Format Dimensions
dimensions n w maximum = bind (dimensions_from n w maximum 0 (replicate 4 0)) (λ sizes. done {A = Dimensions} (record { sizes = sizes; count = n }))

-- the maximum sizes, where they are present, and else none
unfoldable pub maximum_sizes : ℕ → ℕ → Bool → Format Dimensions
maximum_sizes n w present = pick present (dimensions n w true) (done no_dimensions)

-- Layout: Dataspace Message - Version 1, after its Version. Bit 0 of the flags: maximum sizes; bit 1: permutation indices; it refuses.
unfoldable pub data_space1 : ℕ → Format DataSpace
data_space1 size_of_lengths =
    number 1 (λ dimensionality.
    check (leb dimensionality 4) 9 (
    number 1 (λ flags.
    check (not (bit flags 1)) 9 (
    -- reserved: a byte, and four more
    skip 1 (
    skip 4 (
    bind (dimensions dimensionality size_of_lengths false) (λ dimension_size.
    bind (maximum_sizes dimensionality size_of_lengths (bit flags 0)) (λ dimension_maximum_size.
    -- permutation index: none, since its flag has refused
    done {A = DataSpace} (record {
      dimensionality = dimensionality;
      flags = flags;
      kind = None;
      dimension_size = dimension_size;
      dimension_max_size = dimension_maximum_size;
      elements = count_of (elements_by None dimension_size);
    })))))))))

-- Layout: Dataspace Message - Version 2, after its Version. Bit 0 of the flags: maximum sizes. Type 2 is a null dataspace; no type is refused.
unfoldable pub data_space2 : ℕ → Format DataSpace
data_space2 size_of_lengths =
    number 1 (λ dimensionality.
    check (leb dimensionality 4) 9 (
    number 1 (λ flags.
    number 1 (λ type.
    bind (dimensions dimensionality size_of_lengths false) (λ dimension_size.
    bind (maximum_sizes dimensionality size_of_lengths (bit flags 0)) (λ dimension_maximum_size.
    done {A = DataSpace} (record {
      dimensionality = dimensionality;
      flags = flags;
      kind = Some type;
      dimension_size = dimension_size;
      dimension_max_size = dimension_maximum_size;
      elements = count_of (elements_by (Some type) dimension_size);
    })))))))

-- the version, and the table of that version
unfoldable pub data_space : State → Format DataSpace
data_space s =
    number 1 (λ version.
    pick (eqb version 1) (data_space1 s.size_of_lengths) (
    pick (eqb version 2) (data_space2 s.size_of_lengths) (
    refuse 9)))
