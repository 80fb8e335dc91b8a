-- When a message of the specification is read. Each condition names the entry of docs/DIFFERENCES.md, part one, that it excludes; what is in the
-- specification's format, or is a rule of its text, has none. Link info, group info, attribute info and the old fill value have no condition.
-- Assumes nothing: these are definitions.
use Rattle.std.specs.Prelude.{ℕ, ◌+◌, ◌-◌, ◌*◌, ◌%◌, ◌^◌, ◌≤◌, ◌<◌, ◌≡◌, ◌⊎◌, List, length}
use Rattle.parser.specs.declared.State.{State}
use Rattle.standard.specs.Fields.{defined}
use Rattle.standard.specs.Headers.{ContinuationMessage}
use Rattle.standard.specs.Tie.{Every}
use Rattle.standard.specs.Dataspaces.{Stored, not_stored, stored, Dataspace}
use Rattle.standard.specs.Dataspaces as dataspaces
use Rattle.standard.specs.Storage.{FillValue12, FillValue, versions_1_and_2, version_3, ContiguousStorage, LayoutProperties, compact, contiguous, FilterDescription1, FilterPipeline1, FilterDescription2, FilterPipeline2, FilterPipeline, version_1, version_2}
use Rattle.standard_messages.specs.Differences.{ElementsDiffer}

-- fields of a dataspace of either version
abbrev pub dimensionality_of : Dataspace → ℕ
dimensionality_of (dataspaces.version_1 x) = x.dimensionality
dimensionality_of (dataspaces.version_2 x) = x.dimensionality

abbrev pub sizes_of : Dataspace → List ℕ
sizes_of (dataspaces.version_1 x) = x.dimension_size
sizes_of (dataspaces.version_2 x) = x.dimension_size

abbrev pub maximum_sizes_of : Dataspace → Stored
maximum_sizes_of (dataspaces.version_1 x) = x.dimension_maximum_size
maximum_sizes_of (dataspaces.version_2 x) = x.dimension_maximum_size

abbrev pub permutation_of : Dataspace → Stored
permutation_of (dataspaces.version_1 x) = x.permutation_index
permutation_of (dataspaces.version_2 x) = not_stored

-- numbers that are stored, and P holds of each
abbrev pub EachStored : (ℕ → Type 0) → Stored → Type 0
EachStored P not_stored = Unit {0}
EachStored P (stored ns) = Every P ns

-- a dataspace that is not refused, with lengths of w bytes
pub record ReadSpace (w : ℕ) (x : Dataspace) : Type 0 where
  -- 19: at most four sizes
  pub few : dimensionality_of x ≤ 4
  -- 20: sizes up to 1,000,000
  pub sizes : Every (λ n. n ≤ 1000000) (sizes_of x)
  -- 21: maximum sizes up to 1,000,000, or all ones
  pub maximum_sizes_lem : EachStored (λ n. (n ≤ 1000000) ⊎ (n ≡ 2 ^ (8 * w) - 1)) (maximum_sizes_of x)
  -- 24: no permutation indices
  pub no_permutation : permutation_of x ≡ not_stored
  -- 26: no scalar dataspace with sizes, which is a rule of the text
  pub no_scalar_with_sizes : ElementsDiffer x → ⊥

-- the fill value, versions 1 and 2
pub record ReadFill12 (x : FillValue12) : Type 0 where
  -- 62: no early allocation
  pub allocation : (x.fields.space_allocation_time ≡ 2) ⊎ (x.fields.space_allocation_time ≡ 3)
  -- 63: one write time
  pub write_time : x.fields.fill_value_write_time ≡ 2
  -- a rule of the text
  pub defined : x.fields.fill_value_defined ≤ 1
  -- 64: in version 1 a value is defined
  pub in_version_1 : x.fields.version ≡ 1 → x.fields.fill_value_defined ≡ 1

abbrev pub ReadFill : FillValue → Type 0
ReadFill (versions_1_and_2 x) = ReadFill12 x
ReadFill (version_3 x) = Unit {0}

-- contiguous data: 42: below 268,435,456 bytes; 46: where the address lies between 0 and end-of-file, they lie in the bytes that are given
pub record ReadContiguous (file : List ℕ) (s : State) (x : ContiguousStorage) : Type 0 where
  pub small : x.size < 268435456
  pub inside : (a : ℕ) → x.address ≡ defined a → 0 < a → a < s.end_of_file_address → a + x.size ≤ length file

-- versions other than 3 (40), and chunked data, are not in the specification's format as it is written here
abbrev pub ReadLayout : List ℕ → State → LayoutProperties → Type 0
ReadLayout file s (compact x) = Unit {0}
ReadLayout file s (contiguous x) = ReadContiguous file s x

-- the continuation
pub record ReadContinuation (s : State) (offset : ℕ) (x : ContinuationMessage) : Type 0 where
  -- part two, 30: the offset is not undefined
  pub offset_defined : x.offset ≡ defined offset
  -- 16: nor 0
  pub above : 0 < offset
  -- the block has a signature and a checksum, and lies in the file as its end-of-file address bounds it
  pub least : 8 ≤ x.length
  pub within : offset + x.length ≤ s.end_of_file_address

-- a filter of version 1: 73: the length of its name is a multiple of 8; 74: and below 65,529; 75: at most 4,096 values
pub record ReadFilter1 (x : FilterDescription1) : Type 0 where
  pub name_padded : x.fields.name_length % 8 ≡ 0
  pub name_short : x.fields.name_length < 65529
  pub values : x.fields.number_client_data_values ≤ 4096

-- 71: fewer than 32 filters; the reserved bytes are zero, which is a rule of the text
pub record ReadPipeline1 (x : FilterPipeline1) : Type 0 where
  pub few : x.fields.number_of_filters < 32
  pub reserved : x.fields.reserved ≡ 0
  pub reserved_2 : x.fields.reserved_2 ≡ 0
  pub filters : Every ReadFilter1 x.filter_description_list

-- a filter of version 2: 72: it has no name; 75
pub record ReadFilter2 (x : FilterDescription2) : Type 0 where
  pub no_name : x.fields.filter_identification_value < 256
  pub values : x.fields.number_client_data_values ≤ 4096

pub record ReadPipeline2 (x : FilterPipeline2) : Type 0 where
  pub few : x.fields.number_of_filters < 32
  pub filters : Every ReadFilter2 x.filter_description_list

abbrev pub ReadPipeline : FilterPipeline → Type 0
ReadPipeline (version_1 x) = ReadPipeline1 x
ReadPipeline (version_2 x) = ReadPipeline2 x
