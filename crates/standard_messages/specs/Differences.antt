-- Where the bytes of a message that is read are not those of the specification's message. Each case is an entry of docs/DIFFERENCES.md, part one.
-- Assumes nothing: these are definitions.
use Rattle.std.specs.Prelude.{ℕ, ◌+◌, ◌≤◌, ◌%◌, ◌≡◌, List, []}
use Rattle.format.specs.Format.{done, number, Stands}
use Rattle.standard.specs.Tie.{Among}
use Rattle.standard.specs.Dataspaces.{Dataspace2, Dataspace, version_2}
use Rattle.standard.specs.Storage.{FillFields12, fill_fields12, FilterFields1, filter_fields1, filter_description1, PipelineFields1, pipeline_fields1, filter_description2, PipelineFields2, pipeline_fields2}

-- the elements of a dataspace are not those of the standard's
pub data ElementsDiffer : Dataspace → Type 0 where
  -- 26: a scalar dataspace with sizes, which here has as many elements as they make
  scalar_with_sizes : {x : Dataspace2} → x.type ≡ 0 → (x.dimension_size ≡ [] → ⊥) → ElementsDiffer (version_2 x)

-- version 1 and no value defined: the size, which the specification has there, is not read (entry 64)
pub data FillDiffers (s : List ℕ) (p : ℕ) : Type 0 where
  undefined_in_version_1 : (x : FillFields12) → Stands s fill_fields12 p (p + 4) x → x.version ≡ 1 → x.fill_value_defined ≡ 0 → FillDiffers s p

-- a filter of version 1 whose name is passed over by another length: one that is no multiple of 8 (entry 73), and one of 65,529 or more (74)
pub data FilterDiffers1 (s : List ℕ) (p : ℕ) : Type 0 where
  no_multiple_of_8 : (x : FilterFields1) → Stands s filter_fields1 p (p + 8) x → (x.name_length % 8 ≡ 0 → ⊥) → FilterDiffers1 s p
  from_65529 : (x : FilterFields1) → Stands s filter_fields1 p (p + 8) x → 65529 ≤ x.name_length → FilterDiffers1 s p

-- a filter of version 2 whose name is not passed over: one with an identification of 256 or more (entry 72)
pub data FilterDiffers2 (s : List ℕ) (p : ℕ) : Type 0 where
  with_a_name : (identification : ℕ) → Stands s (number 2 done) p (p + 2) identification → 256 ≤ identification → FilterDiffers2 s p

-- so many filters stand, and the next one differs
pub data PipelineDiffers (s : List ℕ) (p : ℕ) : Type 0 where
  in_version_1 : (m : ℕ) (x : PipelineFields1) → Stands s pipeline_fields1 p m x → Among FilterDiffers1 filter_description1 s x.number_of_filters m → PipelineDiffers s p
  in_version_2 : (m : ℕ) (x : PipelineFields2) → Stands s pipeline_fields2 p m x → Among FilterDiffers2 filter_description2 s x.number_of_filters m → PipelineDiffers s p
