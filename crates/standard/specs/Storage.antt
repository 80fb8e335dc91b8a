-- IV.A.2.e and f, fill values; IV.A.2.i, data layout, version 3; IV.A.2.l, filter pipeline. Assumes nothing: these are definitions.
use Rattle.std.specs.Prelude.{ℕ, ◌+◌, ◌-◌, ◌/◌, ◌%◌, ◌≤◌, ◌<◌, ◌≡◌, ◌⊎◌, Bool, not, ◌&&◌, ◌||◌, true, List, get_or, eqb, leb, ltb}
use Rattle.format.specs.Bits.{bit}
use Rattle.format.specs.Format.{Format, done, refuse, number, bind, pick}
use Rattle.standard.specs.Fields.{Optional, absent, present, Address, Bytes, only, optional, address, raw, many}
use Rattle.standard.specs.Versions.{by_version, marked}

-- Layout: Fill Value Message (Old)
pub record FillValueOld : Type 0 where
  pub size : ℕ
  pub fill_value : Bytes

unfoldable pub fill_value_old : Format FillValueOld
fill_value_old =
    number 4 (λ size.
    bind (raw size) (λ fill_value.
    done {A = FillValueOld} (record { size = size; fill_value = fill_value })))

-- the last two fields of a fill value message, where they are present: size, and fill value
pub data SizeAndFillValue : Type 0 where
  not_present : SizeAndFillValue
  size_and_fill_value : ℕ → Bytes → SizeAndFillValue

unfoldable pub size_and_fill_value_lem : Bool → Format SizeAndFillValue
size_and_fill_value_lem test = pick test (number 4 (λ size. bind (raw size) (λ fill_value. done (size_and_fill_value size fill_value)))) (done not_present)

-- the first fields of Layout: Fill Value Message - Versions 1 and 2
pub record FillFields12 : Type 0 where
  pub version : ℕ
  pub space_allocation_time : ℕ
  pub fill_value_write_time : ℕ
  pub fill_value_defined : ℕ

unfoldable pub fill_fields12 : Format FillFields12
fill_fields12 =
    number 1 (λ version.
    only (eqb version 1 || eqb version 2) (
    number 1 (λ space_allocation_time.
    number 1 (λ fill_value_write_time.
    number 1 (λ fill_value_defined.
    done {A = FillFields12} (record {
      version = version;
      space_allocation_time = space_allocation_time;
      fill_value_write_time = fill_value_write_time;
      fill_value_defined = fill_value_defined;
    }))))))

-- Layout: Fill Value Message - Versions 1 and 2
pub record FillValue12 : Type 0 where
  pub fields : FillFields12
  pub size_and_value : SizeAndFillValue

-- size and value are not present where the version is above 1 and the value is not defined
unfoldable pub fill_value12 : Format FillValue12
fill_value12 =
    bind fill_fields12 (λ fields.
    bind (size_and_fill_value_lem (not (ltb 1 fields.version && eqb fields.fill_value_defined 0))) (λ size_and_value.
    done {A = FillValue12} (record { fields = fields; size_and_value = size_and_value })))

-- the values that are allowed
pub record ValidFillValue12 (x : FillValue12) : Type 0 where
  pub allocation_least : 1 ≤ x.fields.space_allocation_time
  pub allocation_most : x.fields.space_allocation_time ≤ 3
  pub write_time : x.fields.fill_value_write_time ≤ 2
  pub defined : x.fields.fill_value_defined ≤ 1

-- Layout: Fill Value Message - Version 3
pub record FillValue3 : Type 0 where
  pub version : ℕ
  pub flags : ℕ
  pub size_and_value : SizeAndFillValue

-- bit 5 of the flags: fill value defined
unfoldable pub fill_value3 : Format FillValue3
fill_value3 =
    number 1 (λ version.
    only (eqb version 3) (
    number 1 (λ flags.
    bind (size_and_fill_value_lem (bit flags 5)) (λ size_and_value.
    done {A = FillValue3} (record { version = version; flags = flags; size_and_value = size_and_value })))))

-- bits 0-1 and 2-3 are times as in the earlier versions; bits 4 and 5 are not both set; bits 6-7 are zero
pub record ValidFillValue3 (x : FillValue3) : Type 0 where
  pub allocation_least : 1 ≤ x.flags % 4
  pub write_time : x.flags / 4 % 4 ≤ 2
  pub one_of_two : (bit x.flags 4 && bit x.flags 5) ≡ true → ⊥
  pub reserved : x.flags / 64 % 4 ≡ 0

-- the message in either table
pub data FillValue : Type 0 where
  versions_1_and_2 : FillValue12 → FillValue
  version_3 : FillValue3 → FillValue

unfoldable pub fill_value_message : Format FillValue
fill_value_message =
    by_version (λ version.
    pick (eqb version 1 || eqb version 2) (marked versions_1_and_2 fill_value12) (
    pick (eqb version 3) (marked version_3 fill_value3) (
    refuse 0)))

-- Layout: Compact Storage Property Description
pub record CompactStorage : Type 0 where
  pub size : ℕ
  pub raw_data : Bytes

unfoldable pub compact_storage : Format CompactStorage
compact_storage =
    number 2 (λ size.
    bind (raw size) (λ raw_data.
    done {A = CompactStorage} (record { size = size; raw_data = raw_data })))

-- Layout: Contiguous Storage Property Description
pub record ContiguousStorage : Type 0 where
  pub address : Address
  pub size : ℕ

unfoldable pub contiguous_storage : ℕ → ℕ → Format ContiguousStorage
contiguous_storage size_of_offsets size_of_lengths =
    bind (address size_of_offsets) (λ address.
    number size_of_lengths (λ size.
    done {A = ContiguousStorage} (record { address = address; size = size })))

-- the properties of the layout classes 0 and 1
pub data LayoutProperties : Type 0 where
  compact : CompactStorage → LayoutProperties
  contiguous : ContiguousStorage → LayoutProperties

-- Layout: Data Layout Message (Version 3), of layout class compact (0) or contiguous (1)
pub record DataLayout3 : Type 0 where
  pub version : ℕ
  pub layout_class : ℕ
  pub properties : LayoutProperties

unfoldable pub layout_properties : ℕ → ℕ → ℕ → Format LayoutProperties
layout_properties size_of_offsets size_of_lengths layout_class =
    pick (eqb layout_class 0) (marked compact compact_storage) (
    pick (eqb layout_class 1) (marked contiguous (contiguous_storage size_of_offsets size_of_lengths)) (
    refuse 0))

unfoldable pub data_layout3 : ℕ → ℕ → Format DataLayout3
data_layout3 size_of_offsets size_of_lengths =
    number 1 (λ version.
    only (eqb version 3) (
    number 1 (λ layout_class.
    bind (layout_properties size_of_offsets size_of_lengths layout_class) (λ properties.
    done {A = DataLayout3} (record { version = version; layout_class = layout_class; properties = properties })))))

-- the first fields of Layout: Filter Description - Version 1
pub record FilterFields1 : Type 0 where
  pub filter_identification_value : ℕ
  pub name_length : ℕ
  pub flags : ℕ
  pub number_client_data_values : ℕ

unfoldable pub filter_fields1 : Format FilterFields1
filter_fields1 =
    number 2 (λ filter_identification_value.
    number 2 (λ name_length.
    number 2 (λ flags.
    number 2 (λ number_client_data_values.
    done {A = FilterFields1} (record {
      filter_identification_value = filter_identification_value;
      name_length = name_length;
      flags = flags;
      number_client_data_values = number_client_data_values;
    })))))

-- Layout: Filter Description - Version 1
pub record FilterDescription1 : Type 0 where
  pub fields : FilterFields1
  pub name : Bytes
  pub client_data : List ℕ
  pub padding : Optional ℕ

-- an odd number of client data values brings a padding of four bytes
unfoldable pub filter_description1 : Format FilterDescription1
filter_description1 =
    bind filter_fields1 (λ fields.
    bind (raw fields.name_length) (λ name.
    bind (many fields.number_client_data_values (number 4 done)) (λ client_data.
    bind (optional (eqb (fields.number_client_data_values % 2) 1) 4) (λ padding.
    done {A = FilterDescription1} (record { fields = fields; name = name; client_data = client_data; padding = padding })))))

-- what is asked of a filter: identification 0 is reserved; flag bits 1-15 are zero; a name ends with a zero, and is filled up with zeros to a
-- multiple of eight; so is the padding zero
pub record ValidFilterDescription1 (s : List ℕ) (x : FilterDescription1) : Type 0 where
  pub filter_identification_value : x.fields.filter_identification_value ≡ 0 → ⊥
  pub flags_reserved : x.fields.flags / 2 ≡ 0
  pub name_padded : x.fields.name_length % 8 ≡ 0
  pub name_ended : 0 < x.fields.name_length → get_or s (x.name.position + x.name.length - 1) 0 ≡ 0
  pub padding_zeroes : (x.padding ≡ absent) ⊎ (x.padding ≡ present 0)

-- the first fields of Layout: Filter Pipeline Message - Version 1
pub record PipelineFields1 : Type 0 where
  pub version : ℕ
  pub number_of_filters : ℕ
  pub reserved : ℕ
  pub reserved_2 : ℕ

unfoldable pub pipeline_fields1 : Format PipelineFields1
pipeline_fields1 =
    number 1 (λ version.
    only (eqb version 1) (
    number 1 (λ number_of_filters.
    number 2 (λ reserved.
    number 4 (λ reserved_2.
    done {A = PipelineFields1} (record { version = version; number_of_filters = number_of_filters; reserved = reserved; reserved_2 = reserved_2 }))))))

-- Layout: Filter Pipeline Message - Version 1
pub record FilterPipeline1 : Type 0 where
  pub fields : PipelineFields1
  pub filter_description_list : List FilterDescription1

unfoldable pub filter_pipeline1 : Format FilterPipeline1
filter_pipeline1 =
    bind pipeline_fields1 (λ fields.
    bind (many fields.number_of_filters filter_description1) (λ filter_description_list.
    done {A = FilterPipeline1} (record { fields = fields; filter_description_list = filter_description_list })))

-- at most 32 filters; six reserved bytes are zero
pub record ValidFilterPipeline1 (x : FilterPipeline1) : Type 0 where
  pub number_of_filters : x.fields.number_of_filters ≤ 32
  pub reserved : x.fields.reserved ≡ 0
  pub reserved_2 : x.fields.reserved_2 ≡ 0

-- the first fields of Layout: Filter Description - Version 2; identifications below 256 have no name length and no name
pub record FilterFields2 : Type 0 where
  pub filter_identification_value : ℕ
  pub name_length : Optional ℕ
  pub flags : ℕ
  pub number_client_data_values : ℕ

unfoldable pub filter_fields2 : Format FilterFields2
filter_fields2 =
    number 2 (λ filter_identification_value.
    bind (optional (leb 256 filter_identification_value) 2) (λ name_length.
    number 2 (λ flags.
    number 2 (λ number_client_data_values.
    done {A = FilterFields2} (record {
      filter_identification_value = filter_identification_value;
      name_length = name_length;
      flags = flags;
      number_client_data_values = number_client_data_values;
    })))))

-- how many bytes a field says, which may be missing
abbrev pub or_none : Optional ℕ → ℕ
or_none absent = 0
or_none (present n) = n

-- Layout: Filter Description - Version 2
pub record FilterDescription2 : Type 0 where
  pub fields : FilterFields2
  pub name : Bytes
  pub client_data : List ℕ

unfoldable pub filter_description2 : Format FilterDescription2
filter_description2 =
    bind filter_fields2 (λ fields.
    bind (raw (or_none fields.name_length)) (λ name.
    bind (many fields.number_client_data_values (number 4 done)) (λ client_data.
    done {A = FilterDescription2} (record { fields = fields; name = name; client_data = client_data }))))

-- What is asked of a filter: identification 0 is reserved; flag bits 1-15 are zero. Of its name nothing is asked: the text says both that it is
-- padded to a multiple of eight and that it is not (docs/DECISIONS.md).
pub record ValidFilterDescription2 (x : FilterDescription2) : Type 0 where
  pub filter_identification_value : x.fields.filter_identification_value ≡ 0 → ⊥
  pub flags_reserved : x.fields.flags / 2 ≡ 0

-- the first fields of Layout: Filter Pipeline Message - Version 2
pub record PipelineFields2 : Type 0 where
  pub version : ℕ
  pub number_of_filters : ℕ

unfoldable pub pipeline_fields2 : Format PipelineFields2
pipeline_fields2 =
    number 1 (λ version.
    only (eqb version 2) (
    number 1 (λ number_of_filters.
    done {A = PipelineFields2} (record { version = version; number_of_filters = number_of_filters }))))

-- Layout: Filter Pipeline Message - Version 2
pub record FilterPipeline2 : Type 0 where
  pub fields : PipelineFields2
  pub filter_description_list : List FilterDescription2

unfoldable pub filter_pipeline2 : Format FilterPipeline2
filter_pipeline2 =
    bind pipeline_fields2 (λ fields.
    bind (many fields.number_of_filters filter_description2) (λ filter_description_list.
    done {A = FilterPipeline2} (record { fields = fields; filter_description_list = filter_description_list })))

-- at most 32 filters
pub record ValidFilterPipeline2 (x : FilterPipeline2) : Type 0 where
  pub number_of_filters : x.fields.number_of_filters ≤ 32

-- the message in either version
pub data FilterPipeline : Type 0 where
  version_1 : FilterPipeline1 → FilterPipeline
  version_2 : FilterPipeline2 → FilterPipeline

unfoldable pub filter_pipeline_message : Format FilterPipeline
filter_pipeline_message =
    by_version (λ version.
    pick (eqb version 1) (marked version_1 filter_pipeline1) (
    pick (eqb version 2) (marked version_2 filter_pipeline2) (
    refuse 0)))
