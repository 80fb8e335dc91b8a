-- What the record of a message that is read has of the specification's message. Entries are those of docs/DIFFERENCES.md, part one.
-- Assumes nothing: these are definitions.
use Rattle.std.specs.Prelude.{ℕ, ◌%◌, ◌<◌, ◌≡◌, ◌⊎◌, Bool, true, false, List, length, take, Option, Some, None}
use Rattle.records.specs.Defaults.{no_dimensions, empty_part}
use Rattle.records.specs.Elements.{count_of}
use Rattle.records.specs.declared.Address.{Address}
use Rattle.records.specs.declared.Address.TheVariants as addresses
use Rattle.records.specs.declared.Dimensions.{Dimensions}
use Rattle.records.specs.declared.DataSpace.{DataSpace}
use Rattle.records.specs.declared.LinkInfo.{LinkInfo}
use Rattle.records.specs.declared.GroupInfo.{GroupInfo}
use Rattle.records.specs.declared.AttributeInfo.{AttributeInfo}
use Rattle.records.specs.declared.DataLayout.{DataLayout}
use Rattle.parser.specs.declared.State.{State}
use Rattle.parser.specs.States.{address_valid}
use Rattle.ohdr_info.specs.Info.{some_address, some16, some64}
use Rattle.ohdr_entry.specs.declared.Continuation.{Continuation}
use Rattle.standard.specs.Fields as standard
use Rattle.standard.specs.Fields.{Optional, absent, present}
use Rattle.standard.specs.Tie.{Every}
use Rattle.standard.specs.Headers.{ContinuationMessage}
use Rattle.standard.specs.Dataspaces.{Stored, not_stored, stored, Dataspace1, Dataspace2, Dataspace, version_1, version_2, elements}
use Rattle.standard.specs.Infos.{LinkInfoMessage, GroupInfoMessage, AttributeInfoMessage}
use Rattle.standard.specs.Storage as storages
use Rattle.standard.specs.Storage.{FillValue, versions_1_and_2, version_3, ValidFillValue12, ContiguousStorage, LayoutProperties, DataLayout3}
use Rattle.standard.specs.Storage.{FilterDescription1, FilterPipeline1, ValidFilterPipeline1, ValidFilterPipeline2, FilterPipeline}
use Rattle.standard_messages.specs.Differences.{ElementsDiffer}

-- the same address
abbrev pub address_in : standard.Address → Address
address_in standard.undefined = addresses.Undefined
address_in (standard.defined n) = addresses.Number n

-- the same field, missing or there; and one that is the number zero where it is missing
abbrev pub option_address : Optional standard.Address → Option Address
option_address absent = None
option_address (present a) = Some (address_in a)

abbrev pub or_zero_address : Optional standard.Address → Address
or_zero_address absent = addresses.Number 0
or_zero_address (present a) = address_in a

-- what is read of an address by a flag, and the specification's field
pub record SameAddress (test : Bool) (a : Address) (o : Optional standard.Address) : Type 0 where
  pub zero : a ≡ or_zero_address o
  pub some : some_address test a ≡ option_address o

-- the same field, missing or there
abbrev pub option16 : Optional ℕ → Option ℕ
option16 absent = None
option16 (present n) = Some n

abbrev pub option64 : Optional ℕ → Option ℕ
option64 absent = None
option64 (present n) = Some n

-- a field that is zero where it is missing
abbrev pub or_zero : Optional ℕ → ℕ
or_zero absent = 0
or_zero (present n) = n

-- what is read of a field by a flag, and the specification's field
pub record Same (test : Bool) (n : ℕ) (o : Optional ℕ) : Type 0 where
  pub zero : n ≡ or_zero o
  pub two : some16 test n ≡ option16 o
  pub eight : some64 test n ≡ option64 o

-- the sizes of the dimensions
pub record SameSizes (ours : Dimensions) (theirs : List ℕ) : Type 0 where
  pub number_of_sizes : ours.count ≡ length theirs
  pub size : take ours.count ours.sizes ≡ theirs

-- the maximum sizes: none where they are not stored (entry 23); one that is unlimited is the number that all ones are (22)
abbrev pub SameMaximum : Dimensions → Stored → Type 0
SameMaximum ours not_stored = ours ≡ no_dimensions
SameMaximum ours (stored sizes) = SameSizes ours sizes

-- IV.A.2.b, version 1; reserved bits of the flags are kept, reserved bytes passed over (entry 25); permutation indices are refused (24)
pub record SameDataspace1 (ours : DataSpace) (theirs : Dataspace1) : Type 0 where
  pub dimensionality : ours.dimensionality ≡ theirs.dimensionality
  pub flags : ours.flags ≡ theirs.flags
  pub no_type : ours.kind ≡ None
  pub dimension_size : SameSizes ours.dimension_size theirs.dimension_size
  pub dimension_maximum_size : SameMaximum ours.dimension_max_size theirs.dimension_maximum_size
  pub no_permutation_index : theirs.permutation_index ≡ not_stored
  pub elements : ours.elements ≡ count_of (elements (version_1 theirs))

-- version 2; reserved bits of the flags are kept (entry 25), and the type is not tested (26); a null dataspace has no elements
pub record SameDataspace2 (ours : DataSpace) (theirs : Dataspace2) : Type 0 where
  pub dimensionality : ours.dimensionality ≡ theirs.dimensionality
  pub flags : ours.flags ≡ theirs.flags
  pub type : ours.kind ≡ Some theirs.type
  pub dimension_size : SameSizes ours.dimension_size theirs.dimension_size
  pub dimension_maximum_size : SameMaximum ours.dimension_max_size theirs.dimension_maximum_size
  pub elements : ElementsDiffer (version_2 theirs) ⊎ (ours.elements ≡ count_of (elements (version_2 theirs)))

abbrev pub SameDataspace : DataSpace → Dataspace → Type 0
SameDataspace ours (version_1 x) = SameDataspace1 ours x
SameDataspace ours (version_2 x) = SameDataspace2 ours x

-- and with as many elements, whatever the version
pub record SameSpace (ours : DataSpace) (theirs : Dataspace) : Type 0 where
  pub fields : SameDataspace ours theirs
  pub elements : ours.elements ≡ count_of (elements theirs)

-- IV.A.2.c; reserved bits of the flags are kept (entry 68)
pub record SameLinkInfo (ours : LinkInfo) (theirs : LinkInfoMessage) : Type 0 where
  pub flags : ours.flags ≡ theirs.flags
  pub maximum_creation_index : ours.maximum_creation_index ≡ option64 theirs.maximum_creation_index
  pub fractal_heap_address : ours.fractal_heap_address ≡ address_in theirs.fractal_heap_address
  pub address_of_v2_b_tree_for_name_index : ours.address_btree_index ≡ address_in theirs.address_of_v2_b_tree_for_name_index
  pub address_of_v2_b_tree_for_creation_order_index : ours.address_btree_order ≡ option_address theirs.address_of_v2_b_tree_for_creation_order_index

-- IV.A.2.k; estimates that are not stored are missing (entry 69), reserved bits of the flags are kept (70)
pub record SameGroupInfo (ours : GroupInfo) (theirs : GroupInfoMessage) : Type 0 where
  pub flags : ours.flags ≡ theirs.flags
  pub link_phase_change_maximum_compact_value : ours.maximum_compact_value ≡ option16 theirs.link_phase_change_maximum_compact_value
  pub link_phase_change_minimum_dense_value : ours.minimum_dense_value ≡ option16 theirs.link_phase_change_minimum_dense_value
  pub estimated_number_of_entries : ours.number_of_entries ≡ option16 theirs.estimated_number_of_entries
  pub estimated_link_name_length_of_entries : ours.length_of_entries ≡ option16 theirs.estimated_link_name_length_of_entries

-- IV.A.2.v; what is not stored is zero (entry 78), reserved bits of the flags are kept (79)
pub record SameAttributeInfo (ours : AttributeInfo) (theirs : AttributeInfoMessage) : Type 0 where
  pub flags : ours.flags ≡ theirs.flags
  pub maximum_creation_index : ours.maximum_creation_index ≡ or_zero theirs.maximum_creation_index
  pub fractal_heap_address : ours.fractal_heap_address ≡ address_in theirs.fractal_heap_address
  pub attribute_name_v2_b_tree_address : ours.attribute_name_btree ≡ address_in theirs.attribute_name_v2_b_tree_address
  pub attribute_creation_order_v2_b_tree_address : ours.attribute_creation_order_btree ≡ or_zero_address theirs.attribute_creation_order_v2_b_tree_address

-- IV.A.2.q
pub record SameContinuation (ours : Continuation) (theirs : ContinuationMessage) : Type 0 where
  pub offset : theirs.offset ≡ standard.defined ours.offset
  pub length : ours.length ≡ theirs.length

-- IV.A.2.i, contiguous storage: the address, and the raw data. Where the address is undefined there are none; where it is 0 (entry 43), or at or
-- past the end-of-file address (44), none are handed out.
pub record SameContiguous (s : State) (ours : DataLayout) (theirs : ContiguousStorage) : Type 0 where
  pub address : ours.address ≡ Some (address_in theirs.address)
  pub raw_data : (a : ℕ) → theirs.address ≡ standard.defined a → address_valid s a ≡ true → 0 < theirs.size → ours.«data» ≡ record { position = a; length = theirs.size }
  pub no_size : theirs.size ≡ 0 → ours.«data» ≡ empty_part
  pub undefined : theirs.address ≡ standard.undefined → ours.«data» ≡ empty_part
  pub no_data : (a : ℕ) → theirs.address ≡ standard.defined a → address_valid s a ≡ false → ours.«data» ≡ empty_part

-- compact storage: its raw data are not handed out (entry 41), and have no address
abbrev pub SameProperties : State → DataLayout → LayoutProperties → Type 0
SameProperties s ours (storages.compact c) = ours ≡ record { address = None; «data» = empty_part }
SameProperties s ours (storages.contiguous c) = SameContiguous s ours c

abbrev pub SameLayout : State → DataLayout → DataLayout3 → Type 0
SameLayout s ours theirs = SameProperties s ours theirs.properties

-- nothing of the message is handed out; its values are allowed ones in versions 1 and 2, and not tested in version 3 (entry 65)
abbrev pub ValidFill : FillValue → Type 0
ValidFill (versions_1_and_2 x) = ValidFillValue12 x
ValidFill (version_3 x) = Unit {0}

-- of what is asked of a filter of version 1 this alone is known of one that does not differ (76 has the rest): the length of its name
abbrev pub NamePadded : FilterDescription1 → Type 0
NamePadded x = x.fields.name_length % 8 ≡ 0

-- nothing of a pipeline is handed out; the values of its own fields are allowed ones, and those of filters of version 2 are not tested (76)
pub record ValidPipeline1 (x : FilterPipeline1) : Type 0 where
  pub fields_valid : ValidFilterPipeline1 x
  pub names_padded : Every NamePadded x.filter_description_list

abbrev pub ValidPipeline : FilterPipeline → Type 0
ValidPipeline (storages.version_1 x) = ValidPipeline1 x
ValidPipeline (storages.version_2 x) = ValidFilterPipeline2 x
