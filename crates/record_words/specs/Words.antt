-- The words of each record: its fields in order. Assumes nothing: these are definitions.
use Rattle.std.specs.Prelude.{ℕ, List, [], ◌∷◌, ◌++◌, get_or, Option, Some, None}
use Rattle.records.specs.declared.Address.{Address}
use Rattle.records.specs.declared.Address.TheVariants as addresses
use Rattle.records.specs.declared.DataFormat.{DataFormat}
use Rattle.records.specs.declared.DataFormat.TheVariants as formats
use Rattle.records.specs.declared.Dimensions.{Dimensions}
use Rattle.records.specs.declared.DataSpace.{DataSpace}
use Rattle.records.specs.declared.DataType.{DataType}
use Rattle.records.specs.declared.LinkInfo.{LinkInfo}
use Rattle.records.specs.declared.GroupInfo.{GroupInfo}
use Rattle.records.specs.declared.AttributeInfo.{AttributeInfo}
use Rattle.records.specs.declared.DataLayout.{DataLayout}

abbrev pub present : Option ℕ → ℕ
present None = 0
present (Some v) = 1

abbrev pub value : Option ℕ → ℕ
value None = 0
value (Some v) = v

-- a field that a record has: 1 and its value; one that it lacks: 0 and 0
abbrev pub optional_words : Option ℕ → List ℕ
optional_words field = present field ∷ value field ∷ []

abbrev pub undefined : Address → ℕ
undefined addresses.Undefined = 1
undefined (addresses.Number n) = 0

abbrev pub number_of : Address → ℕ
number_of addresses.Undefined = 0
number_of (addresses.Number n) = n

-- the undefined address: 1 and 0; any other: 0 and its number
abbrev pub address_words : Address → List ℕ
address_words address = undefined address ∷ number_of address ∷ []

abbrev pub present_address : Option Address → ℕ
present_address None = 0
present_address (Some a) = 1

abbrev pub address_or_zero : Option Address → Address
address_or_zero None = addresses.Number 0
address_or_zero (Some a) = a

-- an address that a record has: 1 and its words; one that it lacks: zeros
abbrev pub optional_address_words : Option Address → List ℕ
optional_address_words field = present_address field ∷ address_words (address_or_zero field)

-- the count and the four places of sizes
abbrev pub dimensions_words : Dimensions → List ℕ
dimensions_words d = d.count ∷ get_or d.sizes 0 0 ∷ get_or d.sizes 1 0 ∷ get_or d.sizes 2 0 ∷ get_or d.sizes 3 0 ∷ []

abbrev pub too_many : Option ℕ → ℕ
too_many (Some n) = 0
too_many None = 1

abbrev pub counted_elements : Option ℕ → ℕ
counted_elements (Some n) = n
counted_elements None = 0

-- too many elements: 1 and 0; any other number: 0 and the number
abbrev pub elements_words : Option ℕ → List ℕ
elements_words count = too_many count ∷ counted_elements count ∷ []

abbrev pub data_space_words : DataSpace → List ℕ
data_space_words s =
    s.dimensionality
    ∷ s.flags
    ∷ (optional_words s.kind
    ++ (dimensions_words s.dimension_size ++ (dimensions_words s.dimension_max_size ++ elements_words s.elements)))

-- the kind, 1 for fixed and 2 for float, and its fields; those that it lacks are 0
abbrev pub known_format_words : DataFormat → List ℕ
known_format_words (formats.Fixed bit_offset bit_precision) = 1 ∷ bit_offset ∷ bit_precision ∷ 0 ∷ 0 ∷ 0 ∷ 0 ∷ 0 ∷ []
known_format_words (formats.Float f) =
    2 ∷ f.bit_offset ∷ f.bit_precision ∷ f.exponent_location ∷ f.exponent_size ∷ f.mantissa_location ∷ f.mantissa_size ∷ f.exponent_bias ∷ []

-- 0 is no format
abbrev pub format_words : Option DataFormat → List ℕ
format_words None = 0 ∷ 0 ∷ 0 ∷ 0 ∷ 0 ∷ 0 ∷ 0 ∷ 0 ∷ []
format_words (Some f) = known_format_words f

abbrev pub data_type_words : DataType → List ℕ
data_type_words t =
    t.class_and_version
    ∷ t.class_bit_field
    ∷ t.size
    ∷ (optional_words t.list_size ++ format_words t.data_fmt)

abbrev pub link_info_words : LinkInfo → List ℕ
link_info_words l =
    l.flags
    ∷ (optional_words l.maximum_creation_index
    ++ (address_words l.fractal_heap_address ++ (address_words l.address_btree_index ++ optional_address_words l.address_btree_order)))

abbrev pub group_info_words : GroupInfo → List ℕ
group_info_words g =
    g.flags
    ∷ (optional_words g.maximum_compact_value
    ++ (optional_words g.minimum_dense_value
    ++ (optional_words g.number_of_entries ++ optional_words g.length_of_entries)))

abbrev pub attribute_info_words : AttributeInfo → List ℕ
attribute_info_words a =
    a.flags
    ∷ a.maximum_creation_index
    ∷ (address_words a.fractal_heap_address
    ++ (address_words a.attribute_name_btree ++ address_words a.attribute_creation_order_btree))

-- the address, and then the data
abbrev pub data_layout_words : DataLayout → List ℕ
data_layout_words l = optional_address_words l.address ++ (l.«data».position ∷ l.«data».length ∷ [])
