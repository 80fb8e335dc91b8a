-- The messages on links and attributes, by the sections of the HDF5 File Format Specification.
-- Assumes nothing: these are definitions.
use Rattle.std.specs.Prelude.{ℕ, Bool, eqb, Option, Some, None}
use Rattle.format.specs.Bits.{bit}
use Rattle.format.specs.Format.{Format, done, number, bind, check, pick}
use Rattle.records.specs.declared.Address.{Address}
use Rattle.records.specs.declared.Address.TheVariants as addresses
use Rattle.records.specs.declared.LinkInfo.{LinkInfo}
use Rattle.records.specs.declared.GroupInfo.{GroupInfo}
use Rattle.records.specs.declared.AttributeInfo.{AttributeInfo}
use Rattle.helpers.specs.Addresses.{address}
use Rattle.parser.specs.declared.State.{State}

-- a number of w bytes where it is present, and else nothing, which counts as zero
unfoldable pub cond : Bool → ℕ → Format ℕ
cond present w = pick present (number w done) (done 0)

-- an address of w bytes where it is present, and else nothing, which counts as the number zero
unfoldable pub cond_address : Bool → ℕ → Format Address
cond_address present w = pick present (address w) (done (addresses.Number 0))

-- a field that is there only where it is present
abbrev pub some16 : Bool → ℕ → Option ℕ
some16 present v = pick present (Some v) None

abbrev pub some64 : Bool → ℕ → Option ℕ
some64 present v = pick present (Some v) None

abbrev pub some_address : Bool → Address → Option Address
some_address present a = pick present (Some a) None

-- IV.A.2.c, link info: flag bit 0 brings the maximum creation index, bit 1 the B-tree of the creation order
unfoldable pub link_info : State → Format LinkInfo
link_info s =
    number 1 (λ version.
    check (eqb version 0) 10 (
    number 1 (λ flags.
    bind (cond (bit flags 0) 8) (λ maximum_creation_index.
    bind (address s.size_of_offsets) (λ fractal_heap_address.
    bind (address s.size_of_offsets) (λ name-index-address.
    bind (cond_address (bit flags 1) s.size_of_offsets) (λ creation-order-index-address.
    done {A = LinkInfo} (record {
      flags = flags;
      maximum_creation_index = some64 (bit flags 0) maximum_creation_index;
      fractal_heap_address = fractal_heap_address;
      address_btree_index = name-index-address;
      address_btree_order = some_address (bit flags 1) creation-order-index-address;
    }))))))))

-- IV.A.2.k, group info: flag bit 0 brings the link phase change values, bit 1 the estimated entry information
unfoldable pub group_info : Format GroupInfo
group_info =
    number 1 (λ version.
    check (eqb version 0) 15 (
    number 1 (λ flags.
    bind (cond (bit flags 0) 2) (λ maximum-compact-value.
    bind (cond (bit flags 0) 2) (λ minimum-dense-value.
    bind (cond (bit flags 1) 2) (λ estimated_number_of_entries.
    bind (cond (bit flags 1) 2) (λ estimated_link_name_length_of_entries.
    done {A = GroupInfo} (record {
      flags = flags;
      maximum_compact_value = some16 (bit flags 0) maximum-compact-value;
      minimum_dense_value = some16 (bit flags 0) minimum-dense-value;
      number_of_entries = some16 (bit flags 1) estimated_number_of_entries;
      length_of_entries = some16 (bit flags 1) estimated_link_name_length_of_entries;
    }))))))))

-- IV.A.2.v, attribute info: as link info, but with a maximum creation index of 2 bytes, and plain zeros for what is not there
unfoldable pub attribute_info : State → Format AttributeInfo
attribute_info s =
    number 1 (λ version.
    check (eqb version 0) 18 (
    number 1 (λ flags.
    bind (cond (bit flags 0) 2) (λ maximum_creation_index.
    bind (address s.size_of_offsets) (λ fractal_heap_address.
    bind (address s.size_of_offsets) (λ attribute-name-address.
    bind (cond_address (bit flags 1) s.size_of_offsets) (λ attribute-creation-order-address.
    done {A = AttributeInfo} (record {
      flags = flags;
      maximum_creation_index = maximum_creation_index;
      fractal_heap_address = fractal_heap_address;
      attribute_name_btree = attribute-name-address;
      attribute_creation_order_btree = attribute-creation-order-address;
    }))))))))
