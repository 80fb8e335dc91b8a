-- IV.A.2.c, link info; IV.A.2.k, group info; IV.A.2.v, attribute info. Assumes nothing: these are definitions.
use Rattle.std.specs.Prelude.{ℕ, eqb}
use Rattle.format.specs.Bits.{bit}
use Rattle.format.specs.Format.{Format, done, number, bind}
use Rattle.standard.specs.Fields.{Optional, Address, only, optional, address, optional_address}

-- Layout: Link Info
pub record LinkInfoMessage : Type 0 where
  pub version : ℕ
  pub flags : ℕ
  pub maximum_creation_index : Optional ℕ
  pub fractal_heap_address : Address
  pub address_of_v2_b_tree_for_name_index : Address
  pub address_of_v2_b_tree_for_creation_order_index : Optional Address

-- bit 0 of the flags: maximum creation index; bit 1: creation order index
unfoldable pub link_info_message : ℕ → Format LinkInfoMessage
link_info_message size_of_offsets =
    number 1 (λ version.
    only (eqb version 0) (
    number 1 (λ flags.
    bind (optional (bit flags 0) 8) (λ maximum_creation_index.
    bind (address size_of_offsets) (λ fractal_heap_address.
    bind (address size_of_offsets) (λ address_of_v2_b_tree_for_name_index.
    bind (optional_address (bit flags 1) size_of_offsets) (λ address_of_v2_b_tree_for_creation_order_index.
    done {A = LinkInfoMessage} (record {
      version = version;
      flags = flags;
      maximum_creation_index = maximum_creation_index;
      fractal_heap_address = fractal_heap_address;
      address_of_v2_b_tree_for_name_index = address_of_v2_b_tree_for_name_index;
      address_of_v2_b_tree_for_creation_order_index = address_of_v2_b_tree_for_creation_order_index;
    }))))))))

-- Layout: Group Info Message
pub record GroupInfoMessage : Type 0 where
  pub version : ℕ
  pub flags : ℕ
  pub link_phase_change_maximum_compact_value : Optional ℕ
  pub link_phase_change_minimum_dense_value : Optional ℕ
  pub estimated_number_of_entries : Optional ℕ
  pub estimated_link_name_length_of_entries : Optional ℕ

-- bit 0 of the flags: link phase change values; bit 1: estimates
unfoldable pub group_info_message : Format GroupInfoMessage
group_info_message =
    number 1 (λ version.
    only (eqb version 0) (
    number 1 (λ flags.
    bind (optional (bit flags 0) 2) (λ link_phase_change_maximum_compact_value.
    bind (optional (bit flags 0) 2) (λ link_phase_change_minimum_dense_value.
    bind (optional (bit flags 1) 2) (λ estimated_number_of_entries.
    bind (optional (bit flags 1) 2) (λ estimated_link_name_length_of_entries.
    done {A = GroupInfoMessage} (record {
      version = version;
      flags = flags;
      link_phase_change_maximum_compact_value = link_phase_change_maximum_compact_value;
      link_phase_change_minimum_dense_value = link_phase_change_minimum_dense_value;
      estimated_number_of_entries = estimated_number_of_entries;
      estimated_link_name_length_of_entries = estimated_link_name_length_of_entries;
    }))))))))

-- Layout: Attribute Info Message
pub record AttributeInfoMessage : Type 0 where
  pub version : ℕ
  pub flags : ℕ
  pub maximum_creation_index : Optional ℕ
  pub fractal_heap_address : Address
  pub attribute_name_v2_b_tree_address : Address
  pub attribute_creation_order_v2_b_tree_address : Optional Address

-- bit 0 of the flags: maximum creation index; bit 1: creation order B-tree
unfoldable pub attribute_info_message : ℕ → Format AttributeInfoMessage
attribute_info_message size_of_offsets =
    number 1 (λ version.
    only (eqb version 0) (
    number 1 (λ flags.
    bind (optional (bit flags 0) 2) (λ maximum_creation_index.
    bind (address size_of_offsets) (λ fractal_heap_address.
    bind (address size_of_offsets) (λ attribute_name_v2_b_tree_address.
    bind (optional_address (bit flags 1) size_of_offsets) (λ attribute_creation_order_v2_b_tree_address.
    done {A = AttributeInfoMessage} (record {
      version = version;
      flags = flags;
      maximum_creation_index = maximum_creation_index;
      fractal_heap_address = fractal_heap_address;
      attribute_name_v2_b_tree_address = attribute_name_v2_b_tree_address;
      attribute_creation_order_v2_b_tree_address = attribute_creation_order_v2_b_tree_address;
    }))))))))
