-- The record that stands for a missing one. Assumes nothing: these are definitions.
use Rattle.std.specs.Prelude.{replicate, None, Some}
use Rattle.records.specs.declared.Address.TheVariants as addresses
use Rattle.records.specs.declared.Dimensions.{Dimensions}
use Rattle.records.specs.declared.DataSpace.{DataSpace}
use Rattle.records.specs.declared.LinkInfo.{LinkInfo}
use Rattle.records.specs.declared.GroupInfo.{GroupInfo}
use Rattle.records.specs.declared.AttributeInfo.{AttributeInfo}
use Rattle.records.specs.declared.DataType.{DataType}
use Rattle.records.specs.declared.Part.{Part}
use Rattle.records.specs.declared.DataLayout.{DataLayout}

abbrev pub no_dimensions : Dimensions
no_dimensions = record { sizes = replicate 4 0; count = 0 }

-- without sizes it has one element
abbrev pub default_data_space : DataSpace
default_data_space =
    record {
      dimension_size = no_dimensions;
      dimension_max_size = no_dimensions;
      dimensionality = 0;
      flags = 0;
      kind = None;
      elements = Some 1;
    }

abbrev pub default_link_info : LinkInfo
default_link_info =
    record {
      flags = 0;
      maximum_creation_index = None;
      fractal_heap_address = addresses.Number 0;
      address_btree_index = addresses.Number 0;
      address_btree_order = None;
    }

abbrev pub default_group_info : GroupInfo
default_group_info =
    record {
      flags = 0;
      maximum_compact_value = None;
      minimum_dense_value = None;
      number_of_entries = None;
      length_of_entries = None;
    }

abbrev pub default_attribute_info : AttributeInfo
default_attribute_info =
    record {
      flags = 0;
      maximum_creation_index = 0;
      fractal_heap_address = addresses.Number 0;
      attribute_name_btree = addresses.Number 0;
      attribute_creation_order_btree = addresses.Number 0;
    }

abbrev pub default_data_type : DataType
default_data_type =
    record {
      class_and_version = 0;
      class_bit_field = 0;
      size = 0;
      list_size = None;
      data_fmt = None;
    }

-- no bytes at all
abbrev pub empty_part : Part
empty_part = record { position = 0; length = 0 }

abbrev pub default_data_layout : DataLayout
default_data_layout = record { address = None; «data» = empty_part }
