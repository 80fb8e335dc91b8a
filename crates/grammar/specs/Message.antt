-- What stands in an entry: a message with the figures of its row, or a continuation. Assumes nothing: these are definitions.
use Rattle.std.specs.Prelude.{ℕ, Option, Some, None}
use Rattle.records.specs.declared.DataSpace.{DataSpace}
use Rattle.records.specs.declared.LinkInfo.{LinkInfo}
use Rattle.records.specs.declared.GroupInfo.{GroupInfo}
use Rattle.records.specs.declared.AttributeInfo.{AttributeInfo}
use Rattle.records.specs.declared.DataType.{DataType}
use Rattle.records.specs.declared.DataLayout.{DataLayout}
use Rattle.records.specs.declared.Attribute.{Attribute}
use Rattle.records.specs.declared.Value.{Value}
use Rattle.records.specs.declared.Value.TheVariants as values
use Rattle.records.specs.Numbers.{value_text, value_case, value_bits}
use Rattle.records.specs.declared.Part.{Part}
use Rattle.row.specs.declared.Row.{Row}

-- what is kept of a message's body; of a fill value, a filter pipeline and a body that is skipped nothing is
pub data Kept : Type 0 where
  nothing : Kept
  data_space : DataSpace → Kept
  link_info : LinkInfo → Kept
  data_type : DataType → Kept
  data_layout : DataLayout → Kept
  group_info : GroupInfo → Kept
  attribute : Attribute → Kept
  attribute_info : AttributeInfo → Kept

-- a message: type, flags and size of its entry, the position of its body, and what is kept of it
pub record Message : Type 0 where
  pub type : ℕ
  pub flags : ℕ
  pub size : ℕ
  pub body : ℕ
  pub kept : Kept

-- what an entry holds
pub data Held : Type 0 where
  message : Message → Held
  continuation : ℕ → ℕ → Held

-- an attribute has a name
abbrev pub name_of : Kept → Option Part
name_of nothing = None
name_of (data_space d) = None
name_of (link_info l) = None
name_of (data_type t) = None
name_of (data_layout l) = None
name_of (group_info g) = None
name_of (attribute a) = Some a.name
name_of (attribute_info a) = None

-- an attribute may have a value
abbrev pub value_of : Kept → Value
value_of nothing = values.None
value_of (data_space d) = values.None
value_of (link_info l) = values.None
value_of (data_type t) = values.None
value_of (data_layout l) = values.None
value_of (group_info g) = values.None
value_of (attribute a) = a.value
value_of (attribute_info a) = values.None

-- a layout's data and an attribute's text are parts of the file
abbrev pub part_of : Kept → Option Part
part_of nothing = None
part_of (data_space d) = None
part_of (link_info l) = None
part_of (data_type t) = None
part_of (data_layout l) = Some l.«data»
part_of (group_info g) = None
part_of (attribute a) = value_text a.value
part_of (attribute_info a) = None

-- a message's row
abbrev pub row_of : Message → Row
row_of m = record {
  kind = m.type;
  flags = m.flags;
  size = m.size;
  body = m.body;
  name = name_of m.kept;
  part = part_of m.kept;
  number_case = value_case (value_of m.kept);
  number_bits = value_bits (value_of m.kept);
}
