-- IV.A.2.m, the attribute message, versions 1 and 3. Assumes nothing: these are definitions.
use Rattle.std.specs.Prelude.{ℕ, ◌-◌, ◌*◌, ◌&&◌, ◌||◌, eqb, leb, ltb, Option, Some, None}
use Rattle.format.specs.Bytes.{to_multiple_of8}
use Rattle.format.specs.Format.{Format, done, number, skip, text, here, attempt, bind, check, pick, nothing}
use Rattle.records.specs.Elements.{elements_of}
use Rattle.records.specs.declared.Part.{Part}
use Rattle.records.specs.declared.Value.{Value}
use Rattle.records.specs.declared.Value.TheVariants as values
use Rattle.records.specs.declared.Attribute.{Attribute}
use Rattle.records.specs.declared.DataType.{DataType}
use Rattle.parser.specs.declared.State.{State}
use Rattle.number_form.specs.declared.NumberForm.{NumberForm}
use Rattle.number_form.specs.Forms.{number_form}
use Rattle.element_number.specs.Values.{number_value}
use Rattle.ohdr_attribute.specs.declared.AttributeFields.{AttributeFields}
use Rattle.ohdr_datatype.specs.DataTypes.{class_of, data_type, type_levels}
use Rattle.ohdr_dataspace.specs.DataSpaces.{data_space}

-- a name, a type or a space of n bytes is padded to a multiple of 8 in version 1
abbrev pub padding : ℕ → ℕ → ℕ
padding version n = pick (eqb version 1) (to_multiple_of8 n) 0

-- a format and its padding, and what follows, which is given its value
abbrev pub padded : {A B : Type 0} → ℕ → Format A → (A → Format B) → Format B
padded version F k = here (λ from. bind F (λ a. here (λ upto. skip (padding version (upto - from)) (k a))))

-- class 3 with a size above 0: a text of all the elements, which may be empty
unfoldable pub text_value : ℕ → Format Value
text_value n = here (λ from. text n (λ length. done (values.Text (record { position = from; length = length }))))

-- class 9: as many bytes as its size, at most 12, and no value
unfoldable pub list_value : ℕ → Format Value
list_value size = check (leb size 12) 17 (skip size (done values.None))

-- other classes: their bytes are passed if they are 1 to 1,048,576, and there is no value
unfoldable pub other_value : ℕ → Format Value
other_value n = pick (leb 1 n && leb n 1048576) (skip n (done values.None)) (done values.None)

-- one element is a number where its form has one; in every other form its bytes are passed as those of many are
abbrev pub element_value : Option NumberForm → DataType → Format Value
element_value None t = other_value t.size
element_value (Some form) t = bind (number_value form t.class_bit_field t.size) (λ n. done (values.Number n))

-- the value, by the type's class and size and the number of elements
unfoldable pub value : DataType → ℕ → Format Value
value t n =
    pick (eqb (class_of t.class_and_version) 3 && ltb 0 t.size) (text_value (n * t.size)) (
    pick (eqb (class_of t.class_and_version) 9) (list_value t.size) (
    pick (eqb n 1) (element_value (number_form t) t) (
    other_value (n * t.size))))

-- dataspace and data, the first with its padding
unfoldable pub space_value : ℕ → State → DataType → Format Value
space_value version s datatype = padded version (data_space s) (λ dataspace. value datatype (elements_of dataspace))

-- datatype, dataspace and data, the first two each with its padding
unfoldable pub type_space_value : ℕ → State → Format Value
type_space_value version s = padded version (data_type type_levels) (space_value version s)

-- an attribute of this name, without a value
abbrev pub valueless : Part → Attribute
valueless name = record { name = name; value = values.None }

-- Type, space and value stand where they have a reading; where they have none, the attribute stands without a value,
-- and ends where its type would begin.
unfoldable pub name_and_value : ℕ → State → Part → Format Attribute
name_and_value version s name =
    attempt (type_space_value version s)
    (λ value. done {A = Attribute} (record { name = name; value = value }))
    (done (valueless name))

-- the encoding byte of version 3
unfoldable pub encoding : ℕ → Format (Unit {0})
encoding version = pick (eqb version 3) (number 1 (λ name_character_set_encoding. nothing)) nothing

-- version 1 or 3, and a name of at most 4,096 bytes; the flags, the two sizes and the encoding are not used
unfoldable pub attribute_fields : Format AttributeFields
attribute_fields =
    number 1 (λ version.
    check (eqb version 1 || eqb version 3) 17 (
    number 1 (λ flags.
    number 2 (λ name_size.
    check (leb name_size 4096) 17 (
    number 2 (λ datatype_size.
    number 2 (λ dataspace_size.
    bind (encoding version) (λ _.
    done {A = AttributeFields} (record { version = version; name_size = name_size })))))))))

-- the name, less trailing zeros, and its padding
unfoldable pub attribute : State → Format Attribute
attribute s =
    bind attribute_fields (λ f.
    here (λ from.
    text f.name_size (λ length.
    skip (padding f.version f.name_size) (
    name_and_value f.version s (record { position = from; length = length })))))
