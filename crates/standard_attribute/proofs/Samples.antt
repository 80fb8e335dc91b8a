-- Attributes that the standard reads otherwise than they are read here: listed differences that are real. Assumes nothing.
use Rattle.std.specs.Prelude.{ℕ, ◌≡◌, refl, List, [], ◌∷◌, ◌++◌}
use Rattle.format.specs.Bytes.{le, text_length}
use Rattle.format.specs.Format.{Out, found, refused, read, bind}
use Rattle.records.specs.Elements as counted
use Rattle.records.specs.declared.Value.TheVariants as values
use Rattle.records.specs.declared.Attribute as ours
use Rattle.parser.specs.declared.State.{State}
use Rattle.ohdr_datatype.specs.DataTypes.{known_class, known_type, data_type_header, plain, type_layer, data_type}
use Rattle.ohdr_datatype.specs.DataTypes as types
use Rattle.ohdr_dataspace.specs.DataSpaces as spaces
use Rattle.ohdr_attribute.specs.Attributes.{text_value, value, space_value, type_space_value, name_and_value, encoding, attribute_fields, attribute}
use Rattle.standard.specs.Fields.{Bytes, many, raw}
use Rattle.standard.specs.Versions.{by_version, marked}
use Rattle.standard.specs.Datatypes.{datatype_header, properties, datatype_of, datatype_message}
use Rattle.standard.specs.Dataspaces.{stored_sizes, dataspace1, dataspace2, dataspace_message, product}
use Rattle.standard.specs.Attributes.{sizes1, sizes3, sized, described, attribute1, attribute3, attribute_message}
use Rattle.standard_attribute.specs.ReadValues.{data_of}

-- lengths of 2 bytes
abbrev state : State
state = record { size_of_lengths = 2; size_of_offsets = 2; end_of_file_address = 0 }

-- the data field of the standard's message, and the end
abbrev theirs : List ℕ → Out Bytes
theirs file = elim (read file (attribute_message 4095 1 2) 0) [ found x q ↦ found (data_of x) q | refused n ↦ refused n ]

-- the value that is handed out, and the end
abbrev valued : ℕ → ℕ → ours.Attribute
valued position length = record { name = record { position = 9; length = 0 }; value = values.Text (record { position = position; length = length }) }

-- version 3, an empty name, a string of 1 byte, a dataspace of version 2 and so many bytes, and the text `vw`
abbrev attribute3_of : ℕ → List ℕ → List ℕ
attribute3_of size space = (3 ∷ 0 ∷ 1 ∷ 0 ∷ 8 ∷ 0 ∷ size ∷ 0 ∷ 0 ∷ 0 ∷ []) ++ (0x13 ∷ 0 ∷ 0 ∷ 0 ∷ 1 ∷ 0 ∷ 0 ∷ 0 ∷ []) ++ space ++ (0x76 ∷ 0x77 ∷ [])

-- a file, the standard's data field and end, and what is read here
pub record Sample : Type 0 where
  pub file : List ℕ
  pub standard : Out Bytes
  pub read_here : Out ours.Attribute

abbrev pub samples : List Sample
samples =
    -- 26: a scalar dataspace with a size
    record { file = attribute3_of 6 (2 ∷ 1 ∷ 0 ∷ 0 ∷ 2 ∷ 0 ∷ []); standard = found (record { position = 24; length = 1 }) 25; read_here = found (valued 24 2) 26 }
    -- 53: sizes of 0 are written for datatype and dataspace
    ∷ record {
      file = (3 ∷ 0 ∷ 1 ∷ 0 ∷ 0 ∷ 0 ∷ 0 ∷ 0 ∷ 0 ∷ 0 ∷ []) ++ (0x13 ∷ 0 ∷ 0 ∷ 0 ∷ 1 ∷ 0 ∷ 0 ∷ 0 ∷ []) ++ (2 ∷ 0 ∷ 0 ∷ 0 ∷ 0x76 ∷ []);
      standard = refused 0;
      read_here = found (valued 22 1) 23;
    }
    ∷ []

-- what a function gives at each sample
abbrev pub each : {A : Type 0} → (Sample → A) → List Sample → List A
each f [] = []
each f (x ∷ xs) = f x ∷ each f xs

-- the standard's message ends elsewhere than the attribute that is read, or does not stand
pub samples_standard : each (λ (x : Sample). theirs x.file) samples ≡ each (λ (x : Sample). x.standard) samples
unfolding read bind le many raw by_version marked datatype_header properties datatype_of datatype_message stored_sizes dataspace1 dataspace2 dataspace_message sizes1 sizes3 sized described product attribute1 attribute3 attribute_message
samples_standard = refl

pub samples_here : each (λ (x : Sample). read x.file (attribute state) 0) samples ≡ each (λ (x : Sample). x.read_here) samples
unfolding read bind le text_length known_class known_type data_type_header plain type_layer data_type types.properties spaces.data_space spaces.data_space2 spaces.dimensions spaces.dimensions_from spaces.dimension spaces.maximum_sizes counted.product text_value value space_value type_space_value name_and_value encoding attribute_fields attribute
samples_here = refl
