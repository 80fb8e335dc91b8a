-- Rules of the specification on values that are not tested: for each a message that is read and breaks it.
-- Entries are those of docs/DIFFERENCES.md, part one. Assumes nothing.
use Rattle.std.specs.Prelude.{refl, [], ◌∷◌}
use Rattle.std.proofs.Common.{arith}
use Rattle.format.specs.Bytes.{le}
use Rattle.format.specs.Format.{read, bind}
use Rattle.parser.specs.declared.State.{State}
use Rattle.ohdr_dataspace.specs.DataSpaces.{dimension, dimensions_from, dimensions, maximum_sizes, data_space2, data_space}
use Rattle.ohdr_storage.specs.Storage.{fill_value, fill12, fill3, fill, filter1, filter2}
use Rattle.standard.specs.Fields.{absent, optional, raw, many}
use Rattle.standard.specs.Untested.{Untested}
use Rattle.standard.specs.Dataspaces.{not_stored, stored_sizes, dataspace2, ValidDataspace2}
use Rattle.standard.specs.Storage.{not_present, size_and_fill_value_lem, fill_value3, ValidFillValue3, filter_fields1, filter_description1, ValidFilterDescription1, filter_fields2, filter_description2, ValidFilterDescription2}

-- lengths of 2 bytes
abbrev state : State
state = record { size_of_lengths = 2; size_of_offsets = 2; end_of_file_address = 0 }

-- 26: a dataspace of type 3
pub dataspace_untested : Untested (λ _ x. ValidDataspace2 x) (data_space state) (dataspace2 2)
unfolding read bind le many stored_sizes dataspace2 dimension dimensions_from dimensions maximum_sizes data_space2 data_space
dataspace_untested =
    record {
      file = 2 ∷ 0 ∷ 0 ∷ 3 ∷ [];
      end = 4;
      message = record { version = 2; dimensionality = 0; flags = 0; type = 3; dimension_size = []; dimension_maximum_size = not_stored };
      read_here = refl;
      standard = refl;
      broken = λ v. omega (arith, v.type_known);
    }

-- 65: flags of version 3 with no space allocation time
pub fill_value_untested : Untested (λ _ x. ValidFillValue3 x) fill fill_value3
unfolding read bind le size_and_fill_value_lem fill_value3 fill_value fill12 fill3 fill
fill_value_untested =
    record {
      file = 3 ∷ 0 ∷ [];
      end = 2;
      message = record { version = 3; flags = 0; size_and_value = not_present };
      read_here = refl;
      standard = refl;
      broken = λ v. omega (arith, v.allocation_least);
    }

-- 76: a filter of either version with identification 0
pub filter1_untested : Untested ValidFilterDescription1 filter1 filter_description1
unfolding read bind le raw many optional filter_fields1 filter_description1 filter1
filter1_untested =
    record {
      file = 0 ∷ 0 ∷ 0 ∷ 0 ∷ 0 ∷ 0 ∷ 0 ∷ 0 ∷ [];
      end = 8;
      message = record {
        fields = record { filter_identification_value = 0; name_length = 0; flags = 0; number_client_data_values = 0 };
        name = record { position = 8; length = 0 };
        client_data = [];
        padding = absent;
      };
      read_here = refl;
      standard = refl;
      broken = λ v. v.filter_identification_value refl;
    }

pub filter2_untested : Untested (λ _ x. ValidFilterDescription2 x) filter2 filter_description2
unfolding read bind le raw many optional filter_fields2 filter_description2 filter2
filter2_untested =
    record {
      file = 0 ∷ 0 ∷ 0 ∷ 0 ∷ 0 ∷ 0 ∷ [];
      end = 6;
      message = record {
        fields = record { filter_identification_value = 0; name_length = absent; flags = 0; number_client_data_values = 0 };
        name = record { position = 6; length = 0 };
        client_data = [];
      };
      read_here = refl;
      standard = refl;
      broken = λ v. v.filter_identification_value refl;
    }
