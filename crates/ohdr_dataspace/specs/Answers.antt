-- What the answers of the readers mean. Assumes nothing: these are definitions.
use Rattle.std.specs.Prelude.{ℕ, ◌≤◌, false, List, Option, Result, Ok, Err}
use Rattle.format.specs.Bits.{bit}
use Rattle.format.specs.Format.{Format, done, bind, Out, refused, read}
use Rattle.records.specs.Refusals.{refusal_number}
use Rattle.records.specs.Elements.{elements_by, count_of}
use Rattle.records.specs.declared.DataSpace.{DataSpace}
use Rattle.records.specs.declared.Refusal.{Refusal}
use Rattle.ohdr_dataspace.specs.declared.Fields.{Fields}
use Rattle.ohdr_dataspace.specs.DataSpaces.{dimensions, maximum_sizes}

-- the lines that both tables end with: the sizes, the maximum sizes, and the record with what stands before them
unfoldable pub data_space_sizes : (w dimensionality flags : ℕ) (kind : Option ℕ) → Format DataSpace
data_space_sizes w dimensionality flags kind =
    bind (dimensions dimensionality w false) (λ dimension_size.
    bind (maximum_sizes dimensionality w (bit flags 0)) (λ dimension_maximum_size.
    done {A = DataSpace} (record {
      dimensionality = dimensionality;
      flags = flags;
      kind = kind;
      dimension_size = dimension_size;
      dimension_max_size = dimension_maximum_size;
      elements = count_of (elements_by kind dimension_size);
    })))

-- what stands before the sizes, and the sizes from where they begin
abbrev pub fields_out : List ℕ → ℕ → Result (Fields × ℕ) Refusal → Out DataSpace
fields_out s w (Ok (f, q)) = read s (data_space_sizes w f.dimensionality f.flags f.kind) q
fields_out s w (Err r) = refused (refusal_number r)

-- at most four sizes follow
abbrev pub Few : Result (Fields × ℕ) Refusal → Type 0
Few (Ok (f, q)) = f.dimensionality ≤ 4
Few (Err r) = Unit {0}
