-- The data layout message, by the section of the HDF5 File Format Specification. Assumes nothing: these are definitions.
use Rattle.std.specs.Prelude.{ℕ, eqb, ltb, Some, None}
use Rattle.format.specs.Format.{Format, done, refuse, number, skip, bytes, there, bind, check, pick, nothing}
use Rattle.records.specs.declared.Address.{Address}
use Rattle.records.specs.declared.Address.TheVariants as addresses
use Rattle.records.specs.declared.Part.{Part}
use Rattle.records.specs.declared.DataLayout.{DataLayout}
use Rattle.records.specs.Defaults.{empty_part}
use Rattle.helpers.specs.Addresses.{address}
use Rattle.parser.specs.declared.State.{State}
use Rattle.parser.specs.States.{address_valid}

-- the bytes from an address on; the empty part where the size is 0, whatever the address
abbrev pub contiguous_part : ℕ → ℕ → Part
contiguous_part address size = pick (eqb size 0) empty_part (record { position = address; length = size })

-- IV.A.2.i, compact storage: its raw data are passed over
unfoldable pub compact : Format DataLayout
compact = number 2 (λ size. skip size (done {A = DataLayout} (record { address = None; «data» = empty_part })))

-- the raw data are bytes of the file where the address lies between 0 and end-of-file
unfoldable pub data_from : State → ℕ → ℕ → Format Part
data_from s size address =
    pick (address_valid s address) (there address (bytes size nothing) (λ _. done (contiguous_part address size))) (
    done empty_part)

-- at the undefined address there are none
unfoldable pub raw_data_lem : State → ℕ → Address → Format Part
raw_data_lem s size addresses.Undefined = done empty_part
raw_data_lem s size (addresses.Number address) = data_from s size address

-- contiguous storage
unfoldable pub contiguous : State → Format DataLayout
contiguous s =
    bind (address s.size_of_offsets) (λ address.
    number s.size_of_lengths (λ size.
    check (ltb size 268435456) 13 (
    bind (raw_data_lem s size address) (λ raw_data.
    done {A = DataLayout} (record { address = Some address; «data» = raw_data })))))

-- IV.A.2.i, data layout, version 3: compact (0) and contiguous (1) storage; chunked (2) is refused by its own number
unfoldable pub data_layout : State → Format DataLayout
data_layout s =
    number 1 (λ version.
    check (eqb version 3) 13 (
    number 1 (λ layout_class.
    pick (eqb layout_class 0) compact (
    pick (eqb layout_class 1) (contiguous s) (
    pick (eqb layout_class 2) (refuse 14) (
    refuse 13))))))
