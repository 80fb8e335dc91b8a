-- The continuation message, by its section of the HDF5 File Format Specification. Assumes nothing: these are definitions.
use Rattle.std.specs.Prelude.{◌+◌, ◌&&◌, leb}
use Rattle.format.specs.Format.{Format, done, number, bind, check}
use Rattle.helpers.specs.Addresses.{defined_address}
use Rattle.parser.specs.declared.State.{State}
use Rattle.parser.specs.States.{address_valid}
use Rattle.ohdr_entry.specs.declared.Continuation.{Continuation}

-- IV.A.2.q, continuation: an offset that is not undefined, 0 < offset < end-of-file, 8 ≤ length, offset + length ≤ end-of-file
unfoldable pub continuation : State → Format Continuation
continuation s =
    bind (defined_address s.size_of_offsets 19) (λ offset.
    check (address_valid s offset) 19 (
    number s.size_of_lengths (λ length.
    check (leb 8 length && leb (offset + length) s.end_of_file_address) 19 (
    done {A = Continuation} (record { offset = offset; length = length })))))
