-- The messages on how data are stored, but for their layout, by the sections of the HDF5 File Format Specification. Assumes nothing: these are definitions.
use Rattle.std.specs.Prelude.{ℕ, ◌+◌, ◌*◌, ◌/◌, ◌%◌, ◌||◌, eqb, leb, ltb}
use Rattle.format.specs.Bits.{bit}
use Rattle.format.specs.Format.{Format, refuse, number, skip, bind, times, check, pick, nothing}

-- a size of 4 bytes, and that many bytes of a fill value
unfoldable pub fill_value : Format (Unit {0})
fill_value = number 4 (λ size. skip size nothing)

-- IV.A.2.e, fill value (old)
abbrev pub fill_old : Format (Unit {0})
fill_old = fill_value

-- IV.A.2.f, fill value, versions 1 and 2: allocation time 2 or 3, write time 2, and a fill value where it is defined
unfoldable pub fill12 : Format (Unit {0})
fill12 =
    number 1 (λ space_allocation_time.
    check (eqb space_allocation_time 2 || eqb space_allocation_time 3) 12 (
    number 1 (λ fill_value_write_time.
    check (eqb fill_value_write_time 2) 12 (
    number 1 (λ fill_value_defined.
    check (leb fill_value_defined 1) 12 (
    pick (eqb fill_value_defined 1) fill_value nothing))))))

-- version 3: flag bit 5 alone counts
unfoldable pub fill3 : Format (Unit {0})
fill3 = number 1 (λ flags. pick (bit flags 5) fill_value nothing)

unfoldable pub fill : Format (Unit {0})
fill =
    number 1 (λ version.
    pick (eqb version 1 || eqb version 2) fill12 (
    pick (eqb version 3) fill3 (
    refuse 12)))

-- a name's length rounded up to a multiple of 8, in 16 bits
abbrev pub padded_name : ℕ → ℕ
padded_name length = (length + 7) / 8 * 8 % 65536

-- IV.A.2.l, a filter of version 1: name, client data values of 4 bytes, and 4 bytes more where their number is odd
unfoldable pub filter1 : Format (Unit {0})
filter1 =
    number 2 (λ filter_identification_value.
    number 2 (λ name_length.
    number 2 (λ flags.
    number 2 (λ number-of-client-data-values.
    check (leb number-of-client-data-values 4096) 16 (
    skip (padded_name name_length) (
    skip (4 * number-of-client-data-values) (
    skip (4 * (number-of-client-data-values % 2)) nothing)))))))

-- a filter of version 2
unfoldable pub filter2 : Format (Unit {0})
filter2 =
    number 2 (λ filter_identification_value.
    number 2 (λ flags.
    number 2 (λ number-of-client-data-values.
    check (leb number-of-client-data-values 4096) 16 (
    skip (4 * number-of-client-data-values) nothing))))

-- a filter by the version of the message
unfoldable pub filter_of : ℕ → Format (Unit {0})
filter_of version = pick (eqb version 1) filter1 filter2

-- six reserved bytes, all zero, in version 1
unfoldable pub reserved : ℕ → Format (Unit {0})
reserved version = pick (eqb version 1) (number 6 (λ zeros. check (eqb zeros 0) 16 nothing)) nothing

-- IV.A.2.l, filter pipeline: fewer than 32 filters
unfoldable pub filter_pipeline : Format (Unit {0})
filter_pipeline =
    number 1 (λ version.
    check (eqb version 1 || eqb version 2) 16 (
    number 1 (λ number_of_filters.
    check (ltb number_of_filters 32) 16 (
    bind (reserved version) (λ _.
    times number_of_filters (filter_of version) nothing)))))
