-- II.A, the superblock of versions 2 and 3, its fields in the order of the table. Assumes nothing: these are definitions.
use Rattle.std.specs.Prelude.{ℕ, ◌-◌, ◌||◌, List, length, eqb, leb}
use Rattle.format.specs.Format.{Format, done, number, bind, check, pick, Out, found, refused, read}
use Rattle.helpers.specs.Addresses.{address, defined_address}
use Rattle.lookup3.specs.Lookup3.{sum_matches}
use Rattle.parser.specs.States.{file_limit, width_allowed}
use Rattle.super_block.specs.declared.SuperBlock.{SuperBlock}

-- the fields from the base address on, which is zero; end-of-file and root may not be undefined
unfoldable pub addresses : ℕ → ℕ → Format SuperBlock
addresses size_of_offsets size_of_lengths =
    number size_of_offsets (λ base_address.
    check (eqb base_address 0) 27 (
    bind (address size_of_offsets) (λ superblock_extension_address.
    bind (defined_address size_of_offsets 3) (λ end_of_file_address.
    bind (defined_address size_of_offsets 3) (λ root_group_object_header_address.
    number 4 (λ superblock_checksum.
    done {A = SuperBlock} (record {
      size_of_offsets = size_of_offsets;
      size_of_lengths = size_of_lengths;
      base_address = base_address;
      superblock_extension_address = superblock_extension_address;
      end_of_file_address = end_of_file_address;
      root_group_object_header_address = root_group_object_header_address;
    })))))))

-- the bytes 89 48 44 46 0D 0A 1A 0A
abbrev pub format_signature_lem : ℕ
format_signature_lem = 0x0A1A0A0D46444889

-- the signature; version 2 or 3; two widths; the flags may have any value
unfoldable pub super_block : Format SuperBlock
super_block =
    number 8 (λ format_signature.
    check (eqb format_signature format_signature_lem) 25 (
    number 1 (λ version_number.
    check (eqb version_number 2 || eqb version_number 3) 26 (
    number 1 (λ size_of_offsets.
    check (width_allowed size_of_offsets) 1 (
    number 1 (λ size_of_lengths.
    check (width_allowed size_of_lengths) 1 (
    number 1 (λ file_consistency_flags.
    addresses size_of_offsets size_of_lengths)))))))))

-- The checksum is the last field, and is that of the bytes before it; where it is not, 28.
abbrev pub summed : List ℕ → Out SuperBlock → Out SuperBlock
summed file (found b q) = pick (sum_matches file 0 (q - 4)) (found b q) (refused 28)
summed file (refused n) = refused n

-- The superblock of a file stands at byte 0; 2 comes first.
unfoldable pub super_block_of : List ℕ → Out SuperBlock
super_block_of file = pick (leb (length file) file_limit) (summed file (read file super_block 0)) (refused 2)
