-- II.A, superblocks of versions 2 and 3. Assumes nothing: these are definitions.
use Rattle.std.specs.Prelude.{ℕ, ◌+◌, ◌-◌, ◌*◌, ◌≡◌, ◌||◌, List, eqb}
use Rattle.format.specs.Format.{Format, done, number, bind}
use Rattle.lookup3.specs.Lookup3.{checksum}
use Rattle.standard.specs.Fields.{Address, only, address}
use Rattle.standard.specs.Headers.{characters}

-- Layout: Superblock (Versions 2 and 3)
pub record Superblock : Type 0 where
  pub format_signature : ℕ
  pub version_number : ℕ
  pub size_of_offsets : ℕ
  pub size_of_lengths : ℕ
  pub file_consistency_flags : ℕ
  pub base_address : Address
  pub superblock_extension_address : Address
  pub end_of_file_address : Address
  pub root_group_object_header_address : Address
  pub superblock_checksum : ℕ

-- the eight values of the signature in their order, the first in the lowest byte
abbrev pub signature : ℕ
signature = characters 137 72 68 70 + 4294967296 * characters 13 10 26 10

unfoldable pub superblock23 : Format Superblock
superblock23 =
    number 8 (λ format_signature.
    only (eqb format_signature signature) (
    number 1 (λ version_number.
    only (eqb version_number 2 || eqb version_number 3) (
    number 1 (λ size_of_offsets.
    number 1 (λ size_of_lengths.
    number 1 (λ file_consistency_flags.
    bind (address size_of_offsets) (λ base_address.
    bind (address size_of_offsets) (λ superblock_extension_address.
    bind (address size_of_offsets) (λ end_of_file_address.
    bind (address size_of_offsets) (λ root_group_object_header_address.
    number 4 (λ superblock_checksum.
    done {A = Superblock} (record {
      format_signature = format_signature;
      version_number = version_number;
      size_of_offsets = size_of_offsets;
      size_of_lengths = size_of_lengths;
      file_consistency_flags = file_consistency_flags;
      base_address = base_address;
      superblock_extension_address = superblock_extension_address;
      end_of_file_address = end_of_file_address;
      root_group_object_header_address = root_group_object_header_address;
      superblock_checksum = superblock_checksum;
    })))))))))))))

-- Superblock Checksum, of a superblock from the file's first byte up to `end`: by I.A lookup3 of the fields before it
abbrev pub ValidChecksum : List ℕ → ℕ → Superblock → Type 0
ValidChecksum file end x = x.superblock_checksum ≡ checksum file 0 (end - 4)
