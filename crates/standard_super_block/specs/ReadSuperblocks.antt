-- When a superblock of the specification is read. Each condition names the entry of docs/DIFFERENCES.md, part one, that it excludes.
-- Assumes nothing: these are definitions.
use Rattle.std.specs.Prelude.{ℕ, ◌≤◌, ◌≡◌, true, List, length}
use Rattle.parser.specs.States.{file_limit, width_allowed}
use Rattle.standard.specs.Fields.{defined}
use Rattle.standard.specs.Superblocks.{Superblock, ValidChecksum}

-- one that stands up to `end`
pub record ReadSuperblock (file : List ℕ) (end : ℕ) (x : Superblock) : Type 0 where
  -- part two, 2: a file that is not too large
  pub small : length file ≤ file_limit
  -- 2: widths of 2 to 8 bytes
  pub offsets : width_allowed x.size_of_offsets ≡ true
  pub lengths : width_allowed x.size_of_lengths ≡ true
  -- 95: a base address of 0
  pub base : x.base_address ≡ defined 0
  -- 97: an end-of-file address and a root that are not undefined
  pub end_of_file : ℕ
  pub end_of_file_defined : x.end_of_file_address ≡ defined end_of_file
  pub root : ℕ
  pub root_defined : x.root_group_object_header_address ≡ defined root
  -- the checksum that the specification asks for
  pub checksum : ValidChecksum file end x
