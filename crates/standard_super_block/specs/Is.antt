-- What a plain file that is accepted is, in the words of the specification: its superblock, and the header at its root address.
-- Assumes nothing: these are definitions.
use Rattle.std.specs.Prelude.{ℕ, ◌≡◌, List, Ok}
use Rattle.format.specs.Format.{Stands}
use Rattle.data_object.specs.declared.DataObject.{DataObject}
use Rattle.data_object_words.specs.Words.{words_of}
use Rattle.standard.specs.Fields.{defined}
use Rattle.standard.specs.Superblocks.{Superblock, superblock23, ValidChecksum}
use Rattle.standard_header.specs.HeaderIs.{Standard}

-- Over a file, a table of n words, which ends as t, with the words w; and the longest name of a member that the specification's formats are asked
-- for.
module _ (file : List ℕ) (n longest : ℕ) (t w : List ℕ) where
  pub record RootIs : Type 0 where
    -- the superblock at byte 0
    pub superblock : Superblock
    pub end : ℕ
    pub stands : Stands file superblock23 0 end superblock
    pub checksum : ValidChecksum file end superblock
    -- its root and its end-of-file address, which are not undefined
    pub root : ℕ
    pub root_is : superblock.root_group_object_header_address ≡ defined root
    pub end_of_file : ℕ
    pub end_of_file_is : superblock.end_of_file_address ≡ defined end_of_file
    -- the header at its root address, with its widths and its end-of-file address
    pub object : DataObject
    pub words : w ≡ words_of object
    pub next : ℕ
    pub count : ℕ
    pub answer : object.answer ≡ Ok (next, count)
    pub header : Standard file superblock.size_of_offsets superblock.size_of_lengths end_of_file root n longest next count object t
