-- What is handed out of a plain file of the specification, superblock and root header, that no listed limit or refusal turns back.
-- Assumes nothing: these are definitions.
use Rattle.std.specs.Prelude.{ℕ, ◌≡◌, List}
use Rattle.data_object.specs.declared.DataObject.{DataObject}
use Rattle.data_object_words.specs.Words.{words_of}
use Rattle.standard.specs.Headers.{HeaderMessage}
use Rattle.standard.specs.Superblocks.{Superblock}
use Rattle.standard_header.specs.ReadHeaders.{CheckedObjectHeader, ReadObjectHeader}
use Rattle.standard_header.specs.AcceptedAs.{AcceptedAs}
use Rattle.standard_super_block.specs.ReadSuperblocks.{ReadSuperblock}

-- over a file whose superblock is read, and the messages of a header
module _ (file : List ℕ) {end : ℕ} {x : Superblock} (r : ReadSuperblock file end x) (xs : List HeaderMessage) where
  -- these are the messages of the header at its root address, with its widths and its end-of-file address; the conditions without a table, and with one
  -- of n words
  abbrev pub CheckedRootHeader : Type 0
  CheckedRootHeader = CheckedObjectHeader file x.size_of_offsets x.size_of_lengths r.end_of_file r.root xs

  abbrev pub ReadRootHeader : ℕ → Type 0
  ReadRootHeader n = ReadObjectHeader file x.size_of_offsets x.size_of_lengths r.end_of_file r.root n xs

  -- the words w tell of an object that is that header, in a table of n words, which ends as t
  pub record RootAcceptedAs (h : CheckedRootHeader) (n : ℕ) (t w : List ℕ) : Type 0 where
    pub object : DataObject
    pub words : w ≡ words_of object
    pub header : AcceptedAs file x.size_of_offsets x.size_of_lengths r.end_of_file r.root n xs h object t
