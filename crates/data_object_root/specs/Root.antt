-- What is handed over of the root's header of a plain file, and what checking it yields. Assumes nothing: these are definitions.
use Rattle.std.specs.Prelude.{ℕ, ◌≡◌, List, ◌∷◌, ◌++◌, replicate, Result}
use Rattle.format.specs.Format.{Out, found, refused}
use Rattle.records.specs.Defaults.{default_data_space}
use Rattle.records.specs.declared.Refusal.{Refusal}
use Rattle.super_block.specs.declared.SuperBlock.{SuperBlock}
use Rattle.super_block.specs.SuperBlocks.{super_block_of}
use Rattle.data_object_check.specs.declared.HeaderFigures.{HeaderFigures}
use Rattle.data_object_check.specs.Checked.{check_out, Checked}
use Rattle.record_words.specs.Words.{data_space_words}
use Rattle.data_object_words.specs.Handed.{Handed}

-- the number of a refusal, no position, entry or row, and the defaults: the dataspace, which has one element, and records of which every word is 0
abbrev pub refused_words : ℕ → List ℕ
refused_words r = r ∷ 0 ∷ 0 ∷ 0 ∷ (data_space_words default_data_space ++ replicate 45 0)

-- Over a file and a table of n words, which ends as t, with the words w.
module _ (file : List ℕ) (n : ℕ) (t w : List ℕ) where
  -- with a superblock: what decoding the header at its root address yields, with its widths and its end-of-file address; where it is refused,
  -- the table is all zero, and nothing but the number and the defaults is handed over
  abbrev pub HandedBy : Out SuperBlock → Type 0
  HandedBy (found b q) =
      Handed file b.size_of_offsets b.size_of_lengths b.end_of_file_address b.root_group_object_header_address n t w
  HandedBy (refused r) = (t ≡ replicate n 0) × (w ≡ refused_words r)

  -- with the file's own
  abbrev pub HandedRoot : Type 0
  HandedRoot = HandedBy (super_block_of file)

-- With a superblock: what checking the header at its root address yields, with its widths and its end-of-file address; where it is refused, its number.
module _ (file : List ℕ) (a : Result HeaderFigures Refusal) where
  abbrev pub CheckedBy : Out SuperBlock → Type 0
  CheckedBy (found b q) = Checked file b.size_of_offsets b.size_of_lengths b.end_of_file_address b.root_group_object_header_address a
  CheckedBy (refused r) = check_out a ≡ refused r

  -- with the file's own
  abbrev pub CheckedRoot : Type 0
  CheckedRoot = CheckedBy (super_block_of file)
