-- What is handed over of a file's root, and what checking it yields, is what the same gives by hand with the superblock's values, and there is one
-- table, one list of words and one answer of a check, since decoding and checking have one answer. What is refused has a true dataspace too.
-- Assumes nothing.
use Rattle.std.specs.Prelude.{ℕ, ◌≡◌, refl, List, Result}
use Rattle.std.proofs.Common.{sym, ◌∙◌}
use Rattle.format.specs.Format.{Out, found, refused}
use Rattle.records.specs.Elements.{product}
use Rattle.records.specs.declared.Refusal.{Refusal}
use Rattle.super_block.specs.declared.SuperBlock.{SuperBlock}
use Rattle.super_block.specs.SuperBlocks.{super_block_of}
use Rattle.data_object_check.specs.declared.HeaderFigures.{HeaderFigures}
use Rattle.data_object_check.specs.Checked.{Checked}
use Rattle.data_object_check.specs.CheckedLaws.{check_answer_unique, checked_unique}
use Rattle.data_object_words.specs.Handed.{Handed, TrueWords}
use Rattle.data_object_words.specs.Unique.{handed_unique}
use Rattle.data_object_root.specs.Root.{refused_words, HandedBy, HandedRoot, CheckedBy, CheckedRoot}

module _ (file : List ℕ) (n : ℕ) (t u v w : List ℕ) where
  by_block : (o : Out SuperBlock) → HandedBy file n t v o → HandedBy file n u w o → (t ≡ u) × (v ≡ w)
  by_block (found b q) h g =
      handed_unique file b.size_of_offsets b.size_of_lengths b.end_of_file_address b.root_group_object_header_address n t u v w h g
  by_block (refused r) h g = (h.0 ∙ sym g.0, h.1 ∙ sym g.1)

  pub handed_root_unique : HandedRoot file n t v → HandedRoot file n u w → (t ≡ u) × (v ≡ w)
  handed_root_unique h g = by_block (super_block_of file) h g

  pub root_by_hand : (b : SuperBlock) (q : ℕ) → super_block_of file ≡ found b q → HandedRoot file n t v
      → Handed file b.size_of_offsets b.size_of_lengths b.end_of_file_address b.root_group_object_header_address n u w → (t ≡ u) × (v ≡ w)
  root_by_hand b q e h g = by_block (found b q) (rw e at h) g

module _ (file : List ℕ) (x y : Result HeaderFigures Refusal) where
  checked_by : (o : Out SuperBlock) → CheckedBy file x o → CheckedBy file y o → x ≡ y
  checked_by (found b q) c d = checked_unique file b.size_of_offsets b.size_of_lengths b.end_of_file_address b.root_group_object_header_address x y c d
  checked_by (refused r) c d = check_answer_unique x y (c ∙ sym d)

  pub checked_root_unique : CheckedRoot file x → CheckedRoot file y → x ≡ y
  checked_root_unique c d = checked_by (super_block_of file) c d

  pub check_by_hand : (b : SuperBlock) (q : ℕ) → super_block_of file ≡ found b q → CheckedRoot file x
      → Checked file b.size_of_offsets b.size_of_lengths b.end_of_file_address b.root_group_object_header_address y → x ≡ y
  check_by_hand b q e c d = checked_by (found b q) (rw e at c) d

pub refused_true : (r : ℕ) → TrueWords (refused_words r)
unfolding product
refused_true r = refl
