-- The numbers in the table of a file's root are the specification's, with the Size of Lengths of its superblock, without a condition on the file: it is
-- one of bytes, and the call says so. Assumes nothing.
use Rattle.std.specs.Prelude.{ℕ, ◌<◌, ◌≡◌, refl, List, get_or}
use Rattle.std.proofs.Common.{ap, ◌∙◌, arith}
use Rattle.format.specs.Bytes.{AreBytes}
use Rattle.format.specs.Format.{Stands, Out, found, refused}
use Rattle.format.specs.Laws.{sound, unique}
use Rattle.row.specs.Rows.{row_at}
use Rattle.super_block.specs.declared.SuperBlock.{SuperBlock}
use Rattle.super_block.specs.SuperBlocks.{super_block, super_block_of}
use Rattle.super_block.specs.Laws.{super_block_read}
use Rattle.data_object_words.specs.Laws.{rows_word}
use Rattle.data_object_root.specs.Root.{HandedBy, HandedRoot}
use Rattle.standard.specs.Superblocks.{Superblock, superblock23}
use Rattle.standard_header.specs.Is.{NumberInRow}
use Rattle.standard_header.proofs.RowNumbers.{decoded_numbers}
use Rattle.standard_super_block.proofs.Ties.{super_block_tied}

module _ (file : List ℕ) (bytes : AreBytes file) (n : ℕ) (t w : List ℕ) where
  -- of every row that the words tell of; a file that is refused has none
  pub root_numbers : HandedRoot file n t w → (q : ℕ) (x : Superblock) → Stands file superblock23 0 q x → (i : ℕ) → i < get_or w 3 0 → NumberInRow file x.size_of_lengths (row_at t i)
  root_numbers h q x s = by_block (super_block_of file) refl h
    where
      by_block : (o : Out SuperBlock) → super_block_of file ≡ o → HandedBy file n t w o → (i : ℕ) → i < get_or w 3 0 → NumberInRow file x.size_of_lengths (row_at t i)
      by_block (found b k) e d i l =
          let y = super_block_tied.ties file 0 k b (sound file super_block 0 k b (super_block_read file e).1) in
          let same : b.size_of_lengths ≡ x.size_of_lengths = y.related.size_of_lengths ∙ ap (λ (z : Superblock). z.size_of_lengths) (unique file superblock23 0 k q y.value x y.stands s).1 in
          let rows : get_or w 3 0 ≡ d.object.rows = ap (λ (v : List ℕ). get_or v 3 0) d.words ∙ rows_word d.object in
          rw (← same) (decoded_numbers file bytes b.size_of_offsets b.size_of_lengths b.end_of_file_address b.root_group_object_header_address n d.object t d.decoded i (omega (arith, rows)))
      by_block (refused r) e d i l = let none : get_or w 3 0 ≡ 0 = ap (λ (v : List ℕ). get_or v 3 0) d.1 in absurd (omega (arith, none))
