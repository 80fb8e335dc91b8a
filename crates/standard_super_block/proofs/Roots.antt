-- What is handed over of a plain file is its root's header as the specification has it: the header at the address, and read with the widths, that
-- the fields of the superblock name. Assumes nothing.
use Rattle.std.specs.Prelude.{ℕ, ◌≤◌, ◌≡◌, refl, List, get_or, Result, Ok, Err}
use Rattle.std.proofs.Common.{ap, ◌∙◌}
use Rattle.format.specs.Format.{Out, found, refused}
use Rattle.format.specs.Laws.{sound}
use Rattle.records.specs.RefusalLaws.{refusal_positive}
use Rattle.records.specs.declared.Refusal.{Refusal}
use Rattle.super_block.specs.declared.SuperBlock.{SuperBlock}
use Rattle.super_block.specs.SuperBlocks.{super_block, super_block_of}
use Rattle.super_block.specs.Laws.{super_block_read}
use Rattle.super_block.specs.RefusalLaws.{refusal_not_0}
use Rattle.data_object_words.specs.Handed.{Handed}
use Rattle.data_object_root.specs.Root.{HandedBy, HandedRoot}
use Rattle.standard_header.proofs.Handed.{decoded_standard}
use Rattle.standard_super_block.specs.Is.{RootIs}
use Rattle.standard_super_block.proofs.Ties.{super_block_tied, super_block_checksum}

-- Over a file, a table of n words, which ends as t, with the words w; and the longest name of a member that the specification's formats are asked
-- for.
module _ (file : List ℕ) (n longest : ℕ) (t w : List ℕ) where
  -- of every file that is not refused
  pub root_standard : 4095 ≤ longest → HandedRoot file n t w → get_or w 0 0 ≡ 0 → RootIs file n longest t w
  root_standard enough h z = by_block (super_block_of file) refl h
    where
      by_answer : (b : SuperBlock) (q : ℕ) → super_block_of file ≡ found b q
          → (d : Handed file b.size_of_offsets b.size_of_lengths b.end_of_file_address b.root_group_object_header_address n t w)
          → (a : Result (ℕ × ℕ) Refusal) → d.object.answer ≡ a → RootIs file n longest t w
      by_answer b q e d (Ok (next, count)) f =
          let x = super_block_tied.ties file 0 q b (sound file super_block 0 q b (super_block_read file e).1) in
          let r = x.related in
          record {
            superblock = x.value;
            end = q;
            stands = x.stands;
            checksum = super_block_checksum file b q x.value e x.stands;
            root = b.root_group_object_header_address;
            root_is = r.root_group_object_header_address;
            end_of_file = b.end_of_file_address;
            end_of_file_is = r.end_of_file_address;
            object = d.object;
            words = d.words;
            next = next;
            count = count;
            answer = f;
            header =
                rw (← r.size_of_offsets, ← r.size_of_lengths)
                (decoded_standard file b.size_of_offsets b.size_of_lengths b.end_of_file_address b.root_group_object_header_address n longest enough d.object t d.decoded next count f);
          }
      by_answer b q e d (Err y) f = absurd (refusal_positive y (rw (d.words, f) at z))

      by_block : (o : Out SuperBlock) → super_block_of file ≡ o → HandedBy file n t w o → RootIs file n longest t w
      by_block (found b q) e d = by_answer b q e d d.object.answer refl
      by_block (refused r) e d =
          let zero : r ≡ 0 = rw d.1 at z in
          absurd (refusal_not_0 file (e ∙ ap (λ (k : ℕ). refused k) zero))
