-- A plain file of the specification, superblock and root header, that no listed limit or refusal turns back passes the check, and is accepted, with
-- exactly its header's messages. Assumes nothing.
use Rattle.std.specs.Prelude.{ℕ, ◌≡◌, List, length, Result, Ok}
use Rattle.std.proofs.Common.{sym, ◌∙◌}
use Rattle.format.specs.Format.{Stands, Out}
use Rattle.records.specs.declared.Refusal.{Refusal}
use Rattle.super_block.specs.declared.SuperBlock.{SuperBlock}
use Rattle.data_object_check.specs.declared.HeaderFigures.{HeaderFigures}
use Rattle.data_object_check.specs.Checked.{Checked}
use Rattle.data_object_words.specs.Handed.{Handed}
use Rattle.data_object_root.specs.Root.{HandedBy, HandedRoot, CheckedBy, CheckedRoot}
use Rattle.standard.specs.Fields.{defined}
use Rattle.standard.specs.Headers.{HeaderMessage}
use Rattle.standard.specs.Superblocks.{Superblock, superblock23}
use Rattle.standard_header.specs.Same.{no_continuations}
use Rattle.standard_header.specs.ReadHeaders.{next_after}
use Rattle.standard_header.proofs.Accepts.{header_passes, header_is_accepted}
use Rattle.standard_super_block.specs.Same.{SameSuperBlock}
use Rattle.standard_super_block.specs.ReadSuperblocks.{ReadSuperblock}
use Rattle.standard_super_block.specs.AcceptedAs.{CheckedRootHeader, ReadRootHeader, RootAcceptedAs}
use Rattle.standard_super_block.proofs.Ties.{superblock_is_read}

same_defined : {m n : ℕ} → defined m ≡ defined n → m ≡ n
same_defined e = cc

-- over a file whose superblock stands up to q and is read, and the messages of the header at its root address
module _ (file : List ℕ) (q : ℕ) (x : Superblock) (h : Stands file superblock23 0 q x) (r : ReadSuperblock file q x) (xs : List HeaderMessage) where
  -- what is said of the superblock that is read is said with the specification's values
  with_values : (P : ℕ → ℕ → ℕ → ℕ → Type 0) (b : SuperBlock) → SameSuperBlock b x → P b.size_of_offsets b.size_of_lengths b.end_of_file_address b.root_group_object_header_address
      → P x.size_of_offsets x.size_of_lengths r.end_of_file r.root
  with_values P b e d =
      let f : b.end_of_file_address ≡ r.end_of_file = same_defined (sym e.end_of_file_address ∙ r.end_of_file_defined) in
      let g : b.root_group_object_header_address ≡ r.root = same_defined (sym e.root_group_object_header_address ∙ r.root_defined) in
      rw (← e.size_of_offsets, ← e.size_of_lengths, ← f, ← g) d

  by_answer : (P : Out SuperBlock → Type 0) {u v : Out SuperBlock} → u ≡ v → P u → P v
  by_answer P e d = rw (← e) d

  pub root_passes : (o : CheckedRootHeader file r xs) (a : Result HeaderFigures Refusal) → CheckedRoot file a
      → a ≡ Ok (record { next = next_after o.header; entries = length xs; rows = length (no_continuations xs) })
  root_passes o a d =
      let b = superblock_is_read file q x h r in
      header_passes file x.size_of_offsets x.size_of_lengths r.end_of_file r.root xs o a
      (with_values (λ i l e p. Checked file i l e p a) b.0 b.2 (by_answer (CheckedBy file a) b.1 d))

  pub root_is_accepted : (n : ℕ) (o : ReadRootHeader file r xs n) (t w : List ℕ) → HandedRoot file n t w → RootAcceptedAs file r xs o.checked n t w
  root_is_accepted n o t w d =
      let b = superblock_is_read file q x h r in
      let y = with_values (λ i l e p. Handed file i l e p n t w) b.0 b.2 (by_answer (HandedBy file n t w) b.1 d) in
      record {
        object = y.object;
        words = y.words;
        header = header_is_accepted file x.size_of_offsets x.size_of_lengths r.end_of_file r.root xs n o y.object t y.decoded;
      }
