-- A check is never refused as 24: no format has that number, and without a table every message has its row. Nor is the check of a file's root.
-- Assumes nothing.
use Rattle.std.specs.Prelude.{ℕ, ◌≡◌, refl, Bool, false, ◌&&◌, List, length, leb, Result, Err}
use Rattle.std.proofs.Common.{ap, ◌∙◌}
use Rattle.std.proofs.Math.Bool.{true}
use Rattle.format.specs.Format.{Out, found, refused}
use Rattle.format.specs.Refusals.{RefusedWith}
use Rattle.format.specs.RefusalLaws.{refused_otherwise}
use Rattle.records.specs.declared.Refusal.TheVariants as refusals
use Rattle.records.specs.declared.Refusal.{Refusal}
use Rattle.parser.specs.States.{file_limit, width_allowed, state_for}
use Rattle.super_block.specs.declared.SuperBlock.{SuperBlock}
use Rattle.super_block.specs.SuperBlocks.{super_block_of}
use Rattle.super_block.specs.RefusalLaws.{refusal_not_24}
use Rattle.grammar.specs.Grammar.{Item}
use Rattle.grammar.specs.Walk.{choose, Went, reached, stopped, without_table}
use Rattle.data_object_header.specs.Headers.{header, decode}
use Rattle.data_object_check.specs.declared.HeaderFigures.{HeaderFigures}
use Rattle.data_object_check.specs.Checked.{check_out, figures, checked, Checked}
use Rattle.data_object_root.specs.Root.{CheckedBy, CheckedRoot}
use Rattle.data_object_theorems.specs.Refusals.{of_header, of_check}
use Rattle.data_object_theorems.specs.HeaderRefusals.{StopsWith, header_as}

module _ (file : List ℕ) (offsets lengths end at : ℕ) where
  checked_as : RefusedWith of_check (figures (checked file offsets lengths end at))
  unfolding decode
  checked_as = go (width_allowed offsets && width_allowed lengths) (leb (length file) file_limit) (header file (state_for offsets lengths end) without_table at) (header_as file (state_for offsets lengths end) at)
    where
      wider : (r : ℕ) → of_header r ≡ true → of_check r ≡ true
      wider r e = rw e

      go : (t u : Bool) (w : Went (List Item)) → StopsWith w → RefusedWith of_check (figures (choose t (λ _. choose u (λ _. w) (λ _. stopped 2 0)) (λ _. stopped 1 0)))
      go true true (reached xs q) h = tt
      go true true (stopped r n) h = wider r h
      go true false w h = refl
      go false u w h = refl

  -- every number that a check is refused with, whatever it is given
  pub check_refused_with : (a : Result HeaderFigures Refusal) → Checked file offsets lengths end at a → RefusedWith of_check (check_out a)
  check_refused_with a c = rw c.answer checked_as

  pub check_not_24 : Checked file offsets lengths end at (Err refusals.Table) → ⊥
  check_not_24 c = refused_otherwise of_check 24 (check_out (Err refusals.Table)) refl (check_refused_with (Err refusals.Table) c) refl

-- nor is that of a file's root
pub check_root_not_24 : (file : List ℕ) → CheckedRoot file (Err refusals.Table) → ⊥
check_root_not_24 file c = go (super_block_of file) refl c
  where
    go : (o : Out SuperBlock) → super_block_of file ≡ o → CheckedBy file (Err refusals.Table) o → ⊥
    go (found b q) e c = check_not_24 file b.size_of_offsets b.size_of_lengths b.end_of_file_address b.root_group_object_header_address c
    go (refused r) e c = let z : r ≡ 24 = cc in refusal_not_24 file (e ∙ ap refused z)
