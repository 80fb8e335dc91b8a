-- Laws of checking a file's root and filling a table with it, which end in `joint_root`. Assumes nothing.
use Rattle.std.specs.Prelude.{ℕ, ◌/◌, ◌≡◌, refl, List, Result, Ok, Err}
use Rattle.std.proofs.Common.{sym, ap, ◌∙◌, arith}
use Rattle.format.specs.Format.{Out, found, refused}
use Rattle.format.specs.Laws.{never}
use Rattle.records.specs.Defaults.{default_data_space, default_link_info, default_group_info, default_attribute_info, default_data_type, default_data_layout}
use Rattle.records.specs.Refusals.{refusal_number}
use Rattle.records.specs.declared.Refusal.{Refusal}
use Rattle.records.specs.declared.Refusal.TheVariants as refusals
use Rattle.row.specs.Rows.{row_words}
use Rattle.super_block.specs.declared.SuperBlock.{SuperBlock}
use Rattle.super_block.specs.SuperBlocks.{super_block_of}
use Rattle.data_object_check.specs.declared.HeaderFigures.{HeaderFigures}
use Rattle.data_object.specs.declared.DataObject.{DataObject}
use Rattle.data_object_root.specs.Root.{refused_words, CheckedBy, CheckedRoot}
use Rattle.data_object_theorems.specs.Joint.{Fails, Joint}
use Rattle.data_object_theorems.proofs.Joint.{joint}
use Rattle.data_object_theorems.specs.Checks24.{check_root_not_24}
use Rattle.data_object_theorems.specs.JointRoot.{JointBy, JointRoot}

-- the object of a file that is refused
abbrev rejected : Refusal → DataObject
rejected x = record {
  answer = Err x;
  rows = 0;
  dt = default_data_type;
  ds = default_data_space;
  li = default_link_info;
  ai = default_attribute_info;
  gi = default_group_info;
  layout = default_data_layout;
}

module _ (file : List ℕ) where
  by_hand : (b : SuperBlock) (a : Result HeaderFigures Refusal) → CheckedBy file a (found b 0) → Joint file b.size_of_offsets b.size_of_lengths b.end_of_file_address b.root_group_object_header_address a
  by_hand b a c = joint file b.size_of_offsets b.size_of_lengths b.end_of_file_address b.root_group_object_header_address a c

  by_block : (o : Out SuperBlock) (a : Result HeaderFigures Refusal) → (a ≡ Err refusals.Table → ⊥) → CheckedBy file a o → JointBy file o a
  by_block (found b q) (Ok f) other c = λ n t w h. record { object = h.object; words = h.words; holds = by_hand b (Ok f) c n h.object t h.decoded }
  by_block (found b q) (Err x) other c =
      let j = by_hand b (Err x) c in
      record { taken = j.taken; few = j.few; filled = λ n t w h. record { object = h.object; words = h.words; holds = j.filled n h.object t h.decoded } }
  by_block (refused r) (Ok f) other c = never (sym c)
  by_block (refused r) (Err x) other c =
      let number : r ≡ refusal_number x = cc in
      let fails : (n : ℕ) → Fails x 0 (n / row_words) (rejected x) = λ n. record { same = λ h. refl; full = λ l. absurd (omega arith); only = λ e. let d : x ≡ refusals.Table = cc in absurd (other (ap Err d)) } in
      record { taken = 0; few = omega arith; filled = λ n t w h. record { object = rejected x; words = h.1 ∙ ap refused_words number; holds = fails n } }

  pub joint_root : (a : Result HeaderFigures Refusal) → CheckedRoot file a → JointRoot file a
  joint_root a c = by_block (super_block_of file) a (λ e. check_root_not_24 file (rw e at c)) c
