-- The largest file, with its number, for every file: above 2,147,483,648 bytes a check, the call and a superblock are 2, and up to there none is; a
-- width that is not 2 to 8 is 1 whatever the length. Assumes nothing.
use Rattle.std.specs.Prelude.{ℕ, ◌/◌, ◌≤◌, ◌<◌, ◌≡◌, Bool, List, length, leb, ltb, Result}
use Rattle.std.proofs.Math.Path.{refl}
use Rattle.std.proofs.Common.{ap, ◌∙◌, arith}
use Rattle.std.proofs.Math.Bool.{true, false}
use borrow.Author.Tests.{le-leb, lt-leb, leb-true, ltb-true, ltb-false}
use Rattle.format.specs.Bools.{and_left, and_right}
use Rattle.format.specs.Refusals.{RefusedWith}
use Rattle.format.specs.RefusalLaws.{refused_otherwise}
use Rattle.super_block.specs.Refusals.{of_block}
use Rattle.super_block.specs.RefusalLaws.{summed_as}
use Rattle.format.specs.Format.{refused}
use Rattle.records.specs.declared.Refusal.{Refusal}
use Rattle.parser.specs.States.{file_limit, width_allowed, state_for}
use Rattle.super_block.specs.SuperBlocks.{super_block_of}
use Rattle.row.specs.Rows.{row_words}
use Rattle.grammar.specs.Grammar.{Item}
use Rattle.grammar.specs.Walk.{Went, reached, stopped, Limits, lent, without_table}
use Rattle.data_object_header.specs.Headers.{header, decode}
use Rattle.data_object_header.specs.Passing.{decode_beside}
use Rattle.data_object_check.specs.declared.HeaderFigures.{HeaderFigures}
use Rattle.data_object_check.specs.Checked.{check_out, figures, Checked}
use Rattle.data_object.specs.declared.DataObject.{DataObject}
use Rattle.data_object.specs.Decoded.{answer_out, counts, Decoded}
use Rattle.data_object_theorems.specs.Refusals.{of_header, with_table, Width, BothAllowed}
use Rattle.data_object_theorems.specs.HeaderRefusals.{StopsWith, header_as}

width_test : (w : ℕ) → Width w → width_allowed w ≡ true
width_test w h = rw (le-leb 2 w h.0, le-leb w 8 h.1)

test_width : (w : ℕ) → width_allowed w ≡ true → Width w
test_width w e = (leb-true 2 w (and_left (leb 2 w) (leb w 8) e), leb-true w 8 (and_right (leb 2 w) (leb w 8) e))

module _ (file : List ℕ) (offsets lengths end at : ℕ) where
  -- the definition
  bad : (l : Limits) → (BothAllowed offsets lengths → ⊥) → decode file offsets lengths end at l ≡ stopped 1 0
  unfolding decode
  bad l f = go (width_allowed offsets) (width_allowed lengths) refl refl
    where
      go : (t u : Bool) → width_allowed offsets ≡ t → width_allowed lengths ≡ u → decode file offsets lengths end at l ≡ stopped 1 0
      go true true d e = absurd (f (test_width offsets d, test_width lengths e))
      go true false d e = rw (d, e)
      go false u d e = rw d

  above : (l : Limits) → BothAllowed offsets lengths → 2147483648 < length file → decode file offsets lengths end at l ≡ stopped 2 0
  unfolding decode
  above l w h = rw (width_test offsets w.0, width_test lengths w.1, lt-leb (length file) file_limit (omega (arith, h)))

  within : (l : Limits) → BothAllowed offsets lengths → length file ≤ 2147483648 → decode file offsets lengths end at l ≡ header file (state_for offsets lengths end) l at
  unfolding decode
  within l w h = rw (width_test offsets w.0, width_test lengths w.1, le-leb (length file) file_limit (omega (arith, h)))

  checks_as : BothAllowed offsets lengths → length file ≤ 2147483648 → StopsWith (decode file offsets lengths end at without_table)
  checks_as w h = rw (within without_table w h) (header_as file (state_for offsets lengths end) at)

  -- the check
  module _ (a : Result HeaderFigures Refusal) (c : Checked file offsets lengths end at a) where
    pub check_of_a_bad_width : (BothAllowed offsets lengths → ⊥) → check_out a ≡ refused 1
    check_of_a_bad_width f = c.answer ∙ ap figures (bad without_table f)

    pub check_above_the_limit : BothAllowed offsets lengths → 2147483648 < length file → check_out a ≡ refused 2
    check_above_the_limit w h = c.answer ∙ ap figures (above without_table w h)

    pub check_refusals : BothAllowed offsets lengths → length file ≤ 2147483648 → RefusedWith of_header (check_out a)
    check_refusals w h = rw c.answer (go (decode file offsets lengths end at without_table) (checks_as w h))
      where
        go : (o : Went (List Item)) → StopsWith o → RefusedWith of_header (figures o)
        go (reached xs q) s = tt
        go (stopped r n) s = s

    pub check_within_the_limit : BothAllowed offsets lengths → length file ≤ 2147483648 → check_out a ≡ refused 2 → ⊥
    check_within_the_limit w h = refused_otherwise of_header 2 (check_out a) refl (check_refusals w h)

  -- the call
  module _ (n : ℕ) (o : DataObject) (t : List ℕ) (d : Decoded file offsets lengths end at n o t) where
    pub call_of_a_bad_width : (BothAllowed offsets lengths → ⊥) → answer_out o.answer ≡ refused 1
    call_of_a_bad_width f = d.answer ∙ ap counts (bad (lent (n / row_words)) f)

    pub call_above_the_limit : BothAllowed offsets lengths → 2147483648 < length file → answer_out o.answer ≡ refused 2
    call_above_the_limit w h = d.answer ∙ ap counts (above (lent (n / row_words)) w h)

    pub call_refusals : BothAllowed offsets lengths → length file ≤ 2147483648 → RefusedWith with_table (answer_out o.answer)
    call_refusals w h = rw d.answer (go (ltb (n / row_words) (decode_beside file offsets lengths end at).taken) refl)
      where
        with_table_lem : (r : ℕ) → of_header r ≡ true → with_table r ≡ true
        with_table_lem r e = rw e

        same : (w : Went (List Item)) → StopsWith w → RefusedWith with_table (counts w)
        same (reached xs q) s = tt
        same (stopped r m) s = with_table_lem r s

        go : (u : Bool) → ltb (n / row_words) (decode_beside file offsets lengths end at).taken ≡ u → RefusedWith with_table (counts (decode file offsets lengths end at (lent (n / row_words))))
        go true e =
            let b = decode_beside file offsets lengths end at in
            rw (b.full (n / row_words) (omega arith) (ltb-true (n / row_words) b.taken e)).1 refl
        go false e =
            let b = decode_beside file offsets lengths end at in
            rw (b.enough (n / row_words) (ltb-false (n / row_words) b.taken e)) (same (decode file offsets lengths end at without_table) (checks_as w h))

    pub call_within_the_limit : BothAllowed offsets lengths → length file ≤ 2147483648 → answer_out o.answer ≡ refused 2 → ⊥
    call_within_the_limit w h = refused_otherwise with_table 2 (answer_out o.answer) refl (call_refusals w h)

-- the superblock
module _ (file : List ℕ) where
  pub superblock_above_the_limit : 2147483648 < length file → super_block_of file ≡ refused 2
  unfolding super_block_of
  superblock_above_the_limit h = rw (lt-leb (length file) file_limit (omega (arith, h)))

  pub superblock_refusals : length file ≤ 2147483648 → RefusedWith of_block (super_block_of file)
  unfolding super_block_of
  superblock_refusals h = rw (le-leb (length file) file_limit (omega (arith, h))) (summed_as file)

  pub superblock_within_the_limit : length file ≤ 2147483648 → super_block_of file ≡ refused 2 → ⊥
  superblock_within_the_limit h = refused_otherwise of_block 2 (super_block_of file) refl (superblock_refusals h)
