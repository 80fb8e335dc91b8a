-- After each turn the array is right for the rows passed so far, and at the end those are all of them.
use Rattle.data_object_winners.specs.Facts.{last_none, last_more}
use borrow.Author.Tests.{lt-ltb, le-ltb}
use Rattle.std.specs.Prelude.{set}
use mathlib.Core.List.{List}
use mathlib.Core.Path.{refl, sym, ap₂, ◌∙◌}
use Prim.Native.Nat.{ℕ, ◌+◌}
use Rattle.data_object_winners.proofs.last_rows.Goals.{then-kind-lt22, else-kind-lt22}
use Rattle.data_object_winners.proofs.last_rows.Goals as goal

pub loop-row-init : goal.loop-row-init
loop-row-init c = sym (last_none _ _)

pub loop-row-preserved : goal.loop-row-preserved
loop-row-preserved c =
    let e = c.kind_at-kind.ensures in
    let l = c.loop-row in
    elim c.if-kind-lt22.branch [
      | then-kind-lt22 w ↦ w.last-is ∙ ap₂ (λ (x : List ℕ) (k : ℕ). set x k (l.row + 1)) l.invariant e ∙ sym (rw (last_more, lt-ltb _ _ (rw e at w.if-kind-lt22.true)) refl)
      | else-kind-lt22 w ↦ w.last-is ∙ l.invariant ∙ sym (rw (last_more, le-ltb _ _ (rw e at w.if-kind-lt22.false)) refl)
    ]
