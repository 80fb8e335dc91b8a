-- The definition accepts exactly what has a reading within the limits, with that reading's end and items: it is sound and complete.
-- Assumes nothing.
use Rattle.std.specs.Prelude.{ℕ, suc, ◌≡◌, ◌↔◌, length}
use Rattle.std.proofs.Math.Path.{refl, subst₂}
use Rattle.std.proofs.Common.{◌∙◌, arith}
use mathlib.Core.List.{List}
use Rattle.format.specs.Format.{read}
use Rattle.format.specs.Laws as formats
use Rattle.grammar.specs.Grammar.{Source, Item, header_end, Reading}
use Rattle.grammar.specs.Walk.{reached, begun, Limits, start, run_at, walk, Fit}
use Rattle.grammar.specs.WalkLaws.{first, was_found, then_reached, found_then}
use Rattle.grammar.specs.Sound.{run_at_sound}
use Rattle.grammar.specs.Complete.{run_complete}

module _ (src : Source) (l : Limits) where
  pub sound : (o p e next : ℕ) (xs : List Item) → walk src l o e p ≡ reached xs next → Reading src o p e next xs × Fit l start xs
  unfolding walk
  sound o p e next xs f =
      let v = first (run_at src l 25 e p start) _ f in
      let a = first (begun (length v.value) (read src.file (header_end src.sum o e v.next) v.next)) _ v.then in
      let r = run_at_sound src l 25 0 refl e p v.next start v.value (omega arith) v.first in
      let closed = formats.sound src.file (header_end src.sum o e v.next) v.next a.next tt (was_found _ _ a.first) in
      let d : a.next ≡ next = cc a.then in
      let c : v.value ≡ xs = cc a.then in
      subst₂ (λ (m : ℕ) (ys : List Item). Reading src o p e m ys × Fit l start ys) d c (record { last = v.next; run = r.0; close = closed }, r.1)

  pub complete : (o p e next : ℕ) (xs : List Item) → Reading src o p e next xs × Fit l start xs → walk src l o e p ≡ reached xs next
  unfolding walk run_at
  complete o p e next xs r =
      let d = r.0 in
      then_reached _ (run_complete src l d.run 25 (suc l.entries) start refl (omega arith) r.1)
      ∙ found_then _ _ (formats.complete src.file (header_end src.sum o e d.last) d.last next tt d.close)

  pub accepts : (o p e next : ℕ) (xs : List Item) → (walk src l o e p ≡ reached xs next) ↔ (Reading src o p e next xs × Fit l start xs)
  accepts o p e next xs = (sound o p e next xs, complete o p e next xs)
