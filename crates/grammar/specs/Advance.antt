-- The definition as the code meets it: by the levels that remain, and without a count of turns, which never run out. Assumes nothing.
use Prim.Native.Nat.{ℕ, zero, suc, ◌+◌, ◌-◌, ◌≤◌, ◌<◌}
use Rattle.std.specs.Prelude.{◌≡◌, Bool, true, false, List, [], length, leb, ltb}
use Rattle.std.proofs.Math.Path.{refl, ap}
use Rattle.std.proofs.Common.{sym, ◌∙◌, arith}
use borrow.Author.Tests.{leb-true, leb-false, ltb-true}
use Rattle.format.specs.Format.{found, refused, read}
use Rattle.grammar.specs.Message.{Held, message, continuation}
use Rattle.grammar.specs.Grammar.{Source, Item, header_end, One, Entry, is_message, is_continuation}
use Rattle.grammar.specs.Walk.{Went, reached, stopped, Count, counted, Limits, start, entry_by, run_by, block_by, entry_at, run_at, walk}
use Rattle.grammar.specs.WalkLaws.{passed, then_reached, then_stopped, found_then, refused_then}
use Rattle.grammar.specs.Steps.{before, run_ends, run_goes, run_stops}
use Rattle.grammar.specs.Sound.{entry_sound}
use Rattle.grammar.specs.Complete.{entry_some}
use Rattle.format.specs.Covers as covers

-- an entry at p with the items xs up to q: some, not too many, and q is in the file where p is
pub record Advanced (src : Source) (l : Limits) (s : Count) (xs : List Item) (p q : ℕ) : Type 0 where
  pub more : 1 ≤ length xs
  pub few : s.entries + length xs ≤ l.entries
  pub inside : p ≤ length src.file → q ≤ length src.file

module _ (src : Source) (l : Limits) where
  -- the block one level down, where so many levels are left
  unfoldable pub deeper : ℕ → Count → ℕ → ℕ → Went (List Item)
  deeper zero s o n = stopped 21 s.entries
  deeper (suc levels) s o n = block_by src l (entry_at src l levels) s o n

  pub entry_levels : (levels p : ℕ) (s : Count) → entry_at src l levels p s ≡ entry_by src l (deeper levels) p s
  unfolding entry_at deeper
  entry_levels zero p s = refl
  entry_levels (suc levels) p s = refl

  entry_few : (levels p q : ℕ) (s : Count) (xs : List Item) → entry_at src l levels p s ≡ reached xs q → s.entries < l.entries
  unfolding entry_by
  entry_few levels p q s xs f = ltb-true s.entries l.entries (passed (ltb s.entries l.entries) _ _ _ (sym (entry_levels levels p s) ∙ f)).0

  -- an entry stands as one entry by itself
  stood : {level p q : ℕ} {xs : List Item} → Entry src level p q xs → (x : Held) × One src p q x
  stood (is_message {m = r} h) = (message r, h)
  stood (is_continuation {offset = o} {length = n} h d b) = (continuation o n, h)

  pub advanced : (levels p q : ℕ) (s : Count) (xs : List Item) → levels ≤ 25 → entry_at src l levels p s ≡ reached xs q → Advanced src l s xs p q
  advanced levels p q s xs h f =
      let few = entry_few levels p q s xs f in
      let v = entry_sound src l levels (25 - levels) (omega arith) p q s xs (omega arith) f in
      let x = stood v.0 in
      record { more = entry_some src l v.0; few = v.1.few; inside = λ i. covers.inside src.file src.entry p q x.0 x.1 i }

  -- a run's turns never run out: so many as the entries leave, and one, are as good as more
  enough : (levels : ℕ) → levels ≤ 25 → (t u e p : ℕ) (s : Count) → l.entries < t + s.entries → l.entries < u + s.entries → s.entries ≤ l.entries
      → run_by src l (entry_at src l levels) t e p s ≡ run_by src l (entry_at src l levels) u e p s
  enough levels h zero u e p s a b n = absurd (omega arith)
  enough levels h (suc t) zero e p s a b n = absurd (omega arith)
  enough levels h (suc t) (suc u) e p s a b n = go (leb (p + src.prefix) e) refl (entry_at src l levels p s) refl (λ m s₁ c d i. enough levels h t u e m s₁ c d i)
    where
      go : (b : Bool) → leb (p + src.prefix) e ≡ b → (o : Went (List Item)) → entry_at src l levels p s ≡ o
          → ((m : ℕ) (s₁ : Count) → l.entries < t + s₁.entries → l.entries < u + s₁.entries → s₁.entries ≤ l.entries → run_by src l (entry_at src l levels) t e m s₁ ≡ run_by src l (entry_at src l levels) u e m s₁)
          → run_by src l (entry_at src l levels) (suc t) e p s ≡ run_by src l (entry_at src l levels) (suc u) e p s
      go true k (reached xs m) f i =
          let v = advanced levels p m s xs h f in
          run_goes src l (entry_at src l levels) t e p s m xs (leb-true _ _ k) f
          ∙ ap (before xs) (i m (counted s xs) (omega (arith, v.more)) (omega (arith, v.more)) v.few)
          ∙ sym (run_goes src l (entry_at src l levels) u e p s m xs (leb-true _ _ k) f)
      go true k (stopped r c) f i = run_stops src l (entry_at src l levels) t e p s r c (leb-true _ _ k) f ∙ sym (run_stops src l (entry_at src l levels) u e p s r c (leb-true _ _ k) f)
      go false k o f i = run_ends src l (entry_at src l levels) t e p s (leb-false _ _ k) ∙ sym (run_ends src l (entry_at src l levels) u e p s (leb-false _ _ k))

  module _ (levels e p : ℕ) (s : Count) where
    -- a turn: the run from here is the entry's items and the run from after it
    pub run_at_goes : (m : ℕ) (xs : List Item) → levels ≤ 25 → p + src.prefix ≤ e → entry_at src l levels p s ≡ reached xs m → run_at src l levels e p s ≡ before xs (run_at src l levels e m (counted s xs))
    unfolding run_at
    run_at_goes m xs h i f =
        let v = advanced levels p m s xs h f in
        run_goes src l (entry_at src l levels) l.entries e p s m xs i f
        ∙ ap (before xs) (enough levels h l.entries (suc l.entries) e m (counted s xs) (omega (arith, v.more)) (omega (arith, v.more)) v.few)

    pub run_at_stops : (r n : ℕ) → p + src.prefix ≤ e → entry_at src l levels p s ≡ stopped r n → run_at src l levels e p s ≡ stopped r n
    unfolding run_at
    run_at_stops r n i f = run_stops src l (entry_at src l levels) l.entries e p s r n i f

    pub run_at_ends : e < p + src.prefix → run_at src l levels e p s ≡ reached [] p
    unfolding run_at
    run_at_ends i = run_ends src l (entry_at src l levels) l.entries e p s i

  -- the header's run, where it is known
  module _ (o e p : ℕ) where
    pub walk_stops : (r n : ℕ) → run_at src l 25 e p start ≡ stopped r n → walk src l o e p ≡ stopped r n
    unfolding walk
    walk_stops r n f = then_stopped _ f

    module _ (q : ℕ) (xs : List Item) (f : run_at src l 25 e p start ≡ reached xs q) where
      pub walk_unclosed : (r : ℕ) → read src.file (header_end src.sum o e q) q ≡ refused r → walk src l o e p ≡ stopped r (length xs)
      unfolding walk
      walk_unclosed r h = then_reached _ f ∙ refused_then _ _ h

      pub walk_closed : (m : ℕ) → read src.file (header_end src.sum o e q) q ≡ found tt m → walk src l o e p ≡ reached xs m
      unfolding walk
      walk_closed m h = then_reached _ f ∙ found_then _ _ h
