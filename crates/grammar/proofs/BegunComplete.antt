-- Where the grammar's reading stops, the definition stops, with as many entries begun: by induction over what stands. So no header has two such counts.
-- Assumes nothing.
use Prim.Native.Nat.{ℕ, zero, suc, ◌+◌, ◌-◌, ◌≤◌, ◌<◌}
use Rattle.std.specs.Prelude.{◌≡◌, false}
use Rattle.std.proofs.Math.Path.{refl}
use Rattle.std.proofs.Common.{sym, ap, ◌∙◌, subst, arith, length-append, le-ltb, lt-ltb}
use mathlib.Core.List.{List, [], ◌∷◌, ◌++◌}
use Rattle.std.proofs.Math.ListN.{length}
use Rattle.format.specs.Format.{Format, Out, found, refused, Stands, read}
use Rattle.format.specs.Laws as formats
use Rattle.grammar.specs.Message.{Message, Held, message, continuation}
use Rattle.grammar.specs.Grammar.{Source, Item, item, ochk, block_end, header_end, One, Run, Entry}
use Rattle.grammar.specs.Table.{messages}
use Rattle.grammar.specs.Walk.{Went, stopped, Count, counted, opened, Limits, start, hold, entry_by, run_by, block_by, entry_at, run_at, walk, Fit}
use Rattle.grammar.specs.WalkLaws.{choose_yes, choose_no, then_reached, then_stopped, found_then, refused_then, fit_first, fit_second}
use Rattle.grammar.specs.Steps.{run_goes, run_stops, entry_own}
use Rattle.grammar.specs.Complete.{entry_some, run_complete, entry_complete}
use Rattle.grammar.specs.Advance.{deeper, entry_levels}
use Rattle.grammar.specs.Begun.{Cause, own, no_row, no_level, no_entry, elsewhere, more, Numbered, Nowhere, RunStops, after, at, too_many, fails, rowless, too_deep, opens, unsigned, within, unclosed, ReadingStops, in_run, not_closed, Stopped}
use Rattle.grammar.proofs.BegunSound.{Told, told_after, told_opened}

-- where nothing of a format stands, it is refused
pub nowhere_read : {A : Type 0} (file : List ℕ) (F : Format A) (p : ℕ) → Nowhere file F p → (r : ℕ) × (read file F p ≡ refused r)
nowhere_read {A} file F p h = go (read file F p) refl
  where
    go : (o : Out A) → read file F p ≡ o → (r : ℕ) × (read file F p ≡ refused r)
    go (found a q) e = absurd (h q a (formats.sound file F p q a e))
    go (refused r) e = (r, e)

-- as many
pub as_many : {o : Went (List Item)} {r n m : ℕ} → n ≡ m → o ≡ stopped r n → o ≡ stopped r m
as_many {r = r} e f = f ∙ ap (λ (k : ℕ). stopped r k) e

-- what stops does so with one count
pub same_stopped : {o : Went (List Item)} {r r' n n' : ℕ} → o ≡ stopped r n → o ≡ stopped r' n' → n ≡ n'
same_stopped {n = n} {n' = n'} e f = cc

module _ (src : Source) (l : Limits) where
  -- o stops after s, with the cause's number, when xs and those of the cause are begun
  abbrev Halts : Went (List Item) → Count → List Item → Cause → Type 0
  Halts o s xs c = (r : ℕ) × Numbered l c r × (o ≡ stopped r (s.entries + length xs + more c))

  abbrev RunStopped : ℕ → List Item → ℕ → ℕ → List Item → Cause → Type 0
  RunStopped level before p e xs c = (levels turns : ℕ) (s : Count) → levels + level ≡ 25 → Told s before → l.entries < turns + s.entries → Fit l s xs → s.entries + length xs + more c ≤ l.entries
      → Halts (run_by src l (entry_at src l levels) turns e p s) s xs c

  abbrev EntryStopped : ℕ → List Item → ℕ → List Item → Cause → Type 0
  EntryStopped level before p xs c = (levels : ℕ) (s : Count) → levels + level ≡ 25 → Told s before → Fit l s xs → s.entries + length xs + more c ≤ l.entries → Halts (entry_at src l levels p s) s xs c

  abbrev BlockStopped : ℕ → List Item → ℕ → ℕ → List Item → Cause → Type 0
  BlockStopped level before o w xs c = (levels : ℕ) (s : Count) → levels + level ≡ 25 → Told s before → Fit l s xs → s.entries + length xs + more c ≤ l.entries
      → Halts (block_by src l (entry_at src l levels) s o w) s xs c

  after_stopped : (level p e m : ℕ) (before xs ys : List Item) (c : Cause) → p + src.prefix ≤ e → Entry src level p m xs → RunStopped level (before ++ xs) m e ys c → RunStopped level before p e (xs ++ ys) c
  after_stopped level p e m before xs ys c g a i levels zero s k t d f n = absurd (omega (arith, n))
  after_stopped level p e m before xs ys c g a i levels (suc turns) s k t d f n =
      let len = length-append xs ys in
      let v = i levels turns (counted s xs) k (told_after t xs) (omega (arith, entry_some src l a)) (fit_second l s xs ys f) (omega (arith, n, len)) in (
        v.0,
        v.1,
        as_many (omega (arith, len))
            (run_goes src l (entry_at src l levels) turns e p s m xs g (entry_complete src l a levels s k (fit_first l s xs ys f)) ∙ then_stopped _ v.2),
      )

  at_stopped : (level p e : ℕ) (before xs : List Item) (c : Cause) → p + src.prefix ≤ e → EntryStopped level before p xs c → RunStopped level before p e xs c
  at_stopped level p e before xs c g i levels zero s k t d f n = absurd (omega (arith, n))
  at_stopped level p e before xs c g i levels (suc turns) s k t d f n =
      let v = i levels s k t f n in
      (v.0, v.1, run_stops src l (entry_at src l levels) turns e p s v.0 _ g v.2)

  many_stopped : (level p : ℕ) (before : List Item) → l.entries ≤ length before → EntryStopped level before p [] no_entry
  unfolding entry_by
  many_stopped level p before h levels s k t f n = (l.beyond, refl, as_many (omega arith) (entry_levels src l levels p s ∙ choose_no _ _ (le-ltb s.entries l.entries (omega (arith, h, t.entries)))))

  fails_stopped : (level p : ℕ) (before : List Item) → Nowhere src.file src.entry p → EntryStopped level before p [] own
  unfolding entry_by
  fails_stopped level p before h levels s k t f n =
      let v = nowhere_read src.file src.entry p h in
      (v.0, tt, as_many (omega arith) (entry_levels src l levels p s ∙ choose_yes _ _ (lt-ltb s.entries l.entries (omega (arith, n))) ∙ refused_then _ _ v.1))

  -- an entry that stands, by what it holds
  holds : (levels p q : ℕ) (s : Count) (x : Held) → s.entries < l.entries → One src p q x → entry_at src l levels p s ≡ hold src l (deeper src l levels) s p x q
  holds levels p q s x b h = entry_levels src l levels p s ∙ entry_own src l (deeper src l levels) p s b x q (formats.complete src.file src.entry p q x h)

  rowless_stopped : (level p q : ℕ) (m : Message) (before : List Item) → One src p q (message m) → l.fits (messages before) ≡ false → EntryStopped level before p [] no_row
  unfolding hold
  rowless_stopped level p q m before h e levels s k t f n =
      (24, refl, as_many (omega arith) (holds levels p q s (message m) (omega (arith, n)) h ∙ choose_no _ _ (subst (λ (y : ℕ). l.fits y ≡ false) (sym t.rows) e)))

  deep_stopped : (level p q o w : ℕ) (before : List Item) → One src p q (continuation o w) → 25 < suc level → EntryStopped level before p [] no_level
  unfolding hold deeper
  deep_stopped level p q o w before h d zero s k t f n = (21, refl, as_many (omega arith) (holds 0 p q s (continuation o w) (omega (arith, n)) h))
  deep_stopped level p q o w before h d (suc levels) s k t f n = absurd (omega arith)

  opens_stopped : (level p q o w : ℕ) (before xs : List Item) (c : Cause) → One src p q (continuation o w) → suc level ≤ 25 → BlockStopped (suc level) (before ++ item p q (continuation o w) ∷ []) o w xs c
      → EntryStopped level before p (item p q (continuation o w) ∷ xs) c
  unfolding hold deeper
  opens_stopped level p q o w before xs c h d i zero s k t f n = absurd (omega arith)
  opens_stopped level p q o w before xs c h d i (suc levels) s k t f n =
      let v = i levels (opened s) (omega arith) (told_opened t p q o w) (record { few = omega (arith, f.few); room = f.room }) (omega (arith, n)) in
      (v.0, v.1, as_many (omega arith) (holds (suc levels) p q s (continuation o w) (omega (arith, f.few)) h ∙ then_stopped _ v.2))

  unsigned_stopped : (level o w : ℕ) (before : List Item) → Nowhere src.file ochk o → BlockStopped level before o w [] elsewhere
  unfolding block_by
  unsigned_stopped level o w before h levels s k t f n =
      let v = nowhere_read src.file ochk o h in
      (v.0, tt, as_many (omega arith) (refused_then _ _ v.1))

  within_stopped : (level o w m : ℕ) (before xs : List Item) (c : Cause) → Stands src.file ochk o m tt → RunStopped level before m (o + w - 4) xs c → BlockStopped level before o w xs c
  unfolding block_by
  within_stopped level o w m before xs c h i levels s k t f n =
      let v = i levels (suc l.entries) s k t (omega arith) f n in
      (v.0, v.1, found_then _ _ (formats.complete src.file ochk o m tt h) ∙ then_stopped _ v.2)

  unclosed_stopped : (level o w m q : ℕ) (before xs : List Item) → Stands src.file ochk o m tt → Run src level m (o + w - 4) q xs → Nowhere src.file (block_end src.sum o (o + w) q) q
      → BlockStopped level before o w xs elsewhere
  unfolding block_by
  unclosed_stopped level o w m q before xs h r z levels s k t f n =
      let v = nowhere_read src.file (block_end src.sum o (o + w) q) q z in (
        v.0,
        tt,
        as_many (omega arith) (found_then _ _ (formats.complete src.file ochk o m tt h) ∙ then_reached _ (run_complete src l r levels (suc l.entries) s k (omega arith) f) ∙ refused_then _ _ v.1),
      )

  run_stopped : {level p e : ℕ} {before xs : List Item} {c : Cause} → RunStops src l level before p e xs c → RunStopped level before p e xs c
  run_stopped r = elim r as (λ level before p e xs c y. RunStopped level before p e xs c) (λ level before p xs c y. EntryStopped level before p xs c) (λ level before o w xs c y. BlockStopped level before o w xs c) [
    | after {level = level} {p = p} {e = e} {m = m} {before = before} {xs = xs} {ys = ys} {c = c} g a (r → i) ↦ after_stopped level p e m before xs ys c g a i
    | at {level = level} {p = p} {e = e} {before = before} {xs = xs} {c = c} g (x → i) ↦ at_stopped level p e before xs c g i
    | too_many {level = level} {p = p} {before = before} h ↦ many_stopped level p before h
    | fails {level = level} {p = p} {before = before} h ↦ fails_stopped level p before h
    | rowless {level = level} {p = p} {before = before} q m h e ↦ rowless_stopped level p q m before h e
    | too_deep {level = level} {p = p} {before = before} q o w h d ↦ deep_stopped level p q o w before h d
    | opens {level = level} {p = p} {q = q} {offset = o} {size = w} {before = before} {xs = xs} {c = c} h d (b → i) ↦ opens_stopped level p q o w before xs c h d i
    | unsigned {level = level} {offset = o} {size = w} {before = before} h ↦ unsigned_stopped level o w before h
    | within {level = level} {offset = o} {size = w} {start = m} {before = before} {xs = xs} {c = c} h (r → i) ↦ within_stopped level o w m before xs c h i
    | unclosed {level = level} {offset = o} {size = w} {start = m} {q = q} {before = before} {xs = xs} h r z ↦ unclosed_stopped level o w m q before xs h r z
  ]

  -- where the reading stops, the walk stops, with as many entries begun, and the number that its cause has
  pub stopped_walk : (o e p r n : ℕ) (h : Stopped l start (ReadingStops src l o p e) r n) → (r' : ℕ) × Numbered l h.cause r' × (walk src l o e p ≡ stopped r' n)
  unfolding walk run_at
  stopped_walk o e p r n h = let v = go h.stops h.fit (omega (arith, h.begun, h.few)) in (v.0, v.1, as_many (sym h.begun) v.2)
    where
      go : {xs : List Item} {c : Cause} → ReadingStops src l o p e xs c → Fit l start xs → 0 + length xs + more c ≤ l.entries → Halts (walk src l o e p) start xs c
      go (in_run x) f n = let v = run_stopped x 25 (suc l.entries) start refl (record { entries = refl; rows = refl }) (omega arith) f n in (v.0, v.1, then_stopped _ v.2)
      go (not_closed {q = q} {xs = xs} x z) f n =
          let v = nowhere_read src.file (header_end src.sum o e q) q z in
          (v.0, tt, as_many (omega arith) (then_reached _ (run_complete src l x 25 (suc l.entries) start refl (omega arith) f) ∙ refused_then _ _ v.1))

  -- so the readings that stop have one count
  pub begun_unique : (o e p r r' n n' : ℕ) → Stopped l start (ReadingStops src l o p e) r n → Stopped l start (ReadingStops src l o p e) r' n' → n ≡ n'
  begun_unique o e p r r' n n' h h' = same_stopped (stopped_walk o e p r n h).2 (stopped_walk o e p r' n' h').2
