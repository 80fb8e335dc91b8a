-- Where the definition stops, the grammar's reading stops, with as many entries begun: each of its tests is one of the grammar's. Assumes nothing.
use Prim.Native.Nat.{ℕ, zero, suc, ◌+◌, ◌-◌, ◌≤◌, ◌<◌}
use Rattle.std.specs.Prelude.{◌≡◌, refl, false, length, leb, ltb}
use Rattle.std.proofs.Common.{sym, subst, arith, length-append}
use Rattle.std.proofs.Math.Logic.{⊎_elim}
use mathlib.Core.List.{List, [], ◌∷◌, ◌++◌}
use borrow.Author.Tests.{leb-true, ltb-true, ltb-false}
use Rattle.format.specs.Format.{Out, found, refused, Stands, read}
use Rattle.format.specs.Laws as formats
use Rattle.grammar.specs.Message.{Held, message, continuation}
use Rattle.grammar.specs.Grammar.{Source, Item, item, ochk, block_end, header_end, One, Entry}
use Rattle.grammar.specs.Table.{messages}
use Rattle.grammar.specs.TableLaws.{messages-append}
use Rattle.grammar.specs.Walk.{Went, reached, stopped, and_then, begun, Count, counted, opened, Limits, start, hold, entry_by, run_by, block_by, entry_at, run_at, walk, Fit}
use Rattle.grammar.specs.WalkLaws.{chose, never, was_found, fit_none, fit-append}
use Rattle.grammar.specs.Sound.{EntrySound, entry_sound, run_sound}
use Rattle.grammar.specs.Complete.{entry_some}
use Rattle.grammar.specs.Begun.{Cause, own, no_row, no_level, no_entry, elsewhere, more, Numbered, RunStops, after, at, EntryStops, too_many, fails, rowless, too_deep, opens, BlockStops, unsigned, within, unclosed, ReadingStops, in_run, not_closed, Stopped}

-- what stopped, where something and then what follows it did: the first, or what follows after it
pub data Halted {A B : Type 0} (o : Went A) (k : A → ℕ → Went B) (r n : ℕ) : Type 0 where
  there : o ≡ stopped r n → Halted o k r n
  later : (a : A) (q : ℕ) → o ≡ reached a q → k a q ≡ stopped r n → Halted o k r n

pub halted : {A B : Type 0} {r n : ℕ} (o : Went A) (k : A → ℕ → Went B) → and_then o k ≡ stopped r n → Halted o k r n
halted (reached a q) k e = later a q refl e
halted (stopped r n) k e = there cc

pub was_refused : {A : Type 0} {r n : ℕ} (m : ℕ) (o : Out A) → begun m o ≡ stopped r n → (o ≡ refused r) × (m ≡ n)
was_refused m (found a q) e = never (sym e)
was_refused m (refused r) e = (cc, cc)

-- s counts the items that precede
pub record Told (s : Count) (before : List Item) : Type 0 where
  pub entries : s.entries ≡ length before
  pub rows : s.rows ≡ messages before

pub told_after : {s : Count} {before : List Item} → Told s before → (xs : List Item) → Told (counted s xs) (before ++ xs)
told_after {before = before} t xs = record { entries = omega (arith, t.entries, length-append before xs); rows = omega (arith, t.rows, messages-append before xs) }

pub told_opened : {s : Count} {before : List Item} → Told s before → (p q o n : ℕ) → Told (opened s) (before ++ item p q (continuation o n) ∷ [])
told_opened {before = before} t p q o n =
    let x = item p q (continuation o n) ∷ [] in
    record { entries = omega (arith, t.entries, length-append before x); rows = omega (arith, t.rows, messages-append before x) }

module _ (l : Limits) {P : List Item → Cause → Type 0} where
  -- nothing stands before the refusal
  pub stops_at_once : {s : Count} {r n : ℕ} (c : Cause) → P [] c → Numbered l c r → s.entries + more c ≡ n → n ≤ l.entries → Stopped l s P r n
  stops_at_once {s} c h k e few = record { items = []; cause = c; stops = h; number = k; begun = omega (arith, e); few = few; fit = fit_none l s (omega (arith, e, few)) }

  -- what stops, as a part of something else
  pub stops_as : {s : Count} {r n : ℕ} {Q : List Item → Cause → Type 0} → ((xs : List Item) (c : Cause) → P xs c → Q xs c) → Stopped l s P r n → Stopped l s Q r n
  stops_as f h = record { items = h.items; cause = h.cause; stops = f h.items h.cause h.stops; number = h.number; begun = h.begun; few = h.few; fit = h.fit }

  -- what stops after a whole run
  pub stops_after : {s : Count} {r n : ℕ} (xs : List Item) → P xs elsewhere → s.entries + length xs ≡ n → Fit l s xs → Stopped l s P r n
  stops_after xs h e f = record { items = xs; cause = elsewhere; stops = h; number = tt; begun = omega (arith, e); few = omega (arith, e, f.few); fit = f }

module _ (src : Source) (l : Limits) where
  abbrev EntryHalts : (ℕ → Count → Went (List Item)) → ℕ → Type 0
  EntryHalts entry level = (p r n : ℕ) (s : Count) (before : List Item) → Told s before → s.entries ≤ l.entries → entry p s ≡ stopped r n → Stopped l s (EntryStops src l level before p) r n

  abbrev RunHalts : (ℕ → ℕ → Count → Went (List Item)) → ℕ → Type 0
  RunHalts run level = (e p r n : ℕ) (s : Count) (before : List Item) → Told s before → s.entries ≤ l.entries → run e p s ≡ stopped r n → Stopped l s (RunStops src l level before p e) r n

  abbrev BlockHalts : (Count → ℕ → ℕ → Went (List Item)) → ℕ → Type 0
  BlockHalts block level = (o w r n : ℕ) (s : Count) (before : List Item) → Told s before → s.entries ≤ l.entries → block s o w ≡ stopped r n → Stopped l s (BlockStops src l level before o w) r n

  -- a continuation stands, and its block stops
  abbrev OpenHalts : (Count → ℕ → ℕ → Went (List Item)) → ℕ → Type 0
  OpenHalts block level = (p q o w r n : ℕ) (s : Count) (before : List Item) → Told s before → s.entries < l.entries → One src p q (continuation o w) → block (opened s) o w ≡ stopped r n
      → Stopped l s (EntryStops src l level before p) r n

  -- an entry stands, and the run after it stops
  run_after : (level : ℕ) (e p m r n : ℕ) (s : Count) (before xs : List Item) → p + src.prefix ≤ e → Entry src level p m xs → Fit l s xs
      → Stopped l (counted s xs) (RunStops src l level (before ++ xs) m e) r n → Stopped l s (RunStops src l level before p e) r n
  run_after level e p m r n s before xs g a f v = record {
    items = xs ++ v.items;
    cause = v.cause;
    stops = after g a v.stops;
    number = v.number;
    begun = omega (arith, v.begun, length-append xs v.items);
    few = v.few;
    fit = fit-append l s xs v.items f v.fit;
  }

  run_halts : (level : ℕ) (entry : ℕ → Count → Went (List Item)) → EntrySound src l entry level → EntryHalts entry level → (turns e p r n : ℕ) (s : Count) (before : List Item) → Told s before
      → s.entries ≤ l.entries → l.entries < turns + s.entries → run_by src l entry turns e p s ≡ stopped r n → Stopped l s (RunStops src l level before p e) r n
  unfolding run_by
  run_halts level entry i h zero e p r n s before t b d f = absurd (omega arith)
  run_halts level entry i h (suc turns) e p r n s before t b d f = ⊎_elim
      (λ w. turn (leb-true (p + src.prefix) e w.0) (λ m s₁ xs u c x k. run_halts level entry i h turns e m r n s₁ xs u c x k) (halted (entry p s) _ w.1))
      (λ w. never (sym w.1))
      (chose (leb (p + src.prefix) e) _ _ f)
    where
      rest : p + src.prefix ≤ e → (xs : List Item) (m : ℕ) → Entry src level p m xs → Fit l s xs → (run_by src l entry turns e m (counted s xs) ≡ stopped r n → Stopped l (counted s xs) (RunStops src l level (before ++ xs) m e) r n)
          → Halted (run_by src l entry turns e m (counted s xs)) (λ ys q. reached (xs ++ ys) q) r n → Stopped l s (RunStops src l level before p e) r n
      rest g xs m a z j (there v) = run_after level e p m r n s before xs g a z (j v)
      rest g xs m a z j (later ys q v k) = never (sym k)

      turn : p + src.prefix ≤ e
          → ((m : ℕ) (s₁ : Count) (xs : List Item) → Told s₁ xs → s₁.entries ≤ l.entries → l.entries < turns + s₁.entries → run_by src l entry turns e m s₁ ≡ stopped r n → Stopped l s₁ (RunStops src l level xs m e) r n)
          → Halted (entry p s) (λ xs m. and_then (run_by src l entry turns e m (counted s xs)) (λ ys q. reached (xs ++ ys) q)) r n → Stopped l s (RunStops src l level before p e) r n
      turn g j (there k) = stops_as l (λ xs c x. at g x) (h p r n s before t b k)
      turn g j (later xs m k z) =
          let u = i p m s xs b k in
          rest g xs m u.0 u.1 (j m (counted s xs) (before ++ xs) (told_after t xs) u.1.few (omega (arith, entry_some src l u.0))) (halted (run_by src l entry turns e m (counted s xs)) _ z)

  block_halts : (level : ℕ) (entry : ℕ → Count → Went (List Item)) → EntrySound src l entry level → EntryHalts entry level → BlockHalts (block_by src l entry) level
  unfolding block_by
  block_halts level entry i h o w r n s before t b f = signed (halted (begun s.entries (read src.file ochk o)) _ f)
    where
      closing : ℕ → List Item → ℕ → Went (List Item)
      closing m xs q = and_then (begun (counted s xs).entries (read src.file (block_end src.sum o (o + w) q) q)) (λ _ z. reached xs z)

      closed : (m : ℕ) → Stands src.file ochk o m tt → (xs : List Item) (q : ℕ) → run_by src l entry (suc l.entries) (o + w - 4) m s ≡ reached xs q
          → Halted (begun (counted s xs).entries (read src.file (block_end src.sum o (o + w) q) q)) (λ _ z. reached xs z) r n → Stopped l s (BlockStops src l level before o w) r n
      closed m g xs q k (there v) =
          let u = run_sound src l level entry i (suc l.entries) (o + w - 4) m q s xs b k in
          let z = was_refused _ (read src.file (block_end src.sum o (o + w) q) q) v in
          stops_after l xs (unclosed g u.0 (formats.none src.file (block_end src.sum o (o + w) q) q r z.0)) z.1 u.1
      closed m g xs q k (later _ z v j) = never (sym j)

      ran : (m : ℕ) → Stands src.file ochk o m tt → Halted (run_by src l entry (suc l.entries) (o + w - 4) m s) (closing m) r n → Stopped l s (BlockStops src l level before o w) r n
      ran m g (there v) = stops_as l (λ xs c x. within g x) (run_halts level entry i h (suc l.entries) (o + w - 4) m r n s before t b (omega arith) v)
      ran m g (later xs q v j) = closed m g xs q v (halted (begun (counted s xs).entries (read src.file (block_end src.sum o (o + w) q) q)) _ j)

      signed : Halted (begun s.entries (read src.file ochk o)) (λ _ m. and_then (run_by src l entry (suc l.entries) (o + w - 4) m s) (closing m)) r n → Stopped l s (BlockStops src l level before o w) r n
      signed (there v) =
          let z = was_refused _ (read src.file ochk o) v in
          stops_at_once l elsewhere (unsigned (formats.none src.file ochk o r z.0)) tt (omega (arith, z.1)) (omega (arith, z.1))
      signed (later _ m v j) = ran m (formats.sound src.file ochk o m tt (was_found _ _ v)) (halted (run_by src l entry (suc l.entries) (o + w - 4) m s) _ j)

  hold_halts : (level p q r n : ℕ) (block : Count → ℕ → ℕ → Went (List Item)) → OpenHalts block level → (s : Count) (before : List Item) (x : Held) → Told s before → s.entries < l.entries → One src p q x
      → hold src l block s p x q ≡ stopped r n → Stopped l s (EntryStops src l level before p) r n
  unfolding hold
  hold_halts level p q r n block i s before (message m) t b h f = ⊎_elim
      (λ w. never (sym w.1))
      (λ w.
      let k : 24 ≡ r = cc w.1 in
      let z : s.entries + 1 ≡ n = cc w.1 in
      stops_at_once l no_row (rowless q m h (subst (λ (y : ℕ). l.fits y ≡ false) t.rows w.0)) (sym k) z (omega (arith, z)))
      (chose (l.fits s.rows) _ _ f)
  hold_halts level p q r n block i s before (continuation o w) t b h f = go (halted (block (opened s) o w) _ f)
    where
      go : Halted (block (opened s) o w) (λ xs _. reached (item p q (continuation o w) ∷ xs) q) r n → Stopped l s (EntryStops src l level before p) r n
      go (there v) = i p q o w r n s before t b h v
      go (later xs m v j) = never (sym j)

  entry_by_halts : (level : ℕ) (block : Count → ℕ → ℕ → Went (List Item)) → OpenHalts block level → EntryHalts (entry_by src l block) level
  unfolding entry_by
  entry_by_halts level block i p r n s before t b f = ⊎_elim
      (λ w. go (ltb-true _ _ w.0) (halted (begun (s.entries + 1) (read src.file src.entry p)) _ w.1))
      (λ w.
      let k : l.beyond ≡ r = cc w.1 in
      let z : s.entries ≡ n = cc w.1 in
      stops_at_once l no_entry (too_many (omega (arith, ltb-false s.entries l.entries w.0, t.entries))) (sym k) (omega (arith, z)) (omega (arith, z)))
      (chose (ltb s.entries l.entries) _ _ f)
    where
      go : s.entries < l.entries → Halted (begun (s.entries + 1) (read src.file src.entry p)) (hold src l block s p) r n → Stopped l s (EntryStops src l level before p) r n
      go d (there v) =
          let z = was_refused _ (read src.file src.entry p) v in
          stops_at_once l own (fails (formats.none src.file src.entry p r z.0)) tt z.1 (omega (arith, z.1))
      go d (later x q v j) = hold_halts level p q r n block i s before x t d (formats.sound src.file src.entry p q x (was_found _ _ v)) j

  -- no block is allowed, or one is
  deep_halts : (level : ℕ) → 25 ≤ level → OpenHalts (λ s o w. stopped 21 s.entries) level
  deep_halts level d p q o w r n s before t b h f =
      let k : 21 ≡ r = cc in
      let z : s.entries + 1 ≡ n = cc in
      stops_at_once l no_level (too_deep q o w h (omega arith)) (sym k) z (omega (arith, z))

  open_halts : (level : ℕ) (block : Count → ℕ → ℕ → Went (List Item)) → suc level ≤ 25 → BlockHalts block (suc level) → OpenHalts block level
  open_halts level block d i p q o w r n s before t b h f =
      let v = i o w r n (opened s) (before ++ item p q (continuation o w) ∷ []) (told_opened t p q o w) (omega arith) f in
      record {
        items = item p q (continuation o w) ∷ v.items;
        cause = v.cause;
        stops = opens h d v.stops;
        number = v.number;
        begun = omega (arith, v.begun);
        few = v.few;
        fit = record { few = omega (arith, v.fit.few); room = λ j a c. v.fit.room j a c };
      }

  entry_halts : (levels level : ℕ) → levels + level ≡ 25 → EntryHalts (entry_at src l levels) level
  unfolding entry_at
  entry_halts zero level h = entry_by_halts level (λ s o n. stopped 21 s.entries) (deep_halts level (omega arith))
  entry_halts (suc levels) level h =
      entry_by_halts level (block_by src l (entry_at src l levels)) (open_halts level (block_by src l (entry_at src l levels)) (omega arith)
      (block_halts (suc level) (entry_at src l levels) (entry_sound src l levels (suc level) (omega arith)) (entry_halts levels (suc level) (omega arith))))

  -- where the walk stops, the reading stops, with so many entries begun
  pub walk_stopped : (o e p r n : ℕ) → walk src l o e p ≡ stopped r n → Stopped l start (ReadingStops src l o p e) r n
  unfolding walk run_at
  walk_stopped o e p r n f = ran (halted (run_at src l 25 e p start) _ f)
    where
      closed : (xs : List Item) (q : ℕ) → run_at src l 25 e p start ≡ reached xs q → Halted (begun (length xs) (read src.file (header_end src.sum o e q) q)) (λ _ m. reached xs m) r n
          → Stopped l start (ReadingStops src l o p e) r n
      closed xs q k (there v) =
          let u = run_sound src l 0 (entry_at src l 25) (entry_sound src l 25 0 refl) (suc l.entries) e p q start xs (omega arith) k in
          let z = was_refused _ (read src.file (header_end src.sum o e q) q) v in
          stops_after l xs (not_closed u.0 (formats.none src.file (header_end src.sum o e q) q r z.0)) (omega (arith, z.1)) u.1
      closed xs q k (later _ m v j) = never (sym j)

      ran : Halted (run_at src l 25 e p start) (λ xs q. and_then (begun (length xs) (read src.file (header_end src.sum o e q) q)) (λ _ m. reached xs m)) r n → Stopped l start (ReadingStops src l o p e) r n
      ran (there v) =
          stops_as l (λ xs c x. in_run x)
          (run_halts 0 (entry_at src l 25) (entry_sound src l 25 0 refl) (entry_halts 25 0 refl) (suc l.entries) e p r n start [] (record { entries = refl; rows = refl }) (omega arith) (omega arith) v)
      ran (later xs q v j) = closed xs q v (halted (begun (length xs) (read src.file (header_end src.sum o e q) q)) _ j)
