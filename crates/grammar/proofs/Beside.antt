-- A walk without a table beside those with n rows, over the same limit of entries: it takes so many rows, and with as many they are the same; with
-- fewer the second is 24. Assumes nothing.
use Prim.Native.Nat.{ℕ, zero, suc, ◌+◌, ◌-◌, ◌≤◌, ◌<◌}
use Rattle.std.specs.Prelude.{◌≡◌, refl, Bool, true, false, leb, ltb}
use Rattle.std.proofs.Common.{sym, ap, ◌∙◌, arith, ltb-true, ltb-false, lt-ltb, le-ltb}
use mathlib.Core.List.{List, [], ◌∷◌, ◌++◌}
use Rattle.format.specs.Format.{Out, found, refused, read}
use Rattle.grammar.specs.Message.{Message, Held, message, continuation}
use Rattle.grammar.specs.Grammar.{Source, Item, item, ochk, block_end, header_end}
use Rattle.grammar.specs.Table.{messages}
use Rattle.grammar.specs.TableLaws.{messages-append, messages_few}
use Rattle.grammar.specs.Walk.{choose, Went, reached, stopped, and_then, begun, Count, counted, opened, within, without, start, hold, entry_by, run_by, block_by, entry_at, run_at, walk}
use Rattle.grammar.specs.WalkLaws.{choose_yes, choose_no, then_reached, then_stopped, never}

-- o is given without a table, where rows are counted from r on, and `by n` with n rows, where the first `base` are taken before. o takes rows up to
-- `taken`, no more than the limit of entries and than the entries begun where it stops; what it reaches holds as many messages. With so many rows
-- both are the same; with fewer it is 24.
pub record Beside (limit r base : ℕ) (o : Went (List Item)) (by : ℕ → Went (List Item)) : Type 0 where
  pub taken : ℕ
  pub from : base ≤ taken
  pub few : base ≤ limit → taken ≤ limit
  pub told : (xs : List Item) (q : ℕ) → o ≡ reached xs q → taken ≡ r + messages xs
  pub before : (x m : ℕ) → o ≡ stopped x m → taken ≤ m
  pub enough : (n : ℕ) → taken ≤ n → by n ≡ o
  pub full : (n : ℕ) → base ≤ n → n < taken → (m : ℕ) × (by n ≡ stopped 24 m)

pub both_stop : {limit r base k m : ℕ} → base ≤ m → Beside limit r base (stopped k m) (λ _. stopped k m)
both_stop {base = base} {k = k} {m = m} b = record {
  taken = base;
  from = omega arith;
  few = λ h. h;
  told = λ xs q e. never e;
  before = λ x n e. let d : m ≡ n = cc in omega (arith, b, d);
  enough = λ n h. refl;
  full = λ n h i. absurd (omega arith);
}

both_reach : {limit r base q : ℕ} (xs : List Item) → base ≡ r + messages xs → Beside limit r base (reached xs q) (λ _. reached xs q)
both_reach {r = r} {base = base} {q = q} xs b = record {
  taken = base;
  from = omega arith;
  few = λ h. h;
  told = λ ys p e. let d : xs ≡ ys = cc in b ∙ ap (λ (zs : List Item). r + messages zs) d;
  before = λ x m e. never (sym e);
  enough = λ n h. refl;
  full = λ n h i. absurd (omega arith);
}

-- what follows begins with the rows that were taken
then : {limit r r' base : ℕ} (o : Went (List Item)) (by : ℕ → Went (List Item)) (k : List Item → ℕ → Went (List Item)) (k' : ℕ → List Item → ℕ → Went (List Item))
    → Beside limit r base o by → ((xs : List Item) (q : ℕ) → Beside limit r' (r + messages xs) (k xs q) (λ n. k' n xs q)) → Beside limit r' base (and_then o k) (λ n. and_then (by n) (k' n))
then {limit} {r} {r'} {base} (reached xs q) by k k' b f = record {
  taken = c.taken;
  from = omega (arith, b.from, c.from, t);
  few = λ h. c.few (omega (arith, b.few h, t));
  told = c.told;
  before = c.before;
  enough = λ n h. then_reached (k' n) (b.enough n (omega (arith, c.from, t))) ∙ c.enough n h;
  full = λ n i h. go n i h (ltb n b.taken) refl;
}
  where
    c : Beside limit r' (r + messages xs) (k xs q) (λ n. k' n xs q)
    c = f xs q

    t : b.taken ≡ r + messages xs
    t = b.told xs q refl

    go : (n : ℕ) → base ≤ n → n < c.taken → (z : Bool) → ltb n b.taken ≡ z → (m : ℕ) × (and_then (by n) (k' n) ≡ stopped 24 m)
    go n i h true e = let w = b.full n i (ltb-true _ _ e) in (w.0, then_stopped (k' n) w.1)
    go n i h false e =
        let j : b.taken ≤ n = ltb-false n b.taken e in
        let w = c.full n (omega (arith, t)) h in
        (w.0, then_reached (k' n) (b.enough n j) ∙ w.1)
then (stopped x m) by k k' b f = record {
  taken = b.taken;
  from = b.from;
  few = b.few;
  told = λ xs q e. never e;
  before = b.before;
  enough = λ n h. then_stopped (k' n) (b.enough n h);
  full = λ n i h. let w = b.full n i h in (w.0, then_stopped (k' n) w.1);
}

pub chosen : {limit r base : ℕ} (b : Bool) (x y : Unit {0} → Went (List Item)) (x' y' : ℕ → Unit {0} → Went (List Item)) → (b ≡ true → Beside limit r base (x tt) (λ n. x' n tt)) → Beside limit r base (y tt) (λ n. y' n tt)
    → Beside limit r base (choose b x y) (λ n. choose b (x' n) (y' n))
chosen true x y x' y' f g = f refl
chosen false x y x' y' f g = g

pub after_read : {A : Type 0} {limit r base : ℕ} (m : ℕ) (o : Out A) (k : A → ℕ → Went (List Item)) (k' : ℕ → A → ℕ → Went (List Item)) → base ≤ m → ((a : A) (q : ℕ) → Beside limit r base (k a q) (λ n. k' n a q))
    → Beside limit r base (and_then (begun m o) k) (λ n. and_then (begun m o) (k' n))
after_read m (found a q) k k' h f = f a q
after_read m (refused x) k k' h f = both_stop h

module _ (src : Source) (entries beyond : ℕ) where
  abbrev EntryBeside : (ℕ → Count → Went (List Item)) → (ℕ → ℕ → Count → Went (List Item)) → Type 0
  EntryBeside entry entry' = (p : ℕ) (s : Count) → s.rows ≤ s.entries → Beside entries s.rows s.rows (entry p s) (λ n. entry' n p s)

  abbrev BlockBeside : (Count → ℕ → ℕ → Went (List Item)) → (ℕ → Count → ℕ → ℕ → Went (List Item)) → Type 0
  BlockBeside block block' = (s : Count) (o l : ℕ) → s.rows ≤ s.entries → Beside entries s.rows s.rows (block s o l) (λ n. block' n s o l)

  run_beside : (entry : ℕ → Count → Went (List Item)) (entry' : ℕ → ℕ → Count → Went (List Item)) → EntryBeside entry entry' → (turns e p : ℕ) (s : Count) → s.rows ≤ s.entries
      → Beside entries s.rows s.rows (run_by src (without entries beyond) entry turns e p s) (λ n. run_by src (within entries beyond n) (entry' n) turns e p s)
  unfolding run_by
  run_beside entry entry' h zero e p s i = both_stop i
  run_beside entry entry' h (suc turns) e p s i =
      chosen (leb (p + src.prefix) e) _ _ _ _
      (λ _. then (entry p s) (λ n. entry' n p s) _ _ (h p s i) (λ xs m.
      then (run_by src (without entries beyond) entry turns e m (counted s xs)) (λ n. run_by src (within entries beyond n) (entry' n) turns e m (counted s xs)) _ _ (run_beside entry entry' h turns e m (counted s xs) (omega (arith, messages_few xs))) (λ ys q.
      both_reach (xs ++ ys) (omega (arith, messages-append xs ys)))))
      (both_reach [] (omega arith))

  block_beside : (entry : ℕ → Count → Went (List Item)) (entry' : ℕ → ℕ → Count → Went (List Item)) → EntryBeside entry entry' → BlockBeside (block_by src (without entries beyond) entry) (λ n. block_by src (within entries beyond n) (entry' n))
  unfolding block_by
  block_beside entry entry' h s o l i =
      after_read _ (read src.file ochk o) _ _ i (λ _ p.
      then (run_by src (without entries beyond) entry (suc entries) (o + l - 4) p s) (λ n. run_by src (within entries beyond n) (entry' n) (suc entries) (o + l - 4) p s) _ _ (run_beside entry entry' h (suc entries) (o + l - 4) p s i) (λ xs q.
      after_read _ (read src.file (block_end src.sum o (o + l) q) q) _ _ (omega (arith, messages_few xs)) (λ _ m. both_reach xs refl)))

  -- a message takes one row
  message_beside : (s : Count) (p q : ℕ) (m : Message) → s.rows ≤ s.entries → s.entries < entries
      → Beside entries s.rows s.rows (reached (item p q (message m) ∷ []) q) (λ n. choose (ltb s.rows n) (λ _. reached (item p q (message m) ∷ []) q) (λ _. stopped 24 (s.entries + 1)))
  message_beside s p q m i j = record {
    taken = s.rows + 1;
    from = omega arith;
    few = λ h. omega arith;
    before = λ x n e. never (sym e);
    told = λ ys q' e. let d : (item p q (message m) ∷ []) ≡ ys = cc in ap (λ (zs : List Item). s.rows + messages zs) d;
    enough = λ n h. choose_yes _ _ (lt-ltb s.rows n (omega arith));
    full = λ n h i. (s.entries + 1, choose_no _ _ (le-ltb s.rows n (omega arith)));
  }

  hold_beside : (block : Count → ℕ → ℕ → Went (List Item)) (block' : ℕ → Count → ℕ → ℕ → Went (List Item)) → BlockBeside block block' → (s : Count) (p : ℕ) (x : Held) (q : ℕ) → s.rows ≤ s.entries → s.entries < entries
      → Beside entries s.rows s.rows (hold src (without entries beyond) block s p x q) (λ n. hold src (within entries beyond n) (block' n) s p x q)
  unfolding hold
  hold_beside block block' h s p (message m) q i j = message_beside s p q m i j
  hold_beside block block' h s p (continuation o l) q i j =
      then (block (opened s) o l) (λ n. block' n (opened s) o l) _ _ (h (opened s) o l (omega arith)) (λ xs m. both_reach (item p q (continuation o l) ∷ xs) refl)

  entry_by_beside : (block : Count → ℕ → ℕ → Went (List Item)) (block' : ℕ → Count → ℕ → ℕ → Went (List Item)) → BlockBeside block block' → EntryBeside (entry_by src (without entries beyond) block) (λ n. entry_by src (within entries beyond n) (block' n))
  unfolding entry_by
  entry_by_beside block block' h p s i =
      chosen (ltb s.entries entries) _ _ _ _ (λ b. after_read _ (read src.file src.entry p) _ _ (omega (arith, i)) (λ x q. hold_beside block block' h s p x q i (ltb-true _ _ b))) (both_stop i)

  entry_beside : (levels : ℕ) → EntryBeside (entry_at src (without entries beyond) levels) (λ n. entry_at src (within entries beyond n) levels)
  unfolding entry_at
  entry_beside zero = entry_by_beside (λ s o l. stopped 21 s.entries) (λ n s o l. stopped 21 s.entries) (λ s o l i. both_stop i)
  entry_beside (suc levels) =
      entry_by_beside (block_by src (without entries beyond) (entry_at src (without entries beyond) levels)) (λ n. block_by src (within entries beyond n) (entry_at src (within entries beyond n) levels))
      (block_beside (entry_at src (without entries beyond) levels) (λ n. entry_at src (within entries beyond n) levels) (entry_beside levels))

  pub walk_beside : (o e p : ℕ) → Beside entries 0 0 (walk src (without entries beyond) o e p) (λ n. walk src (within entries beyond n) o e p)
  unfolding walk run_at
  walk_beside o e p =
      then (run_by src (without entries beyond) (entry_at src (without entries beyond) 25) (suc entries) e p start) (λ n. run_by src (within entries beyond n) (entry_at src (within entries beyond n) 25) (suc entries) e p start) _ _
      (run_beside (entry_at src (without entries beyond) 25) (λ n. entry_at src (within entries beyond n) 25) (entry_beside 25) (suc entries) e p start (omega arith)) (λ xs q.
      after_read _ (read src.file (header_end src.sum o e q) q) _ _ (omega (arith, messages_few xs)) (λ _ m. both_reach xs refl))
