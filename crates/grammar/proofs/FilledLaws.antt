-- Laws of the walk that fills a table: an entry in one equation, and what each step and each turn of a run gives. Assumes nothing.
use Prim.Native.Nat.{ℕ, zero, suc, ◌+◌, ◌-◌, ◌≤◌, ◌<◌}
use Rattle.std.specs.Prelude.{◌≡◌, Bool, true, false, List, ◌∷◌, length, ltb}
use Rattle.std.proofs.Math.Path.{refl, ap}
use Rattle.std.proofs.Common.{◌∙◌}
use native.Mathlib.Omega.{arith}
use borrow.Author.Tests.{ne_eqb}
use Rattle.format.specs.Format.{Out, found, refused, read}
use Rattle.grammar.specs.Message.{Held, message, continuation}
use Rattle.grammar.specs.Table.{messages}
use Rattle.grammar.specs.TableLaws.{messages_few}
use Rattle.grammar.specs.Grammar.{Source, Item, item, ochk, block_end, header_end}
use Rattle.grammar.specs.Walk.{choose, Went, reached, stopped, and_then, begun, counted, Limits, hold, entry_by, block_by, entry_at, run_at}
use Rattle.grammar.specs.WalkLaws.{First, first}
use Rattle.grammar.specs.Advance.{deeper, entry_levels, advanced, run_at_goes, run_at_stops, run_at_ends, walk_stops, walk_unclosed, walk_closed}
use Rattle.grammar.specs.Filled.{Walked, count, grown, tell, state≡, grown_none, tell_before, untold, entry_on, run_on, walk_on, inner, hold_on}

module _ (src : Source) (l : Limits) where
  tell_choose : (s : Walked) (b : Bool) (x y : Unit {0} → Went (List Item)) (x' y' : Unit {0} → Went Walked) → tell s (x tt) ≡ x' tt → tell s (y tt) ≡ y' tt → tell s (choose b x y) ≡ choose b x' y'
  tell_choose s true x y x' y' a b = a
  tell_choose s false x y x' y' a b = b

  tell_read : {A : Type 0} (s : Walked) (n : ℕ) (o : Out A) (k : A → ℕ → Went (List Item)) (k' : A → ℕ → Went Walked) → ((a : A) (q : ℕ) → tell s (k a q) ≡ k' a q) → tell s (and_then (begun n o) k) ≡ and_then (begun n o) k'
  tell_read s n (found a q) k k' h = h a q
  tell_read s n (refused r) k k' h = refl

  -- a block, by what its three parts gave
  shut : (s : Walked) (p q o n : ℕ) (xs : List Item) (w : Out (Unit {0}))
      → tell s (and_then (and_then (begun (s.entries + 1 + length xs) w) (λ _ m. reached xs m)) (λ ys _. reached (item p q (continuation o n) ∷ ys) q))
      ≡ and_then (begun (s.entries + 1 + length xs) w) (λ _ _. reached (grown (inner src l s) xs) q)
  shut s p q o n xs (found a m) = ap (λ (x : Walked). reached x q) (state≡ (omega arith) refl refl)
  shut s p q o n xs (refused r) = refl

  ran : (s : Walked) (p q o n : ℕ) (w : Went (List Item))
      → tell s (and_then (and_then w (λ xs m. and_then (begun (s.entries + 1 + length xs) (read src.file (block_end src.sum o (o + n) m) m)) (λ _ m. reached xs m))) (λ ys _. reached (item p q (continuation o n) ∷ ys) q))
      ≡ and_then (tell (inner src l s) w) (λ s₁ m. and_then (begun s₁.entries (read src.file (block_end src.sum o (o + n) m) m)) (λ _ _. reached s₁ q))
  ran s p q o n (reached xs m) = shut s p q o n xs (read src.file (block_end src.sum o (o + n) m) m)
  ran s p q o n (stopped r k) = refl

  opens : (levels : ℕ) (s : Walked) (p q o n : ℕ) (w : Out (Unit {0}))
      → tell s (and_then (and_then (begun (s.entries + 1) w) (λ _ first. and_then (run_at src l levels (o + n - 4) first (count (inner src l s))) (λ xs m. and_then (begun (s.entries + 1 + length xs) (read src.file (block_end src.sum o (o + n) m) m)) (λ _ m. reached xs m)))) (λ ys _. reached (item p q (continuation o n) ∷ ys) q))
      ≡ and_then (begun (s.entries + 1) w) (λ _ first. and_then (run_on src l levels (o + n - 4) first (inner src l s)) (λ s₁ m. and_then (begun s₁.entries (read src.file (block_end src.sum o (o + n) m) m)) (λ _ _. reached s₁ q)))
  opens levels s p q o n (found a first) = ran s p q o n (run_at src l levels (o + n - 4) first (count (inner src l s)))
  opens levels s p q o n (refused r) = refl

  hold_on_lem : (levels : ℕ) (s : Walked) (p : ℕ) (x : Held) (q : ℕ) → tell s (hold src l (deeper src l levels) (count s) p x q) ≡ hold_on src l levels s p x q
  unfolding hold deeper block_by run_at
  hold_on_lem levels s p (message m) q = tell_choose s (l.fits s.rows) _ _ _ _ refl refl
  hold_on_lem zero s p (continuation o n) q = refl
  hold_on_lem (suc levels) s p (continuation o n) q = let e : suc levels - 1 ≡ levels = omega arith in let d : suc levels ≡ 0 → ⊥ = λ h. omega arith in rw (e, ne_eqb (suc levels) 0 d) (opens levels s p q o n (read src.file ochk o))

  -- an entry, in one equation
  pub entry_on_lem : (levels p : ℕ) (s : Walked) → entry_on src l levels p s ≡ choose (ltb s.entries l.entries) (λ _. and_then (begun (s.entries + 1) (read src.file src.entry p)) (hold_on src l levels s p)) (λ _. stopped l.beyond s.entries)
  unfolding entry_by
  entry_on_lem levels p s = ap (tell s) (entry_levels src l levels p (count s))
      ∙ tell_choose s (ltb s.entries l.entries) _ _ _ _ (tell_read s (s.entries + 1) (read src.file src.entry p) _ _ (λ x q. hold_on_lem levels s p x q)) refl

  -- from s at p to s₁ at q: entries were begun, not too many, and q is in the file where p is
  pub record Further (s s₁ : Walked) (p q : ℕ) : Type 0 where
    pub more : s.entries < s₁.entries
    pub few : s₁.entries ≤ l.entries
    pub fewer : s.rows ≤ s.entries → s₁.rows ≤ s₁.entries
    pub inside : p ≤ length src.file → q ≤ length src.file

  module _ (levels e p : ℕ) (s : Walked) where
    pub run_ends : e < p + src.prefix → run_on src l levels e p s ≡ reached s p
    run_ends h = ap (tell s) (run_at_ends src l levels e p (count s) h) ∙ ap (λ (x : Walked). reached x p) (grown_none s)

    pub run_stops : (r n : ℕ) → p + src.prefix ≤ e → entry_on src l levels p s ≡ stopped r n → run_on src l levels e p s ≡ stopped r n
    run_stops r n h i = ap (tell s) (run_at_stops src l levels e p (count s) r n h (untold s (entry_at src l levels p (count s)) i))

    module _ (d : levels ≤ 25) (m : ℕ) (s₁ : Walked) (i : entry_on src l levels p s ≡ reached s₁ m) where
      went : First (entry_at src l levels p (count s)) (λ xs q. reached (grown s xs) q) s₁ m
      went = first (entry_at src l levels p (count s)) (λ xs q. reached (grown s xs) q) i

      to : grown s went.value ≡ s₁
      to = cc went.then

      at : went.next ≡ m
      at = cc went.then

      pub further : Further s s₁ p m
      further =
          let v = advanced src l levels p m (count s) went.value d (went.first ∙ ap (reached went.value) at) in
          let n : s.entries + length went.value ≡ s₁.entries = ap (λ (x : Walked). x.entries) to in
          let r : s.rows + messages went.value ≡ s₁.rows = ap (λ (x : Walked). x.rows) to in
          record { more = omega (arith, v.more); few = omega (arith, v.few); fewer = λ h. omega (arith, messages_few went.value); inside = v.inside }

      pub run_goes : p + src.prefix ≤ e → run_on src l levels e p s ≡ run_on src l levels e m s₁
      run_goes h =
          ap (tell s) (run_at_goes src l levels e p (count s) m went.value d h (went.first ∙ ap (reached went.value) at))
          ∙ tell_before s went.value (run_at src l levels e m (counted (count s) went.value))
          ∙ ap (λ (x : Walked). run_on src l levels e m x) to

  module _ (o e p : ℕ) (t : List ℕ) where
    abbrev pub fresh : Walked
    fresh = record { entries = 0; rows = 0; table = t }

    pub walk_on_stops : (r n : ℕ) → run_on src l 25 e p fresh ≡ stopped r n → walk_on src l o e p t ≡ stopped r n
    walk_on_stops r n i = ap (tell fresh) (walk_stops src l o e p r n (untold fresh (run_at src l 25 e p (count fresh)) i))

    module _ (q : ℕ) (s : Walked) (i : run_on src l 25 e p fresh ≡ reached s q) where
      went' : First (run_at src l 25 e p (count fresh)) (λ xs q. reached (grown fresh xs) q) s q
      went' = first (run_at src l 25 e p (count fresh)) (λ xs q. reached (grown fresh xs) q) i

      to' : grown fresh went'.value ≡ s
      to' = cc went'.then

      at' : went'.next ≡ q
      at' = cc went'.then

      pub walk_on_unclosed : (r : ℕ) → read src.file (header_end src.sum o e q) q ≡ refused r → walk_on src l o e p t ≡ stopped r s.entries
      walk_on_unclosed r h =
          let n : length went'.value ≡ s.entries = omega (arith, ap (λ (x : Walked). x.entries) to') in
          ap (tell fresh) (walk_unclosed src l o e p q went'.value (went'.first ∙ ap (reached went'.value) at') r h)
          ∙ ap (stopped r) n

      pub walk_on_closed : (m : ℕ) → read src.file (header_end src.sum o e q) q ≡ found tt m → walk_on src l o e p t ≡ reached s m
      walk_on_closed m h =
          ap (tell fresh) (walk_closed src l o e p q went'.value (went'.first ∙ ap (reached went'.value) at') m h)
          ∙ ap (λ (x : Walked). reached x m) to'
