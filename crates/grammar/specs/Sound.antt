-- What the definition reaches stands by the grammar, within the limits: each of its tests is one of the grammar's. Assumes nothing.
use Prim.Native.Nat.{ℕ, zero, suc, ◌+◌, ◌-◌, ◌≤◌, ◌<◌}
use Rattle.std.specs.Prelude.{◌≡◌, true, leb, ltb}
use Rattle.std.proofs.Math.Path.{subst, subst₂}
use Rattle.std.proofs.Math.Logic.{⊎_elim}
use mathlib.Core.List.{List, [], ◌∷◌, ◌++◌}
use native.Mathlib.Omega.{arith}
use Rattle.std.proofs.Common.{leb-true, leb-false, ltb-true}
use Rattle.format.specs.Format.{read}
use Rattle.format.specs.Laws as formats
use Rattle.grammar.specs.Message.{Held, message, continuation}
use Rattle.grammar.specs.Grammar.{Source, Item, item, ochk, block_end, One, Run, ends, goes, Entry, is_message, is_continuation, Block, is_block}
use Rattle.grammar.specs.Walk.{Went, reached, stopped, begun, Count, counted, opened, Limits, hold, entry_by, run_by, block_by, entry_at, run_at, Fit}
use Rattle.grammar.specs.WalkLaws.{chose, never, passed, first, was_found, fit_none, fit-append}

module _ (src : Source) (l : Limits) where
  -- what stands, of a kind P, and fits after s
  abbrev pub Fitting : (List Item → Type 0) → Count → List Item → Type 0
  Fitting P s xs = P xs × Fit l s xs

  abbrev pub EntrySound : (ℕ → Count → Went (List Item)) → ℕ → Type 0
  EntrySound entry level = (p q : ℕ) (s : Count) (xs : List Item) → s.entries ≤ l.entries → entry p s ≡ reached xs q → Fitting (Entry src level p q) s xs

  abbrev pub RunSound : (ℕ → ℕ → Count → Went (List Item)) → ℕ → Type 0
  RunSound run level = (e p q : ℕ) (s : Count) (xs : List Item) → s.entries ≤ l.entries → run e p s ≡ reached xs q → Fitting (Run src level p e q) s xs

  abbrev pub BlockSound : (Count → ℕ → ℕ → Went (List Item)) → ℕ → Type 0
  BlockSound block level = (o n q : ℕ) (s : Count) (xs : List Item) → s.entries ≤ l.entries → block s o n ≡ reached xs q → (level ≤ 25) × Fitting (Block src level o n) s xs

  run_ends : (level e p q : ℕ) (s : Count) (xs : List Item) → s.entries ≤ l.entries → e < p + src.prefix → ◌≡◌ {A = Went (List Item)} (reached [] p) (reached xs q)
      → Fitting (Run src level p e q) s xs
  run_ends level e p q s xs b h f =
      let u : p ≡ q = cc in
      let v : [] ≡ xs = cc in
      subst₂ (λ (x : ℕ) (ys : List Item). Fitting (Run src level p e x) s ys) u v (ends h, fit_none l s b)

  pub run_sound : (level : ℕ) (entry : ℕ → Count → Went (List Item)) → EntrySound entry level → (turns : ℕ) → RunSound (run_by src l entry turns) level
  unfolding run_by
  run_sound level entry h zero e p q s xs b f = never f
  run_sound level entry h (suc turns) e p q s xs b f = ⊎_elim
      (λ w.
      let v = first (entry p s) _ w.1 in
      let u = first (run_by src l entry turns e v.next (counted s v.value)) _ v.then in
      let i = h p v.next s v.value b v.first in
      let j = run_sound level entry h turns e v.next u.next (counted s v.value) u.value i.1.few u.first in
      let a : u.next ≡ q = cc u.then in
      let c : v.value ++ u.value ≡ xs = cc u.then in
      subst₂ (λ (x : ℕ) (ys : List Item). Fitting (Run src level p e x) s ys) a c
      (goes (leb-true (p + src.prefix) e w.0) i.0 j.0, fit-append l s v.value u.value i.1 j.1))
      (λ w. run_ends level e p q s xs b (leb-false (p + src.prefix) e w.0) w.1)
      (chose (leb (p + src.prefix) e) _ _ f)

  block_sound : (level : ℕ) (entry : ℕ → Count → Went (List Item)) → level ≤ 25 → EntrySound entry level → BlockSound (block_by src l entry) level
  unfolding block_by
  block_sound level entry h i o n q s xs b f =
      let a = first (begun s.entries (read src.file ochk o)) _ f in
      let v = first (run_by src l entry (suc l.entries) (o + n - 4) a.next s) _ a.then in
      let t = first (begun (counted s v.value).entries (read src.file (block_end src.sum o (o + n) v.next) v.next)) _ v.then in
      let r = run_sound level entry i (suc l.entries) (o + n - 4) a.next v.next s v.value b v.first in
      let c : v.value ≡ xs = cc t.then in
      let signed = formats.sound src.file ochk o a.next tt (was_found _ _ a.first) in
      let closed = formats.sound src.file (block_end src.sum o (o + n) v.next) v.next t.next tt (was_found _ _ t.first) in
      (h, subst (Fitting (Block src level o n) s) c (is_block t.next signed r.0 closed, r.1))

  hold_sound : (level p m q : ℕ) (block : Count → ℕ → ℕ → Went (List Item)) → BlockSound block (suc level) → (s : Count) (xs : List Item) (x : Held) → s.entries < l.entries → One src p m x
      → hold src l block s p x m ≡ reached xs q → Fitting (Entry src level p q) s xs
  unfolding hold
  hold_sound level p m q block i s xs (message r) b h f =
      let a = passed (l.fits s.rows) _ _ _ f in
      let d : m ≡ q = cc a.1 in
      let c : item p m (message r) ∷ [] ≡ xs = cc a.1 in
      subst₂ (λ (x : ℕ) (ys : List Item). Fitting (Entry src level p x) s ys) d c
      (is_message h, record { few = omega arith; room = λ i u v. let z : s.rows ≡ i = omega arith in subst (λ (y : ℕ). l.fits y ≡ true) z a.0 })
  hold_sound level p m q block i s xs (continuation o n) b h f =
      let v = first (block (opened s) o n) _ f in
      let k = i o n v.next (opened s) v.value (omega arith) v.first in
      let d : m ≡ q = cc v.then in
      let c : item p m (continuation o n) ∷ v.value ≡ xs = cc v.then in
      let w = k.1.1 in
      subst₂ (λ (x : ℕ) (ys : List Item). Fitting (Entry src level p x) s ys) d c
      (is_continuation h k.0 k.1.0, record { few = omega (arith, w.few); room = λ i a b. w.room i a b })

  entry_by_sound : (level : ℕ) (block : Count → ℕ → ℕ → Went (List Item)) → BlockSound block (suc level) → EntrySound (entry_by src l block) level
  unfolding entry_by
  entry_by_sound level block i p q s xs b f =
      let a = passed (ltb s.entries l.entries) _ _ _ f in
      let v = first (begun (s.entries + 1) (read src.file src.entry p)) _ a.1 in
      hold_sound level p v.next q block i s xs v.value (ltb-true _ _ a.0) (formats.sound src.file src.entry p v.next v.value (was_found _ _ v.first)) v.then

  pub entry_sound : (levels level : ℕ) → levels + level ≡ 25 → EntrySound (entry_at src l levels) level
  unfolding entry_at
  entry_sound zero level h = entry_by_sound level (λ s o n. stopped 21 s.entries) (λ o n q s xs b f. never f)
  entry_sound (suc levels) level h = entry_by_sound level (block_by src l (entry_at src l levels)) (block_sound (suc level) (entry_at src l levels) (omega arith) (entry_sound levels (suc level) (omega arith)))

  pub run_at_sound : (levels level : ℕ) → levels + level ≡ 25 → RunSound (run_at src l levels) level
  unfolding run_at
  run_at_sound levels level h = run_sound level (entry_at src l levels) (entry_sound levels level h) (suc l.entries)
