-- What stands by the grammar, within the limits, the definition reaches: by induction over what stands, since turns never run out. Assumes nothing.
use Prim.Native.Nat.{ℕ, zero, suc, ◌+◌, ◌-◌, ◌≤◌, ◌<◌}
use Rattle.std.specs.Prelude.{◌≡◌, List, [], ◌∷◌, ◌++◌, length}
use Rattle.std.proofs.Common.{◌∙◌, arith}
use Rattle.format.specs.Format.{Stands, found, read}
use Rattle.format.specs.Laws as formats
use Rattle.grammar.specs.Message.{Message, Held, message, continuation}
use Rattle.grammar.specs.Grammar.{Source, Item, item, ochk, block_end, One, Run, ends, goes, Entry, is_message, is_continuation, Block, is_block}
use Rattle.grammar.specs.Walk.{Went, reached, Count, counted, opened, Limits, run_by, block_by, entry_at, Fit}
use Rattle.grammar.specs.WalkLaws.{then_reached, fit_first, fit_second}
use Rattle.grammar.specs.Steps.{run_ends, run_goes, entry_kept, entry_opened, block_closed_lem}

module _ (src : Source) (l : Limits) where
  abbrev own : (p q : ℕ) (x : Held) → One src p q x → read src.file src.entry p ≡ found x q
  own p q x h = formats.complete src.file src.entry p q x h

  entry_message : (levels p q : ℕ) (m : Message) (s : Count) → One src p q (message m) → Fit l s (item p q (message m) ∷ [])
      → entry_at src l levels p s ≡ reached (item p q (message m) ∷ []) q
  unfolding entry_at
  entry_message zero p q m s h f = entry_kept src l _ p s (omega (arith, f.few)) m q (own p q (message m) h) (f.room s.rows (omega arith) (omega arith))
  entry_message (suc levels) p q m s h f = entry_kept src l _ p s (omega (arith, f.few)) m q (own p q (message m) h) (f.room s.rows (omega arith) (omega arith))

  run_step : (entry : ℕ → Count → Went (List Item)) (turns e p m q : ℕ) (s : Count) (xs ys : List Item) → p + src.prefix ≤ e → l.entries < turns + s.entries → Fit l s (xs ++ ys) → 1 ≤ length xs
      → entry p s ≡ reached xs m
      → ((t : ℕ) → l.entries < t + (counted s xs).entries → Fit l (counted s xs) ys → run_by src l entry t e m (counted s xs) ≡ reached ys q)
      → run_by src l entry turns e p s ≡ reached (xs ++ ys) q
  run_step entry zero e p m q s xs ys h n f d a r = absurd (omega (arith, f.few))
  run_step entry (suc turns) e p m q s xs ys h n f d a r =
      run_goes src l entry turns e p s m xs h a ∙ then_reached _ (r turns (omega arith) (fit_second l s xs ys f))

  run_end : (entry : ℕ → Count → Went (List Item)) (turns e p : ℕ) (s : Count) → e < p + src.prefix → l.entries < turns + s.entries → Fit l s []
      → run_by src l entry turns e p s ≡ reached [] p
  run_end entry zero e p s h n f = absurd (omega (arith, f.few))
  run_end entry (suc turns) e p s h n f = run_ends src l entry turns e p s h

  pub entry_some : {level p q : ℕ} {xs : List Item} → Entry src level p q xs → 1 ≤ length xs
  entry_some (is_message h) = omega arith
  entry_some (is_continuation h n b) = omega arith

  abbrev RunComplete : ℕ → ℕ → ℕ → ℕ → List Item → Type 0
  RunComplete level p e q xs = (levels turns : ℕ) (s : Count) → levels + level ≡ 25 → l.entries < turns + s.entries → Fit l s xs
      → run_by src l (entry_at src l levels) turns e p s ≡ reached xs q

  abbrev EntryComplete : ℕ → ℕ → ℕ → List Item → Type 0
  EntryComplete level p q xs = (levels : ℕ) (s : Count) → levels + level ≡ 25 → Fit l s xs → entry_at src l levels p s ≡ reached xs q

  abbrev BlockComplete : ℕ → ℕ → ℕ → List Item → Type 0
  BlockComplete level o n xs = (levels : ℕ) (s : Count) → levels + level ≡ 25 → Fit l s xs → (q : ℕ) × (block_by src l (entry_at src l levels) s o n ≡ reached xs q)

  continued : (level p q o n : ℕ) (xs : List Item) → One src p q (continuation o n) → suc level ≤ 25 → BlockComplete (suc level) o n xs
      → EntryComplete level p q (item p q (continuation o n) ∷ xs)
  unfolding entry_at
  continued level p q o n xs h d i zero s k f = absurd (omega arith)
  continued level p q o n xs h d i (suc levels) s k f =
      let b = i levels (opened s) (omega arith) (record { few = omega (arith, f.few); room = f.room }) in
      entry_opened src l (block_by src l (entry_at src l levels)) p s (omega (arith, f.few)) o n q (own p q (continuation o n) h) b.0 xs b.1

  block_whole : (level o n start q m : ℕ) (xs : List Item) → Stands src.file ochk o start tt → RunComplete level start (o + n - 4) q xs → Stands src.file (block_end src.sum o (o + n) q) q m tt
      → BlockComplete level o n xs
  block_whole level o n start q m xs h j t levels s k f = (
    m,
    block_closed_lem src l (entry_at src l levels) s o n start (formats.complete src.file ochk o start tt h) q xs (j levels (suc l.entries) s k (omega arith) f)
        m (formats.complete src.file (block_end src.sum o (o + n) q) q m tt t),
  )

  pub run_complete : {level p e q : ℕ} {xs : List Item} → Run src level p e q xs → RunComplete level p e q xs
  run_complete r = elim r as (λ level p e q xs y. RunComplete level p e q xs) (λ level p q xs y. EntryComplete level p q xs) (λ level o n xs y. BlockComplete level o n xs) [
    | ends {p = p} {e = e} h ↦ λ levels turns s k n f. run_end (entry_at src l levels) turns e p s h n f
    | goes {p = p} {e = e} {m = m} {q = q} {xs = xs} {ys = ys} h (a → i) (r → j) ↦ λ levels turns s k n f.
        run_step (entry_at src l levels) turns e p m q s xs ys h n f (entry_some a) (i levels s k (fit_first l s xs ys f)) (λ t n' f'. j levels t (counted s xs) k n' f')
    | is_message {p = p} {q = q} {m = m} h ↦ λ levels s k f. entry_message levels p q m s h f
    | is_continuation {level = level} {p = p} {q = q} {offset = o} {length = n} {xs = xs} h d (b → i) ↦ continued level p q o n xs h d i
    | is_block {level = level} {offset = o} {size = n} {start = start} {q = q} {xs = xs} m h (r → j) t ↦ block_whole level o n start q m xs h j t
  ]

  block_complete : {level o n : ℕ} {xs : List Item} → Block src level o n xs → BlockComplete level o n xs
  block_complete (is_block {level = level} {offset = o} {size = n} {start = start} {q = q} {xs = xs} m h r t) = block_whole level o n start q m xs h (run_complete r) t

  pub entry_complete : {level p q : ℕ} {xs : List Item} → Entry src level p q xs → EntryComplete level p q xs
  entry_complete (is_message {p = p} {q = q} {m = m} h) = λ levels s k f. entry_message levels p q m s h f
  entry_complete (is_continuation {level = level} {p = p} {q = q} {offset = o} {length = n} {xs = xs} h d b) = continued level p q o n xs h d (block_complete b)
