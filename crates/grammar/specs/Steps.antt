-- The definition one step at a time: by how its tests come out, each of its parts is what follows. Assumes nothing.
use Rattle.std.specs.Prelude.{ℕ, suc, ◌+◌, ◌-◌, ◌≤◌, ◌<◌, ◌≡◌, true, List, [], ◌∷◌, ◌++◌}
use Rattle.std.proofs.Common.{◌∙◌, le-leb, lt-ltb}
use Rattle.std.proofs.lemmas.Bool.{lt-leb}
use Rattle.format.specs.Format.{found, read}
use Rattle.grammar.specs.Message.{Message, Held, message, continuation}
use Rattle.grammar.specs.Grammar.{Source, Item, item, ochk, block_end}
use Rattle.grammar.specs.Walk.{Went, reached, stopped, and_then, Count, counted, opened, Limits, hold, entry_by, run_by, block_by}
use Rattle.grammar.specs.WalkLaws.{choose_yes, choose_no, then_reached, then_stopped, found_then}

-- items before those that are reached
abbrev pub before : List Item → Went (List Item) → Went (List Item)
before xs o = and_then o (λ ys q. reached (xs ++ ys) q)

module _ (src : Source) (l : Limits) where
  module _ (entry : ℕ → Count → Went (List Item)) (turns e p : ℕ) (s : Count) where
    pub run_ends : e < p + src.prefix → run_by src l entry (suc turns) e p s ≡ reached [] p
    unfolding run_by
    run_ends h = choose_no _ _ (lt-leb _ _ h)

    pub run_goes : (m : ℕ) (xs : List Item) → p + src.prefix ≤ e → entry p s ≡ reached xs m → run_by src l entry (suc turns) e p s ≡ before xs (run_by src l entry turns e m (counted s xs))
    unfolding run_by
    run_goes m xs h f = choose_yes _ _ (le-leb _ _ h) ∙ then_reached _ f

    pub run_stops : (r n : ℕ) → p + src.prefix ≤ e → entry p s ≡ stopped r n → run_by src l entry (suc turns) e p s ≡ stopped r n
    unfolding run_by
    run_stops r n h f = choose_yes _ _ (le-leb _ _ h) ∙ then_stopped _ f

  module _ (block : Count → ℕ → ℕ → Went (List Item)) (p : ℕ) (s : Count) where
    module _ (h : s.entries < l.entries) where
      pub entry_own : (x : Held) (q : ℕ) → read src.file src.entry p ≡ found x q → entry_by src l block p s ≡ hold src l block s p x q
      unfolding entry_by
      entry_own x q f = choose_yes _ _ (lt-ltb _ _ h) ∙ found_then _ _ f

      module _ (m : Message) (q : ℕ) (f : read src.file src.entry p ≡ found (message m) q) where
        pub entry_kept : l.fits s.rows ≡ true → entry_by src l block p s ≡ reached (item p q (message m) ∷ []) q
        unfolding hold
        entry_kept i = entry_own (message m) q f ∙ choose_yes _ _ i

      module _ (o n q : ℕ) (f : read src.file src.entry p ≡ found (continuation o n) q) where
        pub entry_opened : (m : ℕ) (xs : List Item) → block (opened s) o n ≡ reached xs m → entry_by src l block p s ≡ reached (item p q (continuation o n) ∷ xs) q
        unfolding hold
        entry_opened m xs i = entry_own (continuation o n) q f ∙ then_reached _ i

  module _ (entry : ℕ → Count → Went (List Item)) (s : Count) (o n : ℕ) where
    module _ (start : ℕ) (h : read src.file ochk o ≡ found tt start) where
      module _ (q : ℕ) (xs : List Item) (f : run_by src l entry (suc l.entries) (o + n - 4) start s ≡ reached xs q) where
        pub block_closed_lem : (m : ℕ) → read src.file (block_end src.sum o (o + n) q) q ≡ found tt m → block_by src l entry s o n ≡ reached xs m
        unfolding block_by
        block_closed_lem m i = found_then _ _ h ∙ then_reached _ f ∙ found_then _ _ i
