-- An entry as the code reads it, with the block that it opens. Each way out of its function is one way through the definition's equation
-- (`entry_on_lem`). Assumes nothing.
use Rattle.std.specs.Prelude.{ℕ, ◌+◌, ◌-◌, ◌≤◌, ◌<◌, ◌≡◌, Bool, true, false, List, length, Result, Ok, Err}
use Rattle.std.proofs.Common.{sym, ap, ◌∙◌, arith, lt-ltb, le-ltb, eq-eqb, ne_eqb}
use Rattle.format.specs.Bits.{bit}
use Rattle.format.specs.Format.{Out, found, read, pick, signature}
use Rattle.format.specs.Laws.{sound}
use Rattle.format.specs.Covers as covers
use Rattle.records.specs.Refusals.{refusal_number}
use Rattle.records.specs.declared.Refusal.{Refusal}
use Rattle.grammar.specs.Message.{Held, continuation}
use Rattle.grammar.specs.Grammar.{ochk}
use Rattle.grammar.specs.Walk.{Went, stopped, and_then, begun}
use Rattle.grammar.specs.WalkLaws.{choose_yes, choose_no, then_reached, then_stopped, found_then, refused_then}
use Rattle.grammar.specs.Filled.{Walked, hold_on}
use Rattle.grammar.proofs.FilledLaws.{entry_on_lem}
use Rattle.ohdr_entry.specs.declared.Continuation.{Continuation}
use Rattle.ohdr_entry.specs.Answers.{entry_out, seen}
use Rattle.ohdr_entry.specs.Entered.{Continued, continued, seen_row, seen_continuation, seen_refused}
use Rattle.ohdr_entry.specs.Entries.{prefix_size, entry}
use Rattle.ohdr_entry.specs.declared.Entry.{Entry}
use Rattle.ohdr_entry.specs.declared.Entry.TheVariants as entries
use Rattle.row.specs.declared.Row.{Row}
use Rattle.ohdr_closing.specs.Answers.{with_entries, row_taken, block_closed, limits_of, walked_of, walk_out}
use Rattle.ohdr_closing.specs.Stopping.{was_value}
use Rattle.ohdr_closing.specs.declared.Limits.{Limits}
use Rattle.ohdr_closing.specs.declared.Progress.{Progress}
use Rattle.ohdr_closing.specs.declared.Stopped.{Stopped}
use Rattle.ohdr_walk.specs.Code.{source_of, entry_of, run_of}
use Rattle.helpers.specs.Answers.{place_out}
use Rattle.helpers.specs.Facts.{met}
use Rattle.ohdr_walk.specs.declared.Header.{Header}

abbrev pub state : ℕ → ℕ → List ℕ → Walked
state entries rows table = record { entries = entries; rows = rows; table = table }

-- a prefix is short
pub prefix_small : (flags : ℕ) → prefix_size flags ≤ 6
prefix_small flags = go (bit flags 2)
  where
    go : (t : Bool) → pick t 6 4 ≤ 6
    go true = omega arith
    go false = omega arith

-- `OCHK` is the mark that the code asks for
signed : (file : List ℕ) (o : ℕ) (r : Result ℕ Refusal) → place_out r ≡ read file (signature 0x4B48434F 20) o → place_out r ≡ read file ochk o
unfolding ochk
signed file o r e = e

-- an entry that was read, by its kind
pub was_entry : (n : ℕ) (r : Result (Entry × ℕ) Refusal) {w : Result (Entry × ℕ) Stopped} {v v' : Entry} {q : ℕ} → w ≡ with_entries n r → w ≡ Ok (v, q) → v ≡ v' → r ≡ Ok (v', q)
was_entry n r {q = q} e f k = was_value n r e f ∙ ap (λ (x : Entry). Ok (x, q)) k

module _ (file : List ℕ) (h : Header) (l : Limits) (levels : ℕ) (p : Progress) (t : List ℕ) where
  abbrev at : Went Walked
  at = entry_of file h l levels p.at (walked_of p t)

  abbrev own : Out Held
  own = read file (entry h.state h.flags) p.at

  pub many : l.entries ≤ p.entries → stopped (refusal_number l.beyond) p.entries ≡ at
  many n = sym (entry_on_lem (source_of file h) (limits_of l) levels p.at (walked_of p t) ∙ choose_no _ _ (le-ltb _ _ n))

  begins : p.entries < l.entries → at ≡ and_then (begun (p.entries + 1) own) (hold_on (source_of file h) (limits_of l) levels (walked_of p t) p.at)
  begins n = entry_on_lem (source_of file h) (limits_of l) levels p.at (walked_of p t) ∙ choose_yes _ _ (lt-ltb _ _ n)

  module _ (n : p.entries < l.entries) {r : Result (Entry × ℕ) Refusal} (f : entry_out r ≡ seen own) where
    pub unread : {x : Refusal} → r ≡ Err x → stopped (refusal_number x) (p.entries + 1) ≡ at
    unread {x} e = sym (begins n ∙ refused_then _ _ (seen_refused own (refusal_number x) (met entry_out f e)))

    pub row_taken_lem : {v : Row} {q : ℕ} → r ≡ Ok (entries.Message v, q) → (t' : List ℕ) (w : Result Progress Stopped) → walk_out w t' ≡ row_taken l p v q t → walk_out w t' ≡ at
    row_taken_lem {v} {q} e t' w i =
        let x = seen_row own v q (met entry_out f e) in
        i ∙ ap (λ (y : Row). row_taken l p y q t) (sym x.same) ∙ sym (begins n ∙ found_then _ _ x.found_it)

    module _ {c : Continuation} {q : ℕ} (e : r ≡ Ok (entries.Continuation c, q)) where
      leads : own ≡ found (continuation c.offset c.length) q
      leads = seen_continuation own c.offset c.length q (met entry_out f e)

      pub ranged : Continued h.state c.offset c.length
      ranged = continued file h.state h.flags p.at q c.offset c.length (sound file (entry h.state h.flags) p.at q _ leads)

      pub deep : levels ≡ 0 → stopped 21 (p.entries + 1) ≡ at
      deep d = sym (begins n ∙ found_then _ _ leads ∙ choose_yes _ _ (eq-eqb _ _ d))

      module _ (d : levels ≡ 0 → ⊥) {m : Result ℕ Refusal} (i : place_out m ≡ read file (signature 0x4B48434F 20) c.offset) where
        pub unsigned : {x : Refusal} → m ≡ Err x → stopped (refusal_number x) (p.entries + 1) ≡ at
        unsigned k = sym (begins n ∙ found_then _ _ leads ∙ choose_no _ _ (ne_eqb _ _ d) ∙ refused_then _ _ (met place_out (signed file c.offset m i) k))

        module _ {start : ℕ} (k : m ≡ Ok start) where
          pub starts_inside : start ≤ length file
          unfolding ochk
          starts_inside = let w = sound file ochk c.offset start tt (met place_out (signed file c.offset m i) k) in covers.inside file ochk c.offset start tt w (omega (arith, w.0))

          module _ (t' : List ℕ) {w : Result Progress Stopped} (j : walk_out w t' ≡ run_of file h l (levels - 1) (c.offset + c.length - 4) start (state (p.entries + 1) p.rows t)) where
            pub unrun : {s : Stopped} → w ≡ Err s → walk_out (Err s) t' ≡ at
            unrun o = sym (begins n ∙ found_then _ _ leads ∙ choose_no _ _ (ne_eqb _ _ d) ∙ found_then _ _ (met place_out (signed file c.offset m i) k) ∙ then_stopped _ (met (λ w. walk_out w t') j o))

            pub block_closed_lem : {p' : Progress} → w ≡ Ok p' → (u : Result Progress Stopped) → ((y : List ℕ) → walk_out u y ≡ block_closed file c.offset (c.offset + c.length) p' q y) → walk_out u t' ≡ at
            block_closed_lem o u z =
                z t' ∙ sym (begins n ∙ found_then _ _ leads ∙ choose_no _ _ (ne_eqb _ _ d) ∙ found_then _ _ (met place_out (signed file c.offset m i) k) ∙ then_reached _ (met (λ w. walk_out w t') j o))
