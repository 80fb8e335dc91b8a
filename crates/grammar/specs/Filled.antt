-- A walk that fills a table, as the code goes: what it gives is told from the items, so each step and each turn of a run leads from state to
-- state. Assumes nothing.
use Prim.Native.Nat.{ℕ, ◌+◌, ◌-◌, ◌*◌, ◌≤◌}
use Rattle.std.specs.Prelude.{◌≡◌, List, [], ◌∷◌, ◌++◌, length, drop, eqb}
use Rattle.std.proofs.Math.Path.{refl, ap}
use Rattle.std.proofs.Common.{sym, ◌∙◌, length-append}
use native.Mathlib.Omega.{arith}
use Rattle.format.specs.Format.{read}
use Rattle.grammar.specs.Message.{Held, message, continuation}
use Rattle.row.specs.Rows.{row_words, encode, put_all}
use Rattle.row.specs.RowLaws.{put_all_eq, put_all-append}
use Rattle.grammar.specs.Table.{messages, rows_of}
use Rattle.grammar.specs.TableLaws.{rows_of-append, length-rows_of, messages-append}
use Rattle.grammar.specs.Grammar.{Source, Item, item, ochk, block_end}
use Rattle.grammar.specs.Walk.{choose, Went, reached, stopped, and_then, begun, Count, Limits, entry_at, run_at, walk}
use Rattle.grammar.specs.WalkLaws.{never}
use Rattle.grammar.specs.Steps.{before}

-- how far a walk has come: entries begun, rows taken, the table
pub record Walked : Type 0 where
  pub entries : ℕ
  pub rows : ℕ
  pub table : List ℕ

abbrev pub count : Walked → Count
count s = record { entries = s.entries; rows = s.rows }

-- the state after items
abbrev pub grown : Walked → List Item → Walked
grown s xs = record { entries = s.entries + length xs; rows = s.rows + messages xs; table = put_all s.table s.rows (rows_of xs) }

-- what a walk from s gives, told as a state
abbrev pub tell : Walked → Went (List Item) → Went Walked
tell s o = and_then o (λ xs q. reached (grown s xs) q)

pub state≡ : {e e' r r' : ℕ} {t t' : List ℕ} → e ≡ e' → r ≡ r' → t ≡ t'
    → ◌≡◌ {A = Walked} (record { entries = e; rows = r; table = t }) (record { entries = e'; rows = r'; table = t' })
state≡ p q u = λ i. record { entries = p i; rows = q i; table = u i }

pub grown_none : (s : Walked) → grown s [] ≡ s
grown_none s = state≡ (omega arith) (omega arith) refl

grown-append : (s : Walked) (xs ys : List Item) → grown (grown s xs) ys ≡ grown s (xs ++ ys)
grown-append s xs ys =
    let n : s.rows + messages xs ≡ s.rows + length (rows_of xs) = omega (arith, length-rows_of xs) in
    state≡ (omega (arith, length-append xs ys)) (omega (arith, messages-append xs ys))
    (ap (λ (i : ℕ). put_all (put_all s.table s.rows (rows_of xs)) i (rows_of ys)) n ∙ sym (put_all-append (rows_of xs) (rows_of ys) s.table s.rows)
    ∙ ap (put_all s.table s.rows) (sym (rows_of-append xs ys)))

pub tell_before : (s : Walked) (xs : List Item) (o : Went (List Item)) → tell s (before xs o) ≡ tell (grown s xs) o
tell_before s xs (reached ys q) = ap (λ (x : Walked). reached x q) (sym (grown-append s xs ys))
tell_before s xs (stopped r n) = refl

-- a walk that stops says so
pub untold : (s : Walked) (o : Went (List Item)) {r n : ℕ} → tell s o ≡ stopped r n → o ≡ stopped r n
untold s (reached xs q) e = never (sym e)
untold s (stopped r n) e = cc

-- what rows leave in a table with room for them: their words, then the rest untouched
pub filled_table : (xs : List Item) (t : List ℕ) → messages xs * row_words ≤ length t → put_all t 0 (rows_of xs) ≡ encode (rows_of xs) ++ drop (messages xs * row_words) t
filled_table xs t h =
    put_all_eq (rows_of xs) t (omega (arith, length-rows_of xs)) ∙ ap (λ (n : ℕ). encode (rows_of xs) ++ drop (n * row_words) t) (length-rows_of xs)

module _ (src : Source) (l : Limits) where
  abbrev pub entry_on : ℕ → ℕ → Walked → Went Walked
  entry_on levels p s = tell s (entry_at src l levels p (count s))

  abbrev pub run_on : ℕ → ℕ → ℕ → Walked → Went Walked
  run_on levels e p s = tell s (run_at src l levels e p (count s))

  abbrev pub walk_on : ℕ → ℕ → ℕ → List ℕ → Went Walked
  walk_on o e p t = tell (record { entries = 0; rows = 0; table = t }) (walk src l o e p)

  -- the state in which a block's run begins
  abbrev pub inner : Walked → Walked
  inner s = record { entries = s.entries + 1; rows = s.rows; table = s.table }

  -- What an entry holds that stands from p to q, from state to state, as the code has it: the block is opened and closed around its run.
  abbrev pub hold_on : ℕ → Walked → ℕ → Held → ℕ → Went Walked
  hold_on levels s p (message m) q = choose (l.fits s.rows) (λ _. reached (grown s (item p q (message m) ∷ [])) q) (λ _. stopped 24 (s.entries + 1))
  hold_on levels s p (continuation o n) q =
      choose (eqb levels 0) (λ _. stopped 21 (s.entries + 1)) (λ _.
      and_then (begun (s.entries + 1) (read src.file ochk o)) (λ _ first.
      and_then (run_on (levels - 1) (o + n - 4) first (inner s)) (λ s₁ m.
      and_then (begun s₁.entries (read src.file (block_end src.sum o (o + n) m) m)) (λ _ _. reached s₁ q))))
