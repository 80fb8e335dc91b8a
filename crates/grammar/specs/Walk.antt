-- What walking a header's run of entries gives: what stands in it, in the reading's order, or a refusal with its number and the entries begun.
-- Rows, counts and the table are told from the items. Assumes nothing: these are definitions.
use Rattle.std.specs.Prelude.{ℕ, zero, suc, ◌+◌, ◌-◌, ◌≤◌, ◌<◌, ◌≡◌, Bool, true, false, List, [], ◌∷◌, ◌++◌, length, leb, ltb}
use Rattle.format.specs.Format.{Out, found, refused, read}
use Rattle.grammar.specs.Message.{Held, message, continuation}
use Rattle.grammar.specs.Grammar.{Source, Item, item, ochk, block_levels, block_end, header_end}
use Rattle.grammar.specs.Table.{messages}

-- the second or the third, which wait until they are asked
abbrev pub choose : {A : Type 0} → Bool → (Unit {0} → A) → (Unit {0} → A) → A
choose true a b = a tt
choose false a b = b tt

-- Something and the position after it, or the number of a refusal and how many entries were begun.
pub data Went (A : Type 0) : Type 0 where
  reached : A → ℕ → Went A
  stopped : ℕ → ℕ → Went A

-- what follows where something is reached
abbrev pub and_then : {A B : Type 0} → Went A → (A → ℕ → Went B) → Went B
and_then (reached a q) k = k a q
and_then (stopped r n) k = stopped r n

-- what is read where n entries are begun
abbrev pub begun : {A : Type 0} → ℕ → Out A → Went A
begun n (found a q) = reached a q
begun n (refused r) = stopped r n

-- the entries begun and the rows taken before a place of the walk
pub record Count : Type 0 where
  pub entries : ℕ
  pub rows : ℕ

-- after items, and after a continuation's own entry
abbrev pub counted : Count → List Item → Count
counted s xs = record { entries = s.entries + length xs; rows = s.rows + messages xs }

abbrev pub opened : Count → Count
opened s = record { entries = s.entries + 1; rows = s.rows }

-- how many entries are allowed, the number of the refusal of the next, and which rows there are
pub record Limits : Type 0 where
  pub entries : ℕ
  pub beyond : ℕ
  pub fits : ℕ → Bool

-- entries that are allowed
abbrev pub entry_limit : ℕ
entry_limit = 4096

-- with so many rows, and where a message needs none
abbrev pub within : ℕ → ℕ → ℕ → Limits
within entries beyond rows = record { entries = entries; beyond = beyond; fits = λ i. ltb i rows }

abbrev pub without : ℕ → ℕ → Limits
without entries beyond = record { entries = entries; beyond = beyond; fits = λ _. true }

-- the limits of a table with so many rows, and those without a table: the 4,097th entry is 23
abbrev pub lent : ℕ → Limits
lent rows = within entry_limit 23 rows

abbrev pub without_table : Limits
without_table = without entry_limit 23

-- the items xs fit after s: no entry too many, and a row for each message
pub record Fit (l : Limits) (s : Count) (xs : List Item) : Type 0 where
  pub few : s.entries + length xs ≤ l.entries
  pub room : (i : ℕ) → s.rows ≤ i → i < s.rows + messages xs → l.fits i ≡ true

-- no entry begun, no row taken
abbrev pub start : Count
start = record { entries = 0; rows = 0 }

module _ (src : Source) (l : Limits) where
  -- What an entry holds that stands from p to q. A message takes the next row; where there is none, 24, after its entry.
  -- A continuation opens its block; reading resumes after the entry.
  unfoldable pub hold : (Count → ℕ → ℕ → Went (List Item)) → Count → ℕ → Held → ℕ → Went (List Item)
  hold block s p (message m) q = choose (l.fits s.rows) (λ _. reached (item p q (message m) ∷ []) q) (λ _. stopped 24 (s.entries + 1))
  hold block s p (continuation o n) q = and_then (block (opened s) o n) (λ xs _. reached (item p q (continuation o n) ∷ xs) q)

  -- an entry at p; one beyond the limit is refused before its first byte
  unfoldable pub entry_by : (Count → ℕ → ℕ → Went (List Item)) → ℕ → Count → Went (List Item)
  entry_by block p s = choose (ltb s.entries l.entries) (λ _. and_then (begun (s.entries + 1) (read src.file src.entry p)) (hold block s p)) (λ _. stopped l.beyond s.entries)

  -- entries from p while position plus prefix is at most e; there are always turns enough
  unfoldable pub run_by : (ℕ → Count → Went (List Item)) → ℕ → ℕ → ℕ → Count → Went (List Item)
  run_by entry zero e p s = stopped l.beyond s.entries
  run_by entry (suc turns) e p s =
      choose (leb (p + src.prefix) e) (λ _.
      and_then (entry p s) (λ xs m.
      and_then (run_by entry turns e m (counted s xs)) (λ ys q. reached (xs ++ ys) q)))
      (λ _. reached [] p)

  -- a block of n bytes at o: `OCHK`, entries within o + n − 4, and what closes it
  unfoldable pub block_by : (ℕ → Count → Went (List Item)) → Count → ℕ → ℕ → Went (List Item)
  block_by entry s o n =
      and_then (begun s.entries (read src.file ochk o)) (λ _ first.
      and_then (run_by entry (suc l.entries) (o + n - 4) first s) (λ xs q.
      and_then (begun (counted s xs).entries (read src.file (block_end src.sum o (o + n) q) q)) (λ _ m. reached xs m)))

  -- an entry at p, where so many more levels of blocks are allowed; the next is 21
  unfoldable pub entry_at : ℕ → ℕ → Count → Went (List Item)
  entry_at zero = entry_by (λ s o n. stopped 21 s.entries)
  entry_at (suc levels) = entry_by (block_by (entry_at levels))

  -- a run within e from p, where so many more levels are allowed
  unfoldable pub run_at : ℕ → ℕ → ℕ → Count → Went (List Item)
  run_at levels e p s = run_by (entry_at levels) (suc l.entries) e p s

  -- in a header at o, its run from p within e, and what closes it
  unfoldable pub walk : ℕ → ℕ → ℕ → Went (List Item)
  walk o e p =
      and_then (run_at block_levels e p start) (λ xs q.
      and_then (begun (length xs) (read src.file (header_end src.sum o e q) q)) (λ _ m. reached xs m))
