-- What stands of a header's reading before a refusal, and how many entries are begun by then. Entry, run, block and reading are the grammar's words.
-- Assumes nothing: these are definitions.
use Rattle.std.specs.Prelude.{ℕ, suc, ◌+◌, ◌-◌, ◌≤◌, ◌<◌, ◌≡◌, false, List, [], ◌∷◌, ◌++◌, length}
use Rattle.format.specs.Format.{Format, Stands}
use Rattle.grammar.specs.Message.{Message, message, continuation}
use Rattle.grammar.specs.Grammar.{Source, Item, item, ochk, block_levels, block_end, header_end, One, Run, Entry}
use Rattle.grammar.specs.Table.{messages}
use Rattle.grammar.specs.Walk.{Count, Limits, Fit}

-- Why a reading goes no further. At an entry: its own field or its closing does not stand, its message finds no row, its block is one level too many,
-- or it is itself one too many. Elsewhere: a header's fields, `OCHK`, or what closes a block or a header does not stand.
pub data Cause : Type 0 where
  own : Cause
  no_row : Cause
  no_level : Cause
  no_entry : Cause
  elsewhere : Cause

-- the entries begun where a reading stops, after those that stand: one where an entry's own field, its closing, 24 or 21 refuses
abbrev pub more : Cause → ℕ
more own = 1
more no_row = 1
more no_level = 1
more no_entry = 0
more elsewhere = 0

-- the number of a refusal for a cause; where fields do not stand, it is theirs, and left open here
abbrev pub Numbered : Limits → Cause → ℕ → Type 0
Numbered l own r = Unit {0}
Numbered l no_row r = r ≡ 24
Numbered l no_level r = r ≡ 21
Numbered l no_entry r = r ≡ l.beyond
Numbered l elsewhere r = Unit {0}

-- nothing of a format stands at p
abbrev pub Nowhere : {A : Type 0} → List ℕ → Format A → ℕ → Type 0
Nowhere {A} file F p = (q : ℕ) (a : A) → Stands file F p q a → ⊥

module _ (src : Source) (l : Limits) where
  mutual
    -- RunStops level before p e xs c: a run from p within e, which the items `before` precede, stops for the cause c, and xs is all that stands in
    -- it until then, in the reading's order. Either an entry stands from p to m, and the run from m stops; or the entry at p stops.
    pub data RunStops : ℕ → List Item → ℕ → ℕ → List Item → Cause → Type 0 where
      after : {level p e m : ℕ} {before xs ys : List Item} {c : Cause} → p + src.prefix ≤ e → Entry src level p m xs → RunStops level (before ++ xs) m e ys c
          → RunStops level before p e (xs ++ ys) c
      at : {level p e : ℕ} {before xs : List Item} {c : Cause} → p + src.prefix ≤ e → EntryStops level before p xs c → RunStops level before p e xs c

    -- EntryStops level before p xs c: the same of an entry at p. Where it is a continuation whose block stops, it stands itself, and what stands in
    -- its block; else nothing of it does.
    pub data EntryStops : ℕ → List Item → ℕ → List Item → Cause → Type 0 where
      too_many : {level p : ℕ} {before : List Item} → l.entries ≤ length before → EntryStops level before p [] no_entry
      fails : {level p : ℕ} {before : List Item} → Nowhere src.file src.entry p → EntryStops level before p [] own
      rowless : {level p : ℕ} {before : List Item} (q : ℕ) (m : Message) → One src p q (message m) → l.fits (messages before) ≡ false → EntryStops level before p [] no_row
      too_deep : {level p : ℕ} {before : List Item} (q offset size : ℕ) → One src p q (continuation offset size) → block_levels < suc level → EntryStops level before p [] no_level
      opens : {level p q offset size : ℕ} {before xs : List Item} {c : Cause} → One src p q (continuation offset size) → suc level ≤ block_levels
          → BlockStops (suc level) (before ++ item p q (continuation offset size) ∷ []) offset size xs c → EntryStops level before p (item p q (continuation offset size) ∷ xs) c

    -- BlockStops level before offset size xs c: the same of a block: it has no `OCHK`, its run stops, or its run is whole and not closed
    pub data BlockStops : ℕ → List Item → ℕ → ℕ → List Item → Cause → Type 0 where
      unsigned : {level offset size : ℕ} {before : List Item} → Nowhere src.file ochk offset → BlockStops level before offset size [] elsewhere
      within : {level offset size start : ℕ} {before xs : List Item} {c : Cause} → Stands src.file ochk offset start tt → RunStops level before start (offset + size - 4) xs c
          → BlockStops level before offset size xs c
      unclosed : {level offset size start q : ℕ} {before xs : List Item} → Stands src.file ochk offset start tt → Run src level start (offset + size - 4) q xs
          → Nowhere src.file (block_end src.sum offset (offset + size) q) q → BlockStops level before offset size xs elsewhere

  -- ReadingStops o p e xs c: in a header at o, its run from p within e stops, or is whole and not closed
  pub data ReadingStops (o p e : ℕ) : List Item → Cause → Type 0 where
    in_run : {xs : List Item} {c : Cause} → RunStops 0 [] p e xs c → ReadingStops o p e xs c
    not_closed : {q : ℕ} {xs : List Item} → Run src 0 p e q xs → Nowhere src.file (header_end src.sum o e q) q → ReadingStops o p e xs elsewhere

-- A refusal as r when n entries are begun, of something that stops as P says, after s: n is the entries before, those that stand, and one more as the
-- cause says; it is within the limit, and what stands fits.
pub record Stopped (l : Limits) (s : Count) (P : List Item → Cause → Type 0) (r n : ℕ) : Type 0 where
  pub items : List Item
  pub cause : Cause
  pub stops : P items cause
  pub number : Numbered l cause r
  pub begun : n ≡ s.entries + length items + more cause
  pub few : n ≤ l.entries
  pub fit : Fit l s items
