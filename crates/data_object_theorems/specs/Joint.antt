-- Checking a header and filling a table with it, for every input and table. A header that passes is turned back only as 24, and exactly when its rows
-- exceed the table's; otherwise both have the same figures. A header that the check refuses is refused, with the same number, or with 24 where the
-- table was full before. Assumes nothing: these are definitions.
use Rattle.std.specs.Prelude.{ℕ, ◌/◌, ◌≤◌, ◌<◌, ◌≡◌, List, Result, Ok, Err}
use Rattle.records.specs.Refusals.{refusal_number}
use Rattle.records.specs.declared.Refusal.{Refusal}
use Rattle.records.specs.declared.Refusal.TheVariants as refusals
use Rattle.row.specs.Rows.{row_words}
use Rattle.grammar.specs.Walk.{stopped, entry_limit}
use Rattle.data_object_check.specs.declared.HeaderFigures.{HeaderFigures}
use Rattle.data_object_check.specs.Checked.{checked}
use Rattle.data_object.specs.declared.DataObject.{DataObject}
use Rattle.data_object.specs.Decoded.{Decoded}

-- a header that passed with these figures, filled into a table with so many rows: the same figures, or 24 where its rows exceed them, and only there
pub record Fills (f : HeaderFigures) (rows : ℕ) (o : DataObject) : Type 0 where
  pub same : f.rows ≤ rows → (o.answer ≡ Ok (f.next, f.entries)) × (o.rows ≡ f.rows)
  pub exceeds : rows < f.rows → o.answer ≡ Err refusals.Table
  pub only : (x : Refusal) → o.answer ≡ Err x → (x ≡ refusals.Table) × (rows < f.rows)

-- a header that was refused after so many rows were taken, filled into a table with so many: the same refusal, or 24 where it was full before, and only
-- there
pub record Fails (x : Refusal) (taken rows : ℕ) (o : DataObject) : Type 0 where
  pub same : taken ≤ rows → o.answer ≡ Err x
  pub full : rows < taken → o.answer ≡ Err refusals.Table
  pub only : o.answer ≡ Err refusals.Table → rows < taken

module _ (file : List ℕ) (offsets lengths end at : ℕ) where
  -- A header that the check refuses as x, when so many entries were begun. The rows taken by then are one number for every table of n words, filled
  -- as o: no more than those entries, and than 4,096.
  pub record Refuses (x : Refusal) : Type 0 where
    pub begun : ℕ
    pub taken : ℕ
    pub stops : checked file offsets lengths end at ≡ stopped (refusal_number x) begun
    pub before : taken ≤ begun
    pub few : taken ≤ entry_limit
    pub filled : (n : ℕ) (o : DataObject) (t : List ℕ) → Decoded file offsets lengths end at n o t → Fails x taken (n / row_words) o

  -- by the check's answer
  abbrev pub Joint : Result HeaderFigures Refusal → Type 0
  Joint (Ok f) = (n : ℕ) (o : DataObject) (t : List ℕ) → Decoded file offsets lengths end at n o t → Fills f (n / row_words) o
  Joint (Err x) = Refuses x
