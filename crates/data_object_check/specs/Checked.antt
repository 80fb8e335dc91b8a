-- What checking an object header yields, for every input. Assumes nothing: these are definitions.
use Rattle.std.specs.Prelude.{ℕ, ◌≡◌, List, length, Result, Ok, Err}
use Rattle.format.specs.Format.{Out, found, refused}
use Rattle.records.specs.Refusals.{refusal_number}
use Rattle.records.specs.declared.Refusal.{Refusal}
use Rattle.grammar.specs.Grammar.{Item}
use Rattle.grammar.specs.Table.{messages}
use Rattle.grammar.specs.Walk.{Went, reached, stopped, without_table}
use Rattle.data_object_header.specs.Headers.{decode, Checkable}
use Rattle.data_object_check.specs.declared.HeaderFigures.{HeaderFigures}

-- the figures of a reading: its end, its entries, and a row for each message
abbrev pub figures_of : ℕ → List Item → HeaderFigures
figures_of next xs = record { next = next; entries = length xs; rows = messages xs }

-- figures, or the number of a refusal
abbrev pub check_out : Result HeaderFigures Refusal → Out HeaderFigures
check_out (Ok f) = found f f.next
check_out (Err r) = refused (refusal_number r)

-- the figures of the items that the definition gives, or its refusal
abbrev pub figures : Went (List Item) → Out HeaderFigures
figures (reached xs next) = found (figures_of next xs) next
figures (stopped r n) = refused r

-- Over a file, the widths of offsets and lengths, an end-of-file address and a header position.
module _ (file : List ℕ) (offsets lengths end at : ℕ) where
  -- what the definition gives without a table
  abbrev pub checked : Went (List Item)
  checked = decode file offsets lengths end at without_table

  -- a header that passes: its reading, and its figures
  pub record Passed (f : HeaderFigures) : Type 0 where
    pub items : List Item
    pub checkable : Checkable file offsets lengths end at f.next items
    pub told : f ≡ figures_of f.next items

  -- by the answer; a header that is refused has no such reading
  abbrev pub Meant : Result HeaderFigures Refusal → Type 0
  Meant (Ok f) = Passed f
  Meant (Err x) = (next : ℕ) (xs : List Item) → Checkable file offsets lengths end at next xs → ⊥

  -- The contract. The definition gives the figures, or the refusal's number. What passes has a reading, with its end, its entries and its messages;
  -- and whatever has a reading passes, with it.
  pub record Checked (a : Result HeaderFigures Refusal) : Type 0 where
    pub answer : check_out a ≡ figures checked
    pub meant : Meant a
    pub accepts : (next : ℕ) (xs : List Item) → Checkable file offsets lengths end at next xs → a ≡ Ok (figures_of next xs)
