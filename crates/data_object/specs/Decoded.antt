-- What decoding an object header into a lent table yields, for every input. Assumes nothing: these are definitions.
use Rattle.std.specs.Prelude.{ℕ, ◌+◌, ◌/◌, ◌≤◌, ◌≡◌, List, [], length, take, drop, replicate, leb, Result, Ok, Err}
use Rattle.format.specs.Format.{Out, found, refused, pick}
use Rattle.records.specs.Refusals.{refusal_number}
use Rattle.records.specs.declared.Part.{Part}
use Rattle.records.specs.declared.Refusal.{Refusal}
use Rattle.row.specs.Rows.{row_words}
use Rattle.row.specs.Clearing.{table}
use Rattle.grammar.specs.Grammar.{Item}
use Rattle.grammar.specs.Table.{messages_of, messages, rows_of}
use Rattle.grammar.specs.Walk.{Went, reached, stopped, lent}
use Rattle.data_object_header.specs.Headers.{decode, Checkable}
use Rattle.data_object_winners.specs.Wins.{Wins, defaults, wins_of}
use Rattle.data_object.specs.declared.DataObject.{DataObject}

-- next position and count, or the number of a refusal
abbrev pub answer_out : Result (ℕ × ℕ) Refusal → Out ℕ
answer_out (Ok (next, count)) = found count next
answer_out (Err r) = refused (refusal_number r)

-- of the definition's items the count
abbrev pub counts : Went (List Item) → Out ℕ
counts (reached xs next) = found (length xs) next
counts (stopped r n) = refused r

-- and the rows, of a refusal none
abbrev pub rows_in : Went (List Item) → ℕ
rows_in (reached xs next) = messages xs
rows_in (stopped r n) = 0

-- the records that are handed back
abbrev pub wins_in : DataObject → Wins
wins_in r = record { ds = r.ds; dt = r.dt; li = r.li; gi = r.gi; ai = r.ai; layout = r.layout }

-- Over a file, the widths of offsets and lengths, an end-of-file address, a header position and a table of n words, which ends as t.
module _ (file : List ℕ) (offsets lengths end at n : ℕ) where
  -- what the definition gives, with so many words lent
  abbrev pub decoded : Went (List Item)
  decoded = decode file offsets lengths end at (lent (n / row_words))

  -- widths of 2 to 8 bytes, a file of at most 2,147,483,648 bytes, and a reading of at most 4,096 entries, with no more messages than rows
  pub record Readable (next : ℕ) (xs : List Item) : Type 0 where
    pub checkable : Checkable file offsets lengths end at next xs
    pub room : messages xs ≤ n / row_words

  -- an accepted header: its reading, and what is handed back of it; the table holds its messages, one a row, in its order, then zeros
  pub record Accepted (next count : ℕ) (r : DataObject) (t : List ℕ) : Type 0 where
    pub items : List Item
    pub readable : Readable next items
    pub entries : count ≡ length items
    pub rows : r.rows ≡ messages items
    pub table : t ≡ table n (rows_of items)
    pub records : wins_in r ≡ wins_of (messages_of items)

  -- a header that is refused: it has no such reading, the table is all zero, and no row and no record but the defaults is handed back
  pub record Rejected (r : DataObject) (t : List ℕ) : Type 0 where
    pub none : (next : ℕ) (xs : List Item) → Readable next xs → ⊥
    pub rows : r.rows ≡ 0
    pub table : t ≡ replicate n 0
    pub records : wins_in r ≡ defaults

  -- by the answer
  abbrev pub Meant : Result (ℕ × ℕ) Refusal → DataObject → List ℕ → Type 0
  Meant (Ok (next, count)) r t = Accepted next count r t
  Meant (Err x) r t = Rejected r t

  -- The contract. The definition gives next position, count and rows, or the refusal's number. What is accepted has a reading, with its end, its
  -- entries, its messages in the table and its records; and whatever has a reading is accepted, with it.
  pub record Decoded (r : DataObject) (t : List ℕ) : Type 0 where
    pub answer : answer_out r.answer ≡ counts decoded
    pub rows : r.rows ≡ rows_in decoded
    pub meant : Meant r.answer r t
    pub accepts : (next : ℕ) (xs : List Item) → Readable next xs → r.answer ≡ Ok (next, length xs)

-- the bytes of a part of the file; none where it leaves the file
abbrev pub bytes_of : List ℕ → Part → List ℕ
bytes_of file p = pick (leb (p.position + p.length) (length file)) (take p.length (drop p.position file)) []
