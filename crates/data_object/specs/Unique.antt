-- Decoding has one answer, since the definition gives the answer and the rows, and a header's one reading the records and the table. Assumes nothing.
use Rattle.std.specs.Prelude.{ℕ, ◌≡◌, List, Result, Ok, Err}
use Rattle.std.proofs.Common.{sym, ap, ◌∙◌}
use Rattle.format.specs.Laws.{never}
use Rattle.records.specs.RefusalLaws.{refusal_unique}
use Rattle.records.specs.declared.Refusal.{Refusal}
use Rattle.row.specs.Clearing.{table}
use Rattle.parser.specs.States.{state_for}
use Rattle.grammar.specs.Grammar.{Item}
use Rattle.grammar.specs.Table.{messages_of, rows_of}
use Rattle.data_object_header.specs.HeaderLaws.{header_unique}
use Rattle.data_object_winners.specs.Wins.{wins_of}
use Rattle.data_object.specs.declared.DataObject.{DataObject}
use Rattle.data_object.specs.Decoded.{answer_out, wins_in, Meant, Decoded}

pub answer_unique : (a b : Result (ℕ × ℕ) Refusal) → answer_out a ≡ answer_out b → a ≡ b
answer_unique (Ok (p, k)) (Ok (q, l)) e = cc
answer_unique (Ok (p, k)) (Err y) e = never (sym e)
answer_unique (Err x) (Ok (q, l)) e = never e
answer_unique (Err x) (Err y) e = ap Err (refusal_unique x y (cc))

module _ (file : List ℕ) (offsets lengths end at n : ℕ) where
  meant_unique : (a b : Result (ℕ × ℕ) Refusal) (o o' : DataObject) {t t' : List ℕ} → Meant file offsets lengths end at n a o t → Meant file offsets lengths end at n b o' t' → (wins_in o ≡ wins_in o') × (t ≡ t')
  meant_unique (Ok (p, k)) (Ok (q, l)) o o' m m' =
      let same = header_unique file (state_for offsets lengths end) at p q m.items m'.items m.readable.checkable.reading m'.readable.checkable.reading in (
        m.records ∙ ap (λ (xs : List Item). wins_of (messages_of xs)) same.1 ∙ sym m'.records,
        m.table ∙ ap (λ (xs : List Item). table n (rows_of xs)) same.1 ∙ sym m'.table,
      )
  meant_unique (Ok (p, k)) (Err y) o o' m m' = absurd (m'.none p m.items m.readable)
  meant_unique (Err x) (Ok (q, l)) o o' m m' = absurd (m.none q m'.items m'.readable)
  meant_unique (Err x) (Err y) o o' m m' = (m.records ∙ sym m'.records, m.table ∙ sym m'.table)

  pub decoded_unique : (o o' : DataObject) (t t' : List ℕ) → Decoded file offsets lengths end at n o t → Decoded file offsets lengths end at n o' t' → (o ≡ o') × (t ≡ t')
  decoded_unique o o' t t' d d' =
      let a = answer_unique o.answer o'.answer (d.answer ∙ sym d'.answer) in
      let r = d.rows ∙ sym d'.rows in
      let m = meant_unique o.answer o'.answer o o' d.meant d'.meant in
      (λ i. record { answer = a i; rows = r i; ds = (m.0 i).ds; dt = (m.0 i).dt; li = (m.0 i).li; gi = (m.0 i).gi; ai = (m.0 i).ai; layout = (m.0 i).layout }, m.1)
