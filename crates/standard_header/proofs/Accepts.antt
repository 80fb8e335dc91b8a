-- A header of the specification that no listed limit or refusal turns back passes the check, and is accepted by the call, with exactly its messages.
-- Assumes nothing.
use Rattle.std.specs.Prelude.{ℕ, ◌≡◌, refl, List, length, Result, Ok}
use Rattle.std.proofs.Common.{subst, ap, ◌∙◌, arith}
use Rattle.records.specs.declared.Refusal.{Refusal}
use Rattle.row.specs.Clearing.{table}
use Rattle.parser.specs.States.{state_for}
use Rattle.grammar.specs.Grammar.{Item}
use Rattle.grammar.specs.Table.{messages, messages_of, rows_of}
use Rattle.data_object_header.specs.Headers.{Checkable}
use Rattle.data_object_header.specs.HeaderLaws.{header_unique}
use Rattle.data_object_winners.specs.Wins.{wins_of}
use Rattle.data_object_check.specs.declared.HeaderFigures.{HeaderFigures}
use Rattle.data_object_check.specs.Checked.{Checked}
use Rattle.data_object.specs.declared.DataObject.{DataObject}
use Rattle.data_object.specs.Decoded.{Accepted, Meant, Decoded}
use Rattle.standard.specs.Headers.{HeaderMessage}
use Rattle.standard_header.specs.Same.{no_continuations}
use Rattle.standard_header.specs.ReadHeaders.{CheckedObjectHeader, ReadObjectHeader, next_after}
use Rattle.standard_header.specs.AcceptedAs.{AcceptedAs}
use Rattle.standard_header.proofs.AsLaws.{entries_counted}
use Rattle.standard_header.proofs.HeaderReads.{HeaderRead, header_has_reading}

-- Over a file, the widths of offsets and lengths, an end-of-file address, and a header position.
module _ (file : List ℕ) (offsets lengths end at : ℕ) (xs : List HeaderMessage) where
  -- the header's reading, within the limits, and its numbers
  record Read (h : CheckedObjectHeader file offsets lengths end at xs) : Type 0 where
    of : HeaderRead file (state_for offsets lengths end) at xs h.header h.messages_read
    checkable : Checkable file offsets lengths end at (next_after h.header) of.items
    entry_count : length of.items ≡ length xs
    row_count : messages of.items ≡ length (no_continuations xs)

  has_reading : (h : CheckedObjectHeader file offsets lengths end at xs) → Read h
  has_reading h =
      let s = state_for offsets lengths end in
      let y = header_has_reading file s at xs h.header h.messages_read h.prefix_read h.few_levels in
      let k = entries_counted file s xs h.messages_read y.items y.related in
      record { of = y; checkable = record { widths = h.widths; small = h.small; reading = y.reading; few = omega (arith, k.0, h.few) }; entry_count = k.0; row_count = k.1 }

  -- the check passes it, with its end and its numbers
  pub header_passes : (h : CheckedObjectHeader file offsets lengths end at xs) (a : Result HeaderFigures Refusal) → Checked file offsets lengths end at a
      → a ≡ Ok (record { next = next_after h.header; entries = length xs; rows = length (no_continuations xs) })
  header_passes h a c =
      let y = has_reading h in
      c.accepts (next_after h.header) y.of.items y.checkable ∙ figured (next_after h.header) y.entry_count y.row_count
    where
      figured : (next : ℕ) {i j k l : ℕ} → i ≡ j → k ≡ l → ◌≡◌ {A = Result HeaderFigures Refusal} (Ok (record { next = next; entries = i; rows = k })) (Ok (record { next = next; entries = j; rows = l }))
      figured next e d = rw (e, d) refl

  -- and with a table of n words, which has the rows: the call accepts it
  pub header_is_accepted : (n : ℕ) (h : ReadObjectHeader file offsets lengths end at n xs) (r : DataObject) (t : List ℕ) → Decoded file offsets lengths end at n r t
      → AcceptedAs file offsets lengths end at n xs h.checked r t
  header_is_accepted n h r t d =
      let y = has_reading h.checked in
      let is = y.of.items in
      let next = next_after h.checked.header in
      let f : r.answer ≡ Ok (next, length xs) = d.accepts next is (record { checkable = y.checkable; room = omega (arith, y.row_count, h.room) }) ∙ ap (λ (c : ℕ). Ok (next, c)) y.entry_count in
      let a : Accepted file offsets lengths end at n next (length xs) r t = subst (λ (x : Result (ℕ × ℕ) Refusal). Meant file offsets lengths end at n x r t) f d.meant in
      let u = header_unique file (state_for offsets lengths end) at next next a.items is a.readable.checkable.reading y.of.reading in
      record {
        answer = f;
        row_count = a.rows ∙ ap messages u.1 ∙ y.row_count;
        items = is;
        entries = y.of.related;
        table_rows = a.table ∙ ap (λ (zs : List Item). table n (rows_of zs)) u.1;
        records = a.records ∙ ap (λ (zs : List Item). wins_of (messages_of zs)) u.1;
      }
