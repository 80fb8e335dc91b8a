-- The numbers in the table of a decoded header are the specification's, without a condition on the file: it is one of bytes, and the call says so.
-- Assumes nothing.
use Rattle.std.specs.Prelude.{ℕ, zero, suc, ◌<◌, ◌≡◌, refl, Bool, true, false, List, [], ◌∷◌, ◌++◌, map, ltb, Result, Ok, Err}
use Rattle.std.proofs.Common.{sym, subst, arith, ltb-true, ltb-false}
use Rattle.format.specs.Bytes.{AreBytes}
use Rattle.records.specs.declared.Refusal.{Refusal}
use Rattle.row.specs.declared.Row.{Row}
use Rattle.row.specs.Rows.{row_at, first_rows}
use Rattle.parser.specs.States.{state_for}
use Rattle.grammar.specs.Message.{Message, row_of}
use Rattle.grammar.specs.Table.{messages_of}
use Rattle.grammar.specs.Each.{All}
use Rattle.data_object.specs.declared.DataObject.{DataObject}
use Rattle.data_object.specs.Decoded.{Accepted, Meant, Decoded}
use Rattle.data_object.specs.DecodedLaws.{accepted_rows}
use Rattle.standard_header.specs.Is.{NumberInRow}
use Rattle.standard_header.specs.HeaderIs.{RowIs}
use Rattle.standard_header.proofs.Readings.{reading_is, each_message}

-- P holds of each row, so of those of messages, of the first of two lists and of the second, and of row i
abbrev EachRow : (Row → Type 0) → List Row → Type 0
EachRow P [] = Unit {0}
EachRow P (r ∷ rs) = P r × EachRow P rs

module _ (P : Row → Type 0) where
  each_split : (rs qs : List Row) → EachRow P (rs ++ qs) → EachRow P rs × EachRow P qs
  each_split [] qs h = (tt, h)
  each_split (r ∷ rs) qs h = let s = each_split rs qs h.1 in ((h.0, s.0), s.1)

  each_row : (t : List ℕ) (n : ℕ) → EachRow P (first_rows t n) → (i : ℕ) → i < n → P (row_at t i)
  each_row t zero h i l = absurd (omega arith)
  each_row t (suc n) h i l =
      let s = each_split (first_rows t n) (row_at t n ∷ []) h in
      go (λ k. each_row t n s.0 i k) s.1.0 (ltb i n) refl
    where
      go : (i < n → P (row_at t i)) → P (row_at t n) → (b : Bool) → ltb i n ≡ b → P (row_at t i)
      go f g true e = f (ltb-true i n e)
      go f g false e = let d : i ≡ n = omega (arith, ltb-false i n e) in rw d g

module _ (file : List ℕ) (bytes : AreBytes file) (offsets lengths end at n : ℕ) where
  each_number : (longest flags : ℕ) (ms : List Message) → All (RowIs file (state_for offsets lengths end) longest flags) ms → EachRow (NumberInRow file lengths) (map row_of ms)
  each_number longest flags [] h = tt
  each_number longest flags (m ∷ ms) h = (λ e l k upto x i v. (h.0.number e bytes l k upto x i v).1, each_number longest flags ms h.1)

  accepted_numbers : {next count : ℕ} {r : DataObject} {t : List ℕ} → Accepted file offsets lengths end at n next count r t → (i : ℕ) → i < r.rows → NumberInRow file lengths (row_at t i)
  accepted_numbers {next} {count} {r} {t} a =
      let h = reading_is file (state_for offsets lengths end) 4095 (omega arith) a.readable.checkable.reading in
      each_row (NumberInRow file lengths) t r.rows
      (subst (EachRow (NumberInRow file lengths)) (sym (accepted_rows file offsets lengths end at n a)) (each_number 4095 h.prefix.flags (messages_of a.items) (each_message file (state_for offsets lengths end) 4095 h.entries)))

  -- in the words of the call's contract, of every row that is filled; a header that is refused fills none
  pub decoded_numbers : (r : DataObject) (t : List ℕ) → Decoded file offsets lengths end at n r t → (i : ℕ) → i < r.rows → NumberInRow file lengths (row_at t i)
  decoded_numbers r t d = go r.answer d.meant
    where
      go : (x : Result (ℕ × ℕ) Refusal) → Meant file offsets lengths end at n x r t → (i : ℕ) → i < r.rows → NumberInRow file lengths (row_at t i)
      go (Ok (next, count)) a i l = accepted_numbers a i l
      go (Err y) z i l = absurd (omega (arith, z.rows))
