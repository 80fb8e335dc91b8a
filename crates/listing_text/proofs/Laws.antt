-- Laws of the listing. Assumes nothing.
use Rattle.std.specs.Prelude.{ℕ, zero, suc, ◌+◌, ◌*◌, ◌/◌, ◌≤◌, ◌<◌, ◌≡◌, List, [], ◌∷◌, ◌++◌, length, get_or, take, replicate, Result, Ok, Err}
use Rattle.std.proofs.Math.Path.{refl, ap}
use Rattle.std.proofs.Common.{sym, ◌∙◌, append_assoc, append-nil, arith, add-one, length-append, length-take, ne_eqb}
use Rattle.std.proofs.lemmas.List.{length-replicate}
use Rattle.format.specs.Format.{found, refused}
use Rattle.format.specs.Laws.{never}
use Rattle.records.specs.Refusals.{refusal_number}
use Rattle.records.specs.RefusalLaws.{refusal_positive}
use Rattle.records.specs.declared.Refusal.{Refusal}
use Rattle.row.specs.declared.Row.{Row}
use Rattle.row.specs.Rows.{row_words, row_at, first_rows}
use Rattle.text.specs.Text.{Wrote}
use Rattle.grammar.specs.Grammar.{Item}
use Rattle.grammar.specs.Table.{messages}
use Rattle.grammar.specs.Walk.{Went, reached, stopped, lent, without_table}
use Rattle.data_object_header.specs.Headers.{decode}
use Rattle.data_object_header.specs.Passing.{decode_beside}
use Rattle.data_object_check.specs.declared.HeaderFigures.{HeaderFigures}
use Rattle.data_object_check.specs.Checked.{check_out, figures, Checked}
use Rattle.data_object.specs.declared.DataObject.{DataObject}
use Rattle.data_object.specs.Decoded.{answer_out, counts, decoded, Meant, Decoded}
use Rattle.data_object.specs.DecodedLaws.{complete, accepted_rows}
use Rattle.data_object_words.specs.Words.{words_of}
use Rattle.data_object_words.specs.Laws.{rows_word}
use Rattle.data_object_words.specs.Told.{rows_told}
use Rattle.data_object_words.specs.Handed.{Handed}
use Rattle.listing_text.specs.Listing.{line_of, lines_of, refused_of, result_of, words_text, pair_text, header_text, Counts}

lines-append : (i : ℕ) (rs qs : List Row) → lines_of i (rs ++ qs) ≡ lines_of i rs ++ lines_of (i + length rs) qs
lines-append i [] qs = let e : i + 0 ≡ i = omega arith in rw e
lines-append i (r ∷ rs) qs =
    let e : i + suc (length rs) ≡ suc i + length rs = omega arith in
    rw e (ap (λ (x : List ℕ). line_of i r ++ x) (lines-append (suc i) rs qs) ∙ sym (append_assoc (line_of i r) (lines_of (suc i) rs) (lines_of (suc i + length rs) qs)))

length-first : (t : List ℕ) (n : ℕ) → length (first_rows t n) ≡ n
length-first t zero = refl
length-first t (suc n) = omega (arith, length-append (first_rows t n) (row_at t n ∷ []), length-first t n)

-- the lines of the first rows of a table, one row more
pub lines_more : (t : List ℕ) (n : ℕ) → lines_of 0 (first_rows t (n + 1)) ≡ lines_of 0 (first_rows t n) ++ line_of n (row_at t n)
lines_more t n =
    let e : 0 + length (first_rows t n) ≡ n = omega (arith, length-first t n) in
    rw (add-one n) (lines-append 0 (first_rows t n) (row_at t n ∷ []) ∙ ap (λ (k : ℕ). lines_of 0 (first_rows t n) ++ lines_of k (row_at t n ∷ [])) e
    ∙ ap (λ (x : List ℕ). lines_of 0 (first_rows t n) ++ x) (append-nil (line_of n (row_at t n))))

-- what was written from the start on is all that stands before r
pub wrote_all : {o o' : List ℕ} {r : ℕ} {xs : List ℕ} → Wrote o 0 o' r xs → take r o' ≡ xs
wrote_all w = w.same

pub wrote_counts : {o o' : List ℕ} {r : ℕ} {xs : List ℕ} → Wrote o 0 o' r xs → Counts r o'
wrote_counts {o} {o'} {r} {xs} w =
    let e : length (take r o') ≡ length xs = ap length w.same in
    (omega (arith, e, w.next, length-take r o'), omega (arith, e, w.next))

-- what is told by the words of a header is what the definition gives, since its table holds the rows of the definition's items, and no refusal
-- has the number 0
module _ (file : List ℕ) (offsets lengths end at n : ℕ) (r : DataObject) (t : List ℕ) (d : Decoded file offsets lengths end at n r t) where
  pub listed : words_text (words_of r) (first_rows t r.rows) ≡ result_of (decoded file offsets lengths end at n)
  unfolding result_of words_text
  listed = go r.answer refl d.answer d.meant
    where
      refusal : (x : Refusal) (w : Went (List Item)) → refused (refusal_number x) ≡ counts w → refused_of (refusal_number x) ≡ result_of w
      refusal x (reached xs q) e = never e
      refusal x (stopped k m) e = let z : refusal_number x ≡ k = cc in ap refused_of z

      go : (a : Result (ℕ × ℕ) Refusal) → r.answer ≡ a → answer_out a ≡ counts (decoded file offsets lengths end at n) → Meant file offsets lengths end at n a r t
          → words_text (words_of r) (first_rows t r.rows) ≡ result_of (decoded file offsets lengths end at n)
      go (Ok (next, count)) s e m =
          rw (s, m.entries, accepted_rows file offsets lengths end at n m) (sym (ap result_of (complete file offsets lengths end at n next m.items m.readable)))
      go (Err x) s e m = rw (s, ne_eqb (refusal_number x) 0 (refusal_positive x)) (refusal x (decoded file offsets lengths end at n) e)

-- 512 rows are lent
module _ (file : List ℕ) (offsets lengths end at : ℕ) (t w : List ℕ) (h : Handed file offsets lengths end at (length (replicate {A = ℕ} (512 * row_words) 0)) t w) where
  words : length (replicate {A = ℕ} (512 * row_words) 0) / row_words ≡ 512
  words = omega (arith, length-replicate {A = ℕ} (512 * row_words) 0)

  pub lent_listed : words_text w (first_rows t (get_or w 3 0)) ≡ result_of (decode file offsets lengths end at (lent 512))
  lent_listed =
      ap (λ (v : List ℕ). words_text v (first_rows t (get_or v 3 0))) h.words
      ∙ ap (λ (k : ℕ). words_text (words_of h.object) (first_rows t k)) (rows_word h.object)
      ∙ listed file offsets lengths end at (length (replicate {A = ℕ} (512 * row_words) 0)) h.object t h.decoded
      ∙ ap (λ (n : ℕ). result_of (decode file offsets lengths end at (lent n))) words

  pub lent_rows : get_or w 3 0 ≤ 512
  lent_rows = omega (arith, words, rows_told h)

-- the pair: what the check answers decides which text it is
module _ (file : List ℕ) (offsets lengths end at : ℕ) where
  abbrev filled : Went (List Item)
  filled = decode file offsets lengths end at (lent 512)

  refusal_listed : (r : ℕ) (o : Went (List Item)) → refused r ≡ figures o → refused_of r ≡ pair_text o filled
  unfolding pair_text
  refusal_listed r (reached xs next) e = never e
  refusal_listed r (stopped k n) e = let z : r ≡ k = cc in ap refused_of z

  pass_listed : (f : HeaderFigures) (q : ℕ) (o : Went (List Item)) → found f q ≡ figures o → result_of filled ≡ pair_text o filled
  unfolding pair_text
  pass_listed f q (reached xs next) e = refl
  pass_listed f q (stopped k n) e = never (sym e)

  module _ (a : Result HeaderFigures Refusal) (c : Checked file offsets lengths end at a) where
    pub check_refused : (x : Refusal) → a ≡ Err x → refused_of (refusal_number x) ≡ header_text file offsets lengths end at
    unfolding header_text
    check_refused x e = refusal_listed (refusal_number x) (decode file offsets lengths end at without_table) (sym (ap check_out e) ∙ c.answer)

    pub check_passed : (f : HeaderFigures) → a ≡ Ok f → result_of (decode file offsets lengths end at (lent 512)) ≡ header_text file offsets lengths end at
    unfolding header_text
    check_passed f e = pass_listed f f.next (decode file offsets lengths end at without_table) (sym (ap check_out e) ∙ c.answer)

  -- a header that passes its check has a line a row, unless it has more than 512
  pub rows_listed : (xs : List Item) (next : ℕ) → decode file offsets lengths end at without_table ≡ reached xs next
      → ((messages xs ≤ 512 → header_text file offsets lengths end at ≡ result_of (reached xs next)) × (512 < messages xs → header_text file offsets lengths end at ≡ refused_of 24))
  unfolding header_text pair_text result_of
  rows_listed xs next e =
      let b = decode_beside file offsets lengths end at in
      let n : b.taken ≡ 0 + messages xs = b.told xs next e in (
        λ h. ap (λ (o : Went (List Item)). pair_text o filled) e ∙ ap result_of (b.enough 512 (omega arith) ∙ e),
        λ h. ap (λ (o : Went (List Item)). pair_text o filled) e ∙ ap result_of (b.full 512 (omega arith) (omega arith)).1,
      )
