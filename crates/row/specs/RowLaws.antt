-- What was written into a table is read from it, since a row's words are as many as a row has, and stand one after another. Assumes nothing.
use Rattle.std.specs.Prelude.{ℕ, suc, ◌+◌, ◌*◌, ◌≤◌, ◌≡◌, refl, List, [], ◌∷◌, ◌++◌, length, get_or, set, drop, Option, Some, None}
use Rattle.std.proofs.Common.{sym, ap, ◌∙◌, append_assoc, append-nil, arith, length-append, get_or-append-add}
use Rattle.std.proofs.Math.Numerals.{towards_suc}
use Rattle.std.proofs.lemmas.List.Edits.{sets, sets-eq}
use Rattle.std.proofs.Math.Seq.{length-sets}
use Rattle.row.specs.declared.Row.{Row}
use Rattle.row.specs.Rows.{row_words, part_words, words, encode, put_row, put_all, part_at, row_at, first_rows}
use Rattle.records.specs.declared.Part.{Part}

length-part_words : (p : Option Part) → length (part_words p) ≡ 3
length-part_words (Some p) = refl
length-part_words None = refl

pub length-words : (r : Row) → length (words r) ≡ row_words
length-words r =
    let a = part_words r.name in
    let b = part_words r.part in
    let n = r.number_case ∷ r.number_bits ∷ [] in
    omega (arith, length-append a (b ++ n), length-append b n, length-part_words r.name, length-part_words r.part)

pub length-encode : (rs : List Row) → length (encode rs) ≡ length rs * row_words
length-encode [] = refl
length-encode (r ∷ rs) = omega (arith, length-append (words r) (encode rs), length-words r, length-encode rs)

pub length-put_row : (t : List ℕ) (i : ℕ) (r : Row) → length (put_row t i r) ≡ length t
unfolding put_row
length-put_row t i r = length-sets t (i * row_words) (words r)

pub length-put_all : (t : List ℕ) (i : ℕ) (rs : List Row) → length (put_all t i rs) ≡ length t
length-put_all t i [] = refl
length-put_all t i (r ∷ rs) = length-put_all (put_row t i r) (suc i) rs ∙ length-put_row t i r

-- words set one list after another
pub sets-append : (vs ws t : List ℕ) (i : ℕ) → sets t i (vs ++ ws) ≡ sets (sets t i vs) (i + length vs) ws
sets-append [] ws t i = let e : i + 0 ≡ i = omega arith in rw e
sets-append (v ∷ vs) ws t i = let e : i + suc (length vs) ≡ suc i + length vs = omega arith in rw e (sets-append vs ws (set t i v) (suc i))

-- a row's words, and those of the rows after it
next_row : (vs ws t : List ℕ) (i : ℕ) → length vs ≡ row_words → sets (sets t (i * row_words) vs) (suc i * row_words) ws ≡ sets t (i * row_words) (vs ++ ws)
next_row vs ws t i e = let d : suc i * row_words ≡ i * row_words + length vs = omega arith in rw d (sym (sets-append vs ws t (i * row_words)))

put_all-sets : (rs : List Row) (t : List ℕ) (i : ℕ) → put_all t i rs ≡ sets t (i * row_words) (encode rs)
unfolding put_row
put_all-sets [] t i = refl
put_all-sets (r ∷ rs) t i = put_all-sets rs (put_row t i r) (suc i) ∙ next_row (words r) (encode rs) t i (length-words r)

-- rows that fit, from row 0 on: their words, then the rest untouched
pub put_all_eq : (rs : List Row) (t : List ℕ) → length rs * row_words ≤ length t → put_all t 0 rs ≡ encode rs ++ drop (length rs * row_words) t
put_all_eq rs t h =
    let n : 0 + length (encode rs) ≡ length rs * row_words = omega (arith, length-encode rs) in
    put_all-sets rs t 0 ∙ sets-eq (encode rs) t 0 (omega (arith, length-encode rs)) ∙ ap (λ (k : ℕ). encode rs ++ drop k t) n

pub put_all-append : (rs qs : List Row) (t : List ℕ) (i : ℕ) → put_all t i (rs ++ qs) ≡ put_all (put_all t i rs) (i + length rs) qs
put_all-append [] qs t i = let e : i + 0 ≡ i = omega arith in rw e
put_all-append (r ∷ rs) qs t i = let e : i + suc (length rs) ≡ suc i + length rs = omega arith in rw e (put_all-append rs qs (put_row t i r) (suc i))

pub encode-append : (rs qs : List Row) → encode (rs ++ qs) ≡ encode rs ++ encode qs
encode-append [] qs = refl
encode-append (r ∷ rs) qs = ap (λ (x : List ℕ). words r ++ x) (encode-append rs qs) ∙ sym (append_assoc (words r) (encode rs) (encode qs))

-- in a table that holds xs first, what stands from a place behind them on
module _ (xs ys : List ℕ) where
  pub word_behind : (i k : ℕ) → i ≡ length xs + k → get_or (xs ++ ys) i 0 ≡ get_or ys k 0
  word_behind i k e = rw e (get_or-append-add xs ys k 0)

  part_behind : (i k : ℕ) → i ≡ length xs + k → part_at (xs ++ ys) i ≡ part_at ys k
  unfolding part_at
  part_behind i k e = rw (word_behind i k e, word_behind (i + 1) (k + 1) (omega arith), word_behind (i + 2) (k + 2) (omega arith))

-- a row that was written is read
row_read : (r : Row) (ys : List ℕ) → row_at (words r ++ ys) 0 ≡ r
unfolding row_at part_at
row_read r ys = go r.name r.part
  where
    with : Option Part → Option Part → Row
    with name part = record { kind = r.kind; flags = r.flags; size = r.size; body = r.body; name = name; part = part; number_case = r.number_case; number_bits = r.number_bits }

    go : (name part : Option Part) → row_at (words (with name part) ++ ys) 0 ≡ with name part
    go (Some p) (Some q) = refl
    go (Some p) None = refl
    go None (Some q) = refl
    go None None = refl

row_behind : (rs : List Row) (ys : List ℕ) → row_at (encode rs ++ ys) (length rs) ≡ row_at ys 0
unfolding row_at
row_behind rs ys =
    let n = length-encode rs in
    rw (
      word_behind (encode rs) ys (length rs * row_words) 0 (omega (arith, n)),
      word_behind (encode rs) ys (length rs * row_words + 1) 1 (omega (arith, n)),
      word_behind (encode rs) ys (length rs * row_words + 2) 2 (omega (arith, n)),
      word_behind (encode rs) ys (length rs * row_words + 3) 3 (omega (arith, n)),
      part_behind (encode rs) ys (length rs * row_words + 4) 4 (omega (arith, n)),
      part_behind (encode rs) ys (length rs * row_words + 7) 7 (omega (arith, n)),
      word_behind (encode rs) ys (length rs * row_words + 10) 10 (omega (arith, n)),
      word_behind (encode rs) ys (length rs * row_words + 11) 11 (omega (arith, n)),
    )

-- the row behind rs is the one that was written there, whatever follows it
pub row_written : (rs : List Row) (r : Row) (qs : List Row) (ys : List ℕ) → row_at (encode (rs ++ (r ∷ qs)) ++ ys) (length rs) ≡ r
row_written rs r qs ys =
    ap (λ (x : List ℕ). row_at x (length rs)) (ap (λ (x : List ℕ). x ++ ys) (encode-append rs (r ∷ qs)) ∙ append_assoc (encode rs) (encode (r ∷ qs)) ys)
    ∙ row_behind rs (encode (r ∷ qs) ++ ys)
    ∙ ap (λ (x : List ℕ). row_at x 0) (append_assoc (words r) (encode qs) ys)
    ∙ row_read r (encode qs ++ ys)

-- behind the rows pre, the rows rs are read one after another
rows_written : (pre rs : List Row) (ys t : List ℕ) → t ≡ encode (pre ++ rs) ++ ys → first_rows t (length pre + length rs) ≡ first_rows t (length pre) ++ rs
rows_written pre [] ys t e = let d : length pre + 0 ≡ length pre = omega arith in ap (first_rows t) d ∙ sym (append-nil (first_rows t (length pre)))
rows_written pre (r ∷ rs) ys t e =
    let l : length (pre ++ (r ∷ [])) ≡ suc (length pre) = omega (arith, length-append pre (r ∷ [])) in
    let d : length pre + suc (length rs) ≡ length (pre ++ (r ∷ [])) + length rs = omega arith in
    let g : t ≡ encode ((pre ++ (r ∷ [])) ++ rs) ++ ys = e ∙ ap (λ (x : List Row). encode x ++ ys) (sym (append_assoc pre (r ∷ []) rs)) in
    let w : row_at t (length pre) ≡ r = ap (λ (x : List ℕ). row_at x (length pre)) e ∙ row_written pre r rs ys in
    ap (first_rows t) d ∙ rows_written (pre ++ (r ∷ [])) rs ys t g
    ∙ ap (λ (n : ℕ). first_rows t n ++ rs) l
    ∙ ap (λ (x : Row). (first_rows t (length pre) ++ (x ∷ [])) ++ rs) w
    ∙ append_assoc (first_rows t (length pre)) (r ∷ []) rs

-- The law: what was written is read.
pub written_read : (rs : List Row) (ys : List ℕ) → first_rows (encode rs ++ ys) (length rs) ≡ rs
written_read rs ys = let d : length rs ≡ 0 + length rs = omega arith in ap (first_rows (encode rs ++ ys)) d ∙ rows_written [] rs ys (encode rs ++ ys) refl

-- the first four words stored, then name and part, and then the number
module _ (t : List ℕ) (i a b c d e f : ℕ) where
  abbrev pub four : List ℕ
  four = set (set (set (set t i a) (i + 1) b) (i + 2) c) (i + 3) d

  pub row_stored : (p q : Option Part) → set (set (sets (sets four (i + 4) (part_words p)) (i + 7) (part_words q)) (i + 10) e) (i + 11) f
      ≡ sets t i ((a ∷ b ∷ c ∷ d ∷ []) ++ (part_words p ++ (part_words q ++ (e ∷ f ∷ []))))
  row_stored p q =
      let vs = a ∷ b ∷ c ∷ d ∷ [] in
      let ps = part_words p in
      let qs = part_words q in
      let ns = e ∷ f ∷ [] in
      let v : four ≡ sets t i vs = simp towards_suc in
      let n : i + 4 + length ps ≡ i + 7 = omega (arith, length-part_words p) in
      let m : i + 7 + length qs ≡ i + 10 = omega (arith, length-part_words q) in
      let o : i + 11 ≡ suc (i + 10) = omega arith in
      rw (v, sets-append vs (ps ++ (qs ++ ns)) t i, sets-append ps (qs ++ ns) (sets t i vs) (i + 4), n, sets-append qs ns (sets (sets t i vs) (i + 4) ps) (i + 7), m, o)
