-- A table that is zero from a place on: one word more at a time, and behind the rows that it holds. Assumes nothing.
use Rattle.std.specs.Prelude.{ℕ, suc, ◌+◌, ◌-◌, ◌*◌, ◌≤◌, ◌<◌, ◌≡◌, List, [], ◌∷◌, ◌++◌, length, get_or, take, drop, set, replicate}
use Rattle.std.proofs.Common.{sym, ap, ap₂, ◌∙◌, append_assoc, arith, length-append, length-take, take-append-drop, drop-cons}
use Rattle.std.proofs.lemmas.List.{length-replicate, replicate-append-replicate, set_at}
use Rattle.std.proofs.Math.Seq.{take-append_seam}
use Rattle.row.specs.declared.Row.{Row}
use Rattle.row.specs.Rows.{row_words, encode}
use Rattle.row.specs.RowLaws.{length-encode}

-- zero from a place on up to i: none of it yet, and one word more
pub cleared_none : (t : List ℕ) (from : ℕ) → t ≡ take from t ++ (replicate (from - from) 0 ++ drop from t)
cleared_none t from = let e : from - from ≡ 0 = omega arith in rw e (sym (take-append-drop from t))

pub cleared_more : (t : List ℕ) (from i : ℕ) → from ≤ i → i < length t
    → set (take from t ++ (replicate (i - from) 0 ++ drop i t)) i 0 ≡ take from t ++ (replicate (i + 1 - from) 0 ++ drop (i + 1) t)
cleared_more t from i h l =
    let a = take from t in
    let z = replicate {A = ℕ} (i - from) 0 in
    let y = get_or t i 0 in
    let ys = drop (suc i) t in
    let n : length (a ++ z) ≡ i = omega (arith, length-append a z, length-take from t, length-replicate {A = ℕ} (i - from) 0) in
    let d : i - from + 1 ≡ i + 1 - from = omega arith in
    let e : suc i ≡ i + 1 = omega arith in
    ap (λ (x : List ℕ). set (a ++ (z ++ x)) i 0) (drop-cons t i 0 l) ∙ ap (λ (x : List ℕ). set x i 0) (sym (append_assoc a z (y ∷ ys)))
    ∙ set_at (a ++ z) y ys 0 i n ∙ append_assoc a z (0 ∷ ys)
    ∙ ap (λ (x : List ℕ). a ++ x) (sym (append_assoc z (0 ∷ []) ys) ∙ ap (λ (x : List ℕ). x ++ ys) (replicate-append-replicate {A = ℕ} (i - from) 1 0)
    ∙ ap₂ (λ (j k : ℕ). replicate j 0 ++ drop k t) d e)

-- a table of n words after rows: their words, then zeros
abbrev pub table : ℕ → List Row → List ℕ
table n rs = encode rs ++ replicate (n - length rs * row_words) 0

-- a whole table, behind no row
pub cleared_all : (t : List ℕ) → take (0 * row_words) t ++ replicate (length t - 0 * row_words) 0 ≡ replicate (length t) 0
cleared_all t = let e : length t - 0 ≡ length t = omega arith in rw e

-- a table that holds rows, cleared behind them
pub cleared_rows : (rs : List Row) (t u : List ℕ) (rows n : ℕ) → rows ≡ length rs → length u ≡ n → u ≡ encode rs ++ drop (length rs * row_words) t
    → take (rows * row_words) u ++ replicate (length u - rows * row_words) 0 ≡ table n rs
cleared_rows rs t u rows n r k e =
    let d : rows * row_words ≡ length (encode rs) = omega (arith, length-encode rs) in
    rw (k, e, d, take-append_seam (encode rs) (drop (length rs * row_words) t), length-encode rs)
