-- Laws of the report. Assumes nothing.
use Rattle.std.specs.Prelude.{ℕ, ◌+◌, ◌-◌, ◌≤◌, ◌≡◌, refl, List, [], ◌∷◌, ◌++◌, get_or, Some}
use Rattle.std.proofs.Common.{sym, ap, ◌∙◌, append_assoc, append-nil, add-one, arith}
use Rattle.text.specs.Text.{field}
use Rattle.row.specs.declared.Row.{Row}
use Rattle.row.specs.Rows.{row_at, first_rows}
use Rattle.test_report.specs.Report.{lines_of, figures_of}

module _ (line : Row → List ℕ) where
  lines-append : (rs qs : List Row) → lines_of line (rs ++ qs) ≡ lines_of line rs ++ lines_of line qs
  lines-append [] qs = refl
  lines-append (r ∷ rs) qs = ap (λ (x : List ℕ). line r ++ x) (lines-append rs qs) ∙ sym (append_assoc (line r) (lines_of line rs) (lines_of line qs))

  -- the lines of the first rows of a table, one row more
  pub lines_more : (t : List ℕ) (n : ℕ) → lines_of line (first_rows t (n + 1)) ≡ lines_of line (first_rows t n) ++ line (row_at t n)
  lines_more t n = rw (add-one n) (lines-append (first_rows t n) (row_at t n ∷ []) ∙ ap (λ (x : List ℕ). lines_of line (first_rows t n) ++ x) (append-nil (line (row_at t n))))

-- the words from a place up to i, and one more
pub figures_none : (words : List ℕ) (first : ℕ) → figures_of words first (first - first) ≡ []
unfolding figures_of
figures_none words first = let e : first - first ≡ 0 = omega arith in rw e

pub figures_more : (words : List ℕ) (first i : ℕ) → first ≤ i → figures_of words first (i + 1 - first) ≡ figures_of words first (i - first) ++ field (Some (get_or words i 0)) 44
unfolding figures_of
figures_more words first i h =
    let e : i + 1 - first ≡ i - first + 1 = omega arith in
    let k : first + (i - first) ≡ i = omega arith in
    rw (e, add-one (i - first), k)
