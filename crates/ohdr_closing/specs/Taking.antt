-- The ways of taking a row: into the table, counted alone, or none. Assumes nothing.
use Rattle.std.specs.Prelude.{ℕ, ◌+◌, ◌≤◌, ◌<◌, ◌≡◌, refl, true, List, [], ◌∷◌, length, Option, Some, None}
use Rattle.std.proofs.Common.{sym, ap, ◌∙◌, arith, lt-ltb, le-ltb}
use Rattle.row.specs.declared.Row.{Row}
use Rattle.row.specs.Rows.{put_row}
use Rattle.row.specs.RowLaws.{length-put_row}
use Rattle.grammar.specs.Walk.{reached, stopped}
use Rattle.grammar.specs.WalkLaws.{choose_yes, choose_no}
use Rattle.grammar.specs.Filled.{Walked, state≡}
use Rattle.ohdr_closing.specs.Answers.{Lends, fits, row_taken}
use Rattle.ohdr_closing.specs.declared.Limits.{Limits}
use Rattle.ohdr_closing.specs.declared.Progress.{Progress}

-- a table of the same length lends the same
pub lends_on : {l : Limits} {t u : List ℕ} → length u ≡ length t → Lends l t → Lends l u
lends_on e h = record { room = λ n r. omega (arith, e, h.room n r); none = λ r. e ∙ h.none r }

empty : (t u : List ℕ) → length t ≡ 0 → length u ≡ 0 → t ≡ u
empty [] [] e f = refl
empty [] (x ∷ u) e f = absurd (omega arith)
empty (x ∷ t) u e f = absurd (omega arith)

-- a row is written nowhere where there is no table
nowhere : (t : List ℕ) (i : ℕ) (r : Row) → length t ≡ 0 → t ≡ put_row t i r
nowhere t i r e = empty t (put_row t i r) e (length-put_row t i r ∙ e)

module _ (l : Limits) (p : Progress) (r : Row) (q : ℕ) (t : List ℕ) where
  -- the state after the message
  abbrev after : List ℕ → Walked
  after u = record { entries = p.entries + 1; rows = p.rows + 1; table = u }

  takes : (u : List ℕ) → u ≡ put_row t p.rows r → fits l.rows p.rows ≡ true → reached (after u) q ≡ row_taken l p r q t
  takes u e f = ap (λ (x : Walked). reached x q) (state≡ refl refl e) ∙ sym (choose_yes _ _ f)

  pub stored : (u : List ℕ) {n : ℕ} → l.rows ≡ Some n → p.rows < n → u ≡ put_row t p.rows r → reached (after u) q ≡ row_taken l p r q t
  stored u {n} s h e = takes u e (ap (λ (o : Option ℕ). fits o p.rows) s ∙ lt-ltb _ _ h)

  pub counted : Lends l t → l.rows ≡ None → reached (after t) q ≡ row_taken l p r q t
  counted h s = takes t (nowhere t p.rows r (h.none s)) (ap (λ (o : Option ℕ). fits o p.rows) s)

  pub no_row : {n : ℕ} → l.rows ≡ Some n → n ≤ p.rows → stopped 24 (p.entries + 1) ≡ row_taken l p r q t
  no_row s h = sym (choose_no _ _ (ap (λ (o : Option ℕ). fits o p.rows) s ∙ le-ltb _ _ h))
