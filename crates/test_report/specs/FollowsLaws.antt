-- Laws of comparing. Assumes nothing.
use Rattle.std.specs.Prelude.{ℕ, ◌+◌, ◌-◌, ◌<◌, ◌≡◌, refl, Bool, true, false, List, [], ◌∷◌, ◌++◌, length, drop, leb, Option, Some, None}
use Rattle.std.proofs.Common.{sym, ap, ◌∙◌, append_assoc, append-nil, arith, length-append, length-drop, drop_of_length-le, drop-drop, leb-true, le-leb}
use Rattle.std.proofs.lemmas.Bool.{false≢true}
use Rattle.std.proofs.lemmas.List.{append_cancel_left}
use Rattle.std.proofs.lemmas.Slice.Eq.{starts_is}
use Rattle.std.proofs.lemmas.Bool.Decides.{Decides-eqb}
use Rattle.std.proofs.lemmas.Slice.{between_to_end}
use Rattle.std.specs.List.{starts_with, between, FoldsTo}
use lib.Dec.{eqb}
use Rattle.row.specs.declared.Row.{Row}
use Rattle.test_report.specs.Report.{lines_of}
use Rattle.test_report.specs.Follows.{Meets, Follows, Whole}

follow : (s xs ys : List ℕ) (a b c : Option ℕ) → Meets s a b xs → Meets s b c ys → Meets s a c (xs ++ ys)
follow s xs ys (Some p) (Some q) (Some r) v w = v ∙ ap (λ (l : List ℕ). xs ++ l) w ∙ sym (append_assoc xs ys (drop r s))
follow s xs ys (Some p) (Some q) None v w = λ zs e. w zs (append_cancel_left xs (drop q s) (ys ++ zs) (sym v ∙ e ∙ append_assoc xs ys zs))
follow s xs ys (Some p) None (Some r) v w = absurd w
follow s xs ys (Some p) None None v w = λ zs e. v (ys ++ zs) (e ∙ append_assoc xs ys zs)
follow s xs ys None (Some q) c v w = absurd v
follow s xs ys None None (Some r) v w = w
follow s xs ys None None None v w = tt

-- one text after another
pub then : {s : List ℕ} {a b c : Option ℕ} {xs ys : List ℕ} → Follows s a b xs → Follows s b c ys → Follows s a c (xs ++ ys)
then {s} {a} {b} {c} {xs} {ys} v w = record { meets = follow s xs ys a b c v.meets w.meets }

none : (s : List ℕ) (a : Option ℕ) → Meets s a a []
none s (Some p) = refl
none s None = tt

pub follows_none : (s : List ℕ) (a : Option ℕ) → Follows s a a []
follows_none s a = record { meets = none s a }

module _ (s xs : List ℕ) (p : ℕ) where
  pub met_none : length xs ≡ 0 → Follows s (Some p) (Some p) xs
  met_none e = record { meets = ap (λ (l : List ℕ). l ++ drop p s) (sym (empty xs e)) }
    where
      empty : (l : List ℕ) → length l ≡ 0 → l ≡ []
      empty [] e = refl
      empty (x ∷ l) e = absurd (omega arith)

  -- too few bytes are left
  pub too_few : length s - p < length xs → Follows s (Some p) None xs
  too_few h = record { meets = λ zs e. omega (arith, length-drop p s, ap length e, length-append xs zs) }

  -- the place is behind the end
  pub behind_end : length s < p → (length xs ≡ 0 → ⊥) → Follows s (Some p) None xs
  behind_end h k = record { meets = λ zs e. omega (arith, length-drop p s, ap length e, length-append xs zs) }

  -- what is left begins with xs, or not
  module _ (rest : List ℕ) (r : rest ≡ between p (length s) s) (b : Bool) (h : b ≡ starts_with eqb rest xs) where
    left : rest ≡ drop p s
    left = r ∙ between_to_end s p (length s) (omega arith)

    begins : (b ≡ true → rest ≡ xs ++ drop (length xs) rest) × ((zs : List ℕ) → rest ≡ xs ++ zs → b ≡ true)
    begins = starts_is Decides-eqb rest xs b h

    pub next_is : b ≡ true → Follows s (Some p) (Some (p + length xs)) xs
    next_is t = record { meets = sym left ∙ begins.0 t ∙ ap (λ (l : List ℕ). xs ++ drop (length xs) l) left ∙ ap (λ (l : List ℕ). xs ++ l) (drop-drop (length xs) p s) }

    pub next_is_not : b ≡ false → Follows s (Some p) None xs
    next_is_not f = record { meets = λ zs e. false≢true (sym f ∙ begins.1 zs (left ∙ e)) }

-- a text that was met from the start on is all, exactly where nothing is left
pub whole_at : (s : List ℕ) (q : ℕ) → Whole s (Some q) (leb (length s) q)
whole_at s q xs f = (
  λ h. sym (f.meets ∙ ap (λ (l : List ℕ). xs ++ l) (drop_of_length-le s (leb-true (length s) q h)) ∙ append-nil xs),
  λ e. le-leb (length s) q (omega (arith, length-drop q s, ap length f.meets, length-append xs (drop q s), ap length e)),
)

pub whole_not : (s : List ℕ) → Whole s None false
whole_not s xs f = (λ h. absurd (false≢true h), λ e. absurd (f.meets [] (sym e ∙ sym (append-nil xs))))

-- one row after another, where each call meets the line of its row
pub each : {R : Option ℕ → Row → Option ℕ → Type 0} (s : List ℕ) (line : Row → List ℕ) (rs : List Row) (a b : Option ℕ) → FoldsTo R a rs b
    → ((m : Option ℕ) (r : Row) (n : Option ℕ) → R m r n → Follows s m n (line r)) → Follows s a b (lines_of line rs)
each s line [] a b e h = rw (← e) (follows_none s a)
each s line (r ∷ rs) a b (m, w, k) h = then (h a r m w) (each s line rs m b k h)
