-- What one name is answered with, and answers that are told one after another. Assumes nothing.
use Rattle.std.specs.Prelude.{ℕ, zero, suc, ◌+◌, ◌-◌, ◌≤◌, ◌<◌, ◌≡◌, refl, List, length, take, drop, get_or, set, replicate, Option, Some, Result, Ok}
use Rattle.std.proofs.Common.{◌∙◌, arith, length-set, get_or-set_same, get_or-set_other, below_none, below_more}
use Rattle.std.proofs.lemmas.List.{length-replicate}
use Rattle.records.specs.declared.Refusal.{Refusal}
use Rattle.lookup.specs.Lookup.{Looked}
use Rattle.lookup_names.specs.Names.{name_at, row_plus_one, NameAnswered, Answers}

-- a row that is found is one of the rows
pub row_below : (file table : List ℕ) (rows : ℕ) (name : List ℕ) (r : Result (Option ℕ) Refusal) (i : ℕ) → r ≡ Ok (Some i) → Looked file table rows name r → i < rows
row_below file table rows name r i e l = (rw e at l).1

module _ {file table : List ℕ} {rows : ℕ} {text : List ℕ} {p n : ℕ} where
  pub leaving : length text < p + n → NameAnswered file table rows text (record { position = p; length = n }) 0
  leaving h = record { inside = λ l. absurd (omega arith); leaves = λ _. refl }

  pub looked_up : p + n ≤ length text → (r a : Result (Option ℕ) Refusal) → r ≡ a → Looked file table rows (take (p + n - p) (drop p text)) r
      → NameAnswered file table rows text (record { position = p; length = n }) (row_plus_one a)
  looked_up h r a e l =
      let d : p + n - p ≡ n = omega arith in
      record { inside = λ _. record { answer = a; looked = rw (d, e) at l; same = refl }; leaves = λ g. absurd (omega arith) }

pub zeros : (n k : ℕ) → ◌≡◌ {A = ℕ} (get_or (replicate n 0) k 0) 0
zeros zero k = refl
zeros (suc n) zero = refl
zeros (suc n) (suc k) = zeros n k

-- no name is answered yet, one more is, and all are
module _ {file table : List ℕ} {rows : ℕ} {text names : List ℕ} where
  pub none_answered : (lent : ℕ) {answers : List ℕ} → answers ≡ replicate lent 0 → Answers file table rows text names (length answers) 0 answers
  none_answered lent {answers} e =
      record {
        as_lent = refl;
        each = below_none (λ (k : ℕ). NameAnswered file table rows text (name_at names k) (get_or answers k 0));
        behind = λ k _. rw e (zeros lent k);
      }

  pub one_more : {lent n : ℕ} {answers : List ℕ} (word : ℕ) → n < lent → Answers file table rows text names lent n answers → NameAnswered file table rows text (name_at names n) word
      → Answers file table rows text names lent (n + 1) (set answers n word)
  one_more {n = n} {answers = answers} word l h w =
      let P : ℕ → Type 0 = λ k. NameAnswered file table rows text (name_at names k) (get_or (set answers n word) k 0) in
      record {
        as_lent = length-set answers n word ∙ h.as_lent;
        each = below_more P n
            (λ k lt. rw (get_or-set_other answers n k word 0 (λ e. omega arith)) (h.each k lt))
            (rw (get_or-set_same answers n word 0 (omega (arith, h.as_lent))) w);
        behind = λ k le. rw (get_or-set_other answers n k word 0 (λ e. omega arith)) (h.behind k (omega arith));
      }

  pub all_answered : {lent n m : ℕ} {zeroed answers : List ℕ} → zeroed ≡ replicate lent 0 → n ≡ m → Answers file table rows text names (length zeroed) n answers → Answers file table rows text names lent m answers
  all_answered {lent} e d h = rw (e, length-replicate {A = ℕ} lent 0, d) at h
