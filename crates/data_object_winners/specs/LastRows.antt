-- One pass over the rows finds where the last message of each type has its body. Assumes nothing.
use Prim.Native.Nat.{ℕ, zero, suc, ◌/◌, ◌≤◌, ◌<◌}
use Rattle.std.specs.Prelude.{◌≡◌, Bool, List, get_or, set, replicate, Some}
use Rattle.std.proofs.Math.Path.{refl}
use Rattle.std.proofs.Common.{sym, arith, get_or-set_other}
use Rattle.std.proofs.Math.Bool.{true, false}
use Rattle.std.proofs.Math.ListN.{length, length-set, length-replicate}
use Rattle.std.proofs.lemmas.List.{get_or-replicate}
use Rattle.std.proofs.Math.Dec.{eqb, ltb}
use Rattle.std.proofs.Math.Seq.{get_or-set_same}
use borrow.Author.Tests.{eqb-true, eqb-false, eq-eqb, ne_eqb, ltb-false}
use Rattle.row.specs.Rows.{row_words, row_at}
use Rattle.format.specs.Format.{pick}
use Rattle.data_object_winners.specs.Winners.{last_in, last_rows, body_of}

module _ (t : List ℕ) where
  -- the rows of all types below 22, none of them yet
  abbrev found : ℕ → List ℕ
  found n = last_rows (replicate 22 0) t n

  long : (n : ℕ) → length (found n) ≡ 22
  unfolding last_rows
  long zero = length-replicate {A = ℕ} 22 0
  long (suc n) = go (ltb (row_at t n).kind 22) (long n)
    where
      go : (b : Bool) → length (found n) ≡ 22 → length (pick b (set (found n) (row_at t n).kind (suc n)) (found n)) ≡ 22
      go true e = simp length-set e
      go false e = e

  -- one row more: another row for its own type, and no change for the rest
  one : (P : ℕ → Type 0) (type n : ℕ) → type < 22 → ((row_at t n).kind ≡ type → P (suc n)) → (((row_at t n).kind ≡ type → ⊥) → P (get_or (found n) type 0)) → P (get_or (found (suc n)) type 0)
  unfolding last_rows
  one P type n h f g = go (ltb (row_at t n).kind 22) (eqb (row_at t n).kind type) refl refl
    where
      go : (b d : Bool) → ltb (row_at t n).kind 22 ≡ b → eqb (row_at t n).kind type ≡ d → P (get_or (pick b (set (found n) (row_at t n).kind (suc n)) (found n)) type 0)
      go true true e k =
          let y : (row_at t n).kind ≡ type = eqb-true (row_at t n).kind type k in
          rw (y, get_or-set_same (found n) type (suc n) 0 (omega (arith, long n))) (f y)
      go true false e k = let y : (row_at t n).kind ≡ type → ⊥ = eqb-false (row_at t n).kind type k in rw (get_or-set_other (found n) (row_at t n).kind type (suc n) 0 (λ z. y (sym z))) (g y)
      go false true e k = let y : (row_at t n).kind ≡ type = eqb-true (row_at t n).kind type k in absurd (omega (arith, ltb-false (row_at t n).kind 22 e))
      go false false e k = g (eqb-false (row_at t n).kind type k)

  -- no row past those that were passed
  last_bound : (type n : ℕ) → type < 22 → get_or (found n) type 0 ≤ n
  unfolding last_rows
  last_bound type zero h = rw (get_or-replicate {A = ℕ} 22 type 0 0 h) (omega arith)
  last_bound type (suc n) h = one (λ k. k ≤ suc n) type n h (λ e. omega arith) (λ e. omega (arith, last_bound type n h))

  -- the body of the last row found is the last body of its type
  last_found : (type n : ℕ) → type < 22 → body_of t (get_or (found n) type 0) ≡ last_in t type n
  unfolding last_rows last_in
  last_found type zero h = rw (get_or-replicate {A = ℕ} 22 type 0 0 h)
  last_found type (suc n) h =
      one (λ k. body_of t k ≡ pick (eqb (row_at t n).kind type) (Some (row_at t n).body) (last_in t type n)) type n h
      (λ e. rw (eq-eqb _ _ e)) (λ e. rw (ne_eqb _ _ e) (last_found type n h))

  -- the same of the list that a pass leaves
  pub last_within : (l : List ℕ) (type n : ℕ) → type < 22 → l ≡ found n → n ≤ length t / row_words → get_or l type 0 ≤ length t / row_words
  last_within l type n h e k = rw e (omega (arith, last_bound type n h))

  pub last_at : (l : List ℕ) (type n : ℕ) → type < 22 → l ≡ found n → body_of t (get_or l type 0) ≡ last_in t type n
  last_at l type n h e = rw e (last_found type n h)
