-- Choices, what follows a find, and items within limits: each case by itself. Assumes nothing.
use Rattle.std.specs.Prelude.{ℕ, zero, suc, ◌+◌, ◌≤◌, ◌<◌, ◌≡◌, refl, Bool, true, false, ◌⊎◌, ◌↔◌, List, [], ◌++◌, length, ltb}
use Rattle.std.proofs.Common.{ap, inl, inr, arith, length-append, ltb-true, ltb-false, lt-ltb}
use Rattle.format.specs.Format.{Out, found, refused}
use Rattle.grammar.specs.Grammar.{Item}
use Rattle.grammar.specs.Table.{messages}
use Rattle.grammar.specs.TableLaws.{messages-append}
use Rattle.grammar.specs.Walk.{choose, Went, reached, stopped, and_then, begun, Count, counted, Limits, entry_limit, lent, without_table, start, Fit}

pub choose_yes : {A : Type 0} {b : Bool} (f g : Unit {0} → A) → b ≡ true → choose b f g ≡ f tt
choose_yes f g e = ap (λ x. choose x f g) e

pub choose_no : {A : Type 0} {b : Bool} (f g : Unit {0} → A) → b ≡ false → choose b f g ≡ g tt
choose_no f g e = ap (λ x. choose x f g) e

-- by which way a choice came to x
pub chose : {A : Type 0} {x : A} (b : Bool) (f g : Unit {0} → A) → choose b f g ≡ x → ((b ≡ true) × (f tt ≡ x)) ⊎ ((b ≡ false) × (g tt ≡ x))
chose true f g e = inl (refl, e)
chose false f g e = inr (refl, e)

pub never : {A : Type 0} {P : Type 0} {r n : ℕ} {a : A} {q : ℕ} → ◌≡◌ {A = Went A} (stopped r n) (reached a q) → P
never e = let z : ◌≡◌ {A = ℕ} 0 1 = cc in absurd (omega arith)

-- a choice between something and a refusal that reached something
pub passed : {A : Type 0} {a : A} {q : ℕ} (b : Bool) (f : Unit {0} → Went A) (r n : ℕ) → choose b f (λ _. stopped r n) ≡ reached a q → (b ≡ true) × (f tt ≡ reached a q)
passed true f r n e = (refl, e)
passed false f r n e = never e

pub then_reached : {A B : Type 0} {o : Went A} {a : A} {m : ℕ} (k : A → ℕ → Went B) → o ≡ reached a m → and_then o k ≡ k a m
then_reached k e = ap (λ x. and_then x k) e

pub then_stopped : {A B : Type 0} {o : Went A} {r n : ℕ} (k : A → ℕ → Went B) → o ≡ stopped r n → and_then o k ≡ stopped r n
then_stopped k e = ap (λ x. and_then x k) e

pub found_then : {A B : Type 0} {o : Out A} {a : A} {m : ℕ} (n : ℕ) (k : A → ℕ → Went B) → o ≡ found a m → and_then (begun n o) k ≡ k a m
found_then n k e = ap (λ x. and_then (begun n x) k) e

pub refused_then : {A B : Type 0} {o : Out A} {r : ℕ} (n : ℕ) (k : A → ℕ → Went B) → o ≡ refused r → and_then (begun n o) k ≡ stopped r n
refused_then n k e = ap (λ x. and_then (begun n x) k) e

-- what was reached first, where something was reached after it
pub record First {A B : Type 0} (o : Went A) (k : A → ℕ → Went B) (b : B) (q : ℕ) : Type 0 where
  pub value : A
  pub next : ℕ
  pub first : o ≡ reached value next
  pub then : k value next ≡ reached b q

pub first : {A B : Type 0} {b : B} {q : ℕ} (o : Went A) (k : A → ℕ → Went B) → and_then o k ≡ reached b q → First o k b q
first (reached a m) k e = record { value = a; next = m; first = refl; then = e }
first (stopped r n) k e = never e

pub was_found : {A : Type 0} {a : A} {q : ℕ} (n : ℕ) (o : Out A) → begun n o ≡ reached a q → o ≡ found a q
was_found n (found b m) e = cc
was_found n (refused r) e = never e

-- what is told of the items and the position that are reached
pub same_reached : {A : Type 0} {xs ys : List Item} {p q : ℕ} (f : List Item → ℕ → A) → reached xs p ≡ reached ys q → f xs p ≡ f ys q
same_reached {xs = xs} {ys = ys} {p = p} {q = q} f e =
    let a : p ≡ q = cc in
    let b : xs ≡ ys = cc in
    λ i. f (b i) (a i)

pub fit_none : (l : Limits) (s : Count) → s.entries ≤ l.entries → Fit l s []
fit_none l s h = record { few = omega arith; room = λ i a b. absurd (omega arith) }

pub fit_first : (l : Limits) (s : Count) (xs ys : List Item) → Fit l s (xs ++ ys) → Fit l s xs
fit_first l s xs ys f = record { few = omega (arith, f.few, length-append xs ys); room = λ i a b. f.room i a (omega (arith, messages-append xs ys)) }

pub fit_second : (l : Limits) (s : Count) (xs ys : List Item) → Fit l s (xs ++ ys) → Fit l (counted s xs) ys
fit_second l s xs ys f = record { few = omega (arith, f.few, length-append xs ys); room = λ i a b. f.room i (omega arith) (omega (arith, messages-append xs ys)) }

pub fit-append : (l : Limits) (s : Count) (xs ys : List Item) → Fit l s xs → Fit l (counted s xs) ys → Fit l s (xs ++ ys)
fit-append l s xs ys f g = record {
  few = omega (arith, g.few, length-append xs ys);
  room = λ i a b. go i a b (ltb i (s.rows + messages xs)) refl;
}
  where
    go : (i : ℕ) → s.rows ≤ i → i < s.rows + messages (xs ++ ys) → (t : Bool) → ltb i (s.rows + messages xs) ≡ t → l.fits i ≡ true
    go i a b true e = f.room i a (ltb-true _ _ e)
    go i a b false e = g.room i (ltb-false _ _ e) (omega (arith, messages-append xs ys))

-- what fits a table with so many rows
rows_below : (n k : ℕ) (xs : List Item) → messages xs ≡ k → Fit (lent n) start xs → k ≤ n
rows_below n zero xs e f = omega arith
rows_below n (suc k) xs e f = let h = ltb-true k n (f.room k (omega arith) (omega arith)) in omega arith

pub fit_lent : (n : ℕ) (xs : List Item) → Fit (lent n) start xs ↔ ((length xs ≤ entry_limit) × (messages xs ≤ n))
fit_lent n xs = (λ f. (omega (arith, f.few), rows_below n (messages xs) xs refl f), λ h. record { few = omega (arith, h.0); room = λ i a c. lt-ltb i n (omega (arith, h.1)) })

-- what fits without a table
pub fit_without : (xs : List Item) → Fit without_table start xs ↔ (length xs ≤ entry_limit)
fit_without xs = (λ f. omega (arith, f.few), λ h. record { few = omega (arith, h); room = λ i a c. refl })
