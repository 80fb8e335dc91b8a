-- Reading a format finds exactly what stands; no format stands in two ways. Assumes nothing.
use Rattle.std.specs.Prelude.{ℕ, ◌+◌, ◌≤◌, ◌≡◌, ◌↔◌, Bool, true, false, List, length, leb}
use Rattle.std.proofs.Math.Path.{refl}
use Rattle.std.proofs.Common.{sym, ◌∙◌, inl, inr, arith}
use borrow.Author.Tests.{leb-true, le-leb}
use Rattle.format.specs.Bytes.{le, Named, name_length, text_length}
use Rattle.format.specs.BytesLaws.{named_found, named_only, trimmed_found, trimmed_only}
use Rattle.format.specs.Format.{Format, done, refuse, number, skip, bytes, name, text, here, there, attempt, Stands, Out, found, refused, name_ends, read}

-- a refusal is no finding
pub never : {A : Type 0} {P : Type 0} {n : ℕ} {a : A} {q : ℕ} → ◌≡◌ {A = Out A} (refused n) (found a q) → P
never e = let z : ◌≡◌ {A = ℕ} 0 1 = cc in absurd (omega arith)

-- reading F at p finds a value and an end exactly where F stands with them
abbrev pub Agrees : {A : Type 0} → List ℕ → Format A → ℕ → Type 0
Agrees {A} s F p = (q : ℕ) (a : A) → (read s F p ≡ found a q) ↔ Stands s F p q a

-- Where a test is what a condition C says, and reading goes on as P says, both together.
guarded : {A : Type 0} {C P : Type 0} (r : Out A) (a : A) (q : ℕ) → ((r ≡ found a q) ↔ P) → (t : Bool) → (t ≡ true → C) → (C → t ≡ true)
    → (elim t [ true ↦ r | false ↦ refused 3 ] ≡ found a q) ↔ (C × P)
guarded r a q f true g h = (λ e. (g refl, f.0 e), λ w. f.1 w.1)
guarded r a q f false g h = (λ e. never e, λ w. let t : false ≡ true = h w.0 in let z : ◌≡◌ {A = ℕ} 0 1 = cc in absurd (omega arith))

-- The same where what follows is given a length n₀ that is found, and M says what holds of it and of no other.
measured : {A : Type 0} {M P : ℕ → Type 0} (r : ℕ → Out A) (a : A) (q : ℕ) → ((n : ℕ) → (r n ≡ found a q) ↔ P n)
    → (n₀ : ℕ) (t : Bool) → (t ≡ true → M n₀) → ((n : ℕ) → M n → (n₀ ≡ n) × (t ≡ true))
    → (elim t [ true ↦ r n₀ | false ↦ refused 3 ] ≡ found a q) ↔ ((n : ℕ) × M n × P n)
measured r a q f n₀ true g h = (λ e. (n₀, g refl, (f n₀).0 e), λ w. rw (h w.0 w.1).0 ((f w.0).1 w.2))
measured r a q f n₀ false g h = (λ e. never e, λ w. let t : false ≡ true = (h w.0 w.1).1 in let z : ◌≡◌ {A = ℕ} 0 1 = cc in absurd (omega arith))

module _ (s : List ℕ) where
  -- so many bytes are in the file, and reading goes on
  in_file : {A : Type 0} {P : Type 0} (m : ℕ) (r : Out A) (a : A) (q : ℕ) → ((r ≡ found a q) ↔ P)
      → (elim (leb m (length s)) [ true ↦ r | false ↦ refused 3 ] ≡ found a q) ↔ ((m ≤ length s) × P)
  in_file m r a q f = guarded r a q f (leb m (length s)) (leb-true m (length s)) (le-leb m (length s))

  elsewhere : {A B : Type 0} (i : ℕ) (F : Format B) (k : B → Format A) (p : ℕ) → Agrees s F i → ((b : B) → Agrees s (k b) p) → (o : Out B) → read s F i ≡ o → (q : ℕ) (a : A)
      → (elim o [ found b m ↦ read s (k b) p | refused n ↦ refused n ] ≡ found a q) ↔ Stands s (there i F k) p q a
  elsewhere i F k p f g (found b m) e q a = (λ r. (m, b, (f m b).0 e, (g b q a).0 r), back)
    where
      back : Stands s (there i F k) p q a → read s (k b) p ≡ found a q
      back w =
          let u = sym e ∙ (f w.0 w.1).1 w.2 in
          let d : b ≡ w.1 = cc in
          rw d ((g w.1 q a).1 w.3)
  elsewhere i F k p f g (refused n) e q a = (λ r. never r, λ w. never (sym e ∙ (f w.0 w.1).1 w.2))

  attempted : {A B : Type 0} (F : Format B) (k : B → Format A) (G : Format A) (p : ℕ) → Agrees s F p → ((b : B) (m : ℕ) → Agrees s (k b) m) → Agrees s G p
      → (o : Out B) → read s F p ≡ o → (q : ℕ) (a : A)
      → (elim o [ found b m ↦ read s (k b) m | refused n ↦ read s G p ] ≡ found a q) ↔ Stands s (attempt F k G) p q a
  attempted F k G p f g h (found b m) e q a = (λ r. inl (m, b, (f m b).0 e, (g b m q a).0 r), back)
    where
      back : Stands s (attempt F k G) p q a → read s (k b) m ≡ found a q
      back (inl w) =
          let u = sym e ∙ (f w.0 w.1).1 w.2 in
          let d : b ≡ w.1 = cc in
          let j : m ≡ w.0 = cc in
          rw (d, j) ((g w.1 w.0 q a).1 w.3)
      back (inr w) = absurd (w.0 m b ((f m b).0 e))
  attempted F k G p f g h (refused n) e q a = (λ r. inr (λ m b t. never (sym e ∙ (f m b).1 t), (h q a).0 r), back)
    where
      back : Stands s (attempt F k G) p q a → read s G p ≡ found a q
      back (inl w) = never (sym e ∙ (f w.0 w.1).1 w.2)
      back (inr w) = (h q a).1 w.1

  pub agree : {A : Type 0} (F : Format A) (p : ℕ) → Agrees s F p
  unfolding read
  agree (done x) p q a = (λ e. (cc, cc), λ h. cc)
  agree (refuse n) p q a = (λ e. never e, λ h. absurd h)
  agree (number w k) p q a = in_file (p + w) (read s (k (le s p w)) (p + w)) a q (agree (k (le s p w)) (p + w) q a)
  agree (skip n F) p q a = in_file (p + n) (read s F (p + n)) a q (agree F (p + n) q a)
  agree (bytes n F) p q a = in_file (p + n) (read s F (p + n)) a q (agree F (p + n) q a)
  agree (name limit k) p q a =
      measured (λ n. read s (k n) (p + n)) a q (λ n. agree (k n) (p + n) q a)
      (name_length s p limit) (name_ends s p limit (name_length s p limit)) (named_found s p limit) (λ n r. named_test n r)
    where
      named_test : (n : ℕ) → Named s p limit n → (name_length s p limit ≡ n) × (name_ends s p limit (name_length s p limit) ≡ true)
      named_test n r = let w = named_only s p limit n r in (w.0, rw w.0 w.1)
  agree (text n k) p q a =
      measured (λ l. read s (k l) (p + n)) a q (λ l. agree (k l) (p + n) q a)
      (text_length s p n) (leb (p + n) (length s)) (λ t. trimmed_found s p n (leb-true (p + n) (length s) t)) (λ l r. (trimmed_only s p n l r, le-leb (p + n) (length s) r.inside))
  agree (here k) p q a = agree (k p) p q a
  agree (there o F k) p q a = elsewhere o F k p (agree F o) (λ b. agree (k b) p) (read s F o) refl q a
  agree (attempt F k G) p q a = attempted F k G p (agree F p) (λ b m. agree (k b) m) (agree G p) (read s F p) refl q a

  -- what is read stands
  pub sound : {A : Type 0} (F : Format A) (p q : ℕ) (a : A) → read s F p ≡ found a q → Stands s F p q a
  sound F p q a e = (agree F p q a).0 e

  -- what stands is read
  pub complete : {A : Type 0} (F : Format A) (p q : ℕ) (a : A) → Stands s F p q a → read s F p ≡ found a q
  complete F p q a h = (agree F p q a).1 h

  -- no format stands in two ways from one position
  pub unique : {A : Type 0} (F : Format A) (p q q' : ℕ) (a a' : A) → Stands s F p q a → Stands s F p q' a' → (q ≡ q') × (a ≡ a')
  unique F p q q' a a' h h' = let e : found a q ≡ found a' q' = sym (complete F p q a h) ∙ complete F p q' a' h' in (cc, cc)

  -- what is refused stands nowhere
  pub none : {A : Type 0} (F : Format A) (p n : ℕ) → read s F p ≡ refused n → (q : ℕ) (a : A) → Stands s F p q a → ⊥
  none F p n e q a h = never (sym e ∙ complete F p q a h)
