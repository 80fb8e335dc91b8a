-- Which bytes a format covers where it stands, skipped ones too, and that they lie in the file. Assumes nothing.
use Rattle.std.specs.Prelude.{ℕ, ◌+◌, ◌-◌, ◌≤◌, ◌<◌, ◌≡◌, ◌⊎◌, List, length}
use Rattle.std.proofs.Common.{sym, ◌∙◌, inl, inr, arith}
use Rattle.format.specs.Bytes.{le, Named, Trimmed}
use Rattle.format.specs.BytesLaws.{by_le, named_only, trimmed_only}
use Rattle.format.specs.Format.{Format, done, refuse, number, skip, bytes, name, text, here, there, attempt, Stands}
use Rattle.format.specs.Laws.{unique}

-- i is one of the n positions from p
abbrev pub Within : ℕ → ℕ → ℕ → Type 0
Within p n i = (p ≤ i) × (i < p + n)

-- Covers s F p i: F, where it stands at p, covers the byte at i
abbrev pub Covers : {A : Type 0} → List ℕ → Format A → ℕ → ℕ → Type 0
Covers s (done x) p i = ⊥
Covers s (refuse n) p i = ⊥
Covers s (number w k) p i = Within p w i ⊎ Covers s (k (le s p w)) (p + w) i
Covers s (skip n F) p i = Within p n i ⊎ Covers s F (p + n) i
Covers s (bytes n F) p i = Within p n i ⊎ Covers s F (p + n) i
Covers s (name limit k) p i = (n : ℕ) × Named s p limit n × (Within p n i ⊎ Covers s (k n) (p + n) i)
Covers s (text n k) p i = (l : ℕ) × Trimmed s p n l × (Within p n i ⊎ Covers s (k l) (p + n) i)
Covers s (here k) p i = Covers s (k p) p i
Covers s (there {B = B} o F k) p i = (m : ℕ) × (b : B) × Stands s F o m b × (Covers s F o i ⊎ Covers s (k b) p i)
Covers s (attempt {B = B} F k G) p i =
    ((m : ℕ) × (b : B) × Stands s F p m b × (Covers s F p i ⊎ Covers s (k b) m i))
    ⊎ (((m : ℕ) (b : B) → Stands s F p m b → ⊥) × Covers s G p i)

module _ (s : List ℕ) where
  -- bytes in the file, then what follows
  both : {P : Type 0} (p n i : ℕ) → p + n ≤ length s → (P → i < length s) → Within p n i ⊎ P → i < length s
  both p n i h f (inl w) = omega (arith, w.1)
  both p n i h f (inr c) = f c

  -- either of two
  one : {P Q : Type 0} (i : ℕ) → (P → i < length s) → (Q → i < length s) → P ⊎ Q → i < length s
  one i f g (inl c) = f c
  one i f g (inr c) = g c

  -- every byte that a standing format covers lies in the file
  pub covered : {A : Type 0} (F : Format A) (p q : ℕ) (a : A) → Stands s F p q a → (i : ℕ) → Covers s F p i → i < length s
  covered (done x) p q a h i c = absurd c
  covered (refuse n) p q a h i c = absurd c
  covered (number w k) p q a h i c = both p w i h.0 (covered (k (le s p w)) (p + w) q a h.1 i) c
  covered (skip n F) p q a h i c = both p n i h.0 (covered F (p + n) q a h.1 i) c
  covered (bytes n F) p q a h i c = both p n i h.0 (covered F (p + n) q a h.1 i) c
  covered (name limit k) p q a h i c =
      let e : h.0 ≡ c.0 = sym (named_only s p limit h.0 h.1).0 ∙ (named_only s p limit c.0 c.1).0 in
      both p c.0 i c.1.inside (covered (k c.0) (p + c.0) q a (rw e at h.2) i) c.2
  covered (text n k) p q a h i c =
      let e : h.0 ≡ c.0 = sym (trimmed_only s p n h.0 h.1) ∙ trimmed_only s p n c.0 c.1 in
      both p n i c.1.inside (covered (k c.0) (p + n) q a (rw e at h.2) i) c.2
  covered (here k) p q a h i c = covered (k p) p q a h i c
  covered (there o F k) p q a h i c =
      let e = (unique s F o h.0 c.0 h.1 c.1 h.2 c.2).1 in
      one i (covered F o c.0 c.1 c.2 i) (covered (k c.1) p q a (rw e at h.3) i) c.3
  covered (attempt F k G) p q a (inl h) i (inl c) =
      let e = unique s F p h.0 c.0 h.1 c.1 h.2 c.2 in
      one i (covered F p c.0 c.1 c.2 i) (covered (k c.1) c.0 q a (rw (e.0, e.1) at h.3) i) c.3
  covered (attempt F k G) p q a (inl h) i (inr c) = absurd (c.0 h.0 h.1 h.2)
  covered (attempt F k G) p q a (inr h) i (inl c) = absurd (h.0 c.0 c.1 c.2)
  covered (attempt F k G) p q a (inr h) i (inr c) = covered G p q a h.1 i c.1

  -- by whether i is one of the n positions from p
  spanned : {P : Type 0} (p n i : ℕ) → p ≤ i → (p + n ≤ i → P) → Within p n i ⊎ P
  spanned p n i h f = by_le (p + n) i (λ l. inr (f l)) (λ l. inl (h, l))

  -- a standing format covers every byte from its start up to its end
  pub spans : {A : Type 0} (F : Format A) (p q : ℕ) (a : A) → Stands s F p q a → (i : ℕ) → p ≤ i → i < q → Covers s F p i
  spans (done x) p q a h i l u = omega (arith, h.0)
  spans (refuse n) p q a h i l u = absurd h
  spans (number w k) p q a h i l u = spanned p w i l (λ m. spans (k (le s p w)) (p + w) q a h.1 i m u)
  spans (skip n F) p q a h i l u = spanned p n i l (λ m. spans F (p + n) q a h.1 i m u)
  spans (bytes n F) p q a h i l u = spanned p n i l (λ m. spans F (p + n) q a h.1 i m u)
  spans (name limit k) p q a h i l u = (h.0, h.1, spanned p h.0 i l (λ m. spans (k h.0) (p + h.0) q a h.2 i m u))
  spans (text n k) p q a h i l u = (h.0, h.1, spanned p n i l (λ m. spans (k h.0) (p + n) q a h.2 i m u))
  spans (here k) p q a h i l u = spans (k p) p q a h i l u
  spans (there o F k) p q a h i l u = (h.0, h.1, h.2, inr (spans (k h.1) p q a h.3 i l u))
  spans (attempt F k G) p q a (inl h) i l u =
      inl (h.0, h.1, h.2, by_le h.0 i (λ m. inr (spans (k h.1) h.0 q a h.3 i m u)) (λ m. inl (spans F p h.0 h.1 h.2 i l m)))
  spans (attempt F k G) p q a (inr h) i l u = inr (h.0, spans G p q a h.1 i l u)

  -- a format ends no earlier than it starts
  pub forward : {A : Type 0} (F : Format A) (p q : ℕ) (a : A) → Stands s F p q a → p ≤ q
  forward (done x) p q a h = omega (arith, h.0)
  forward (refuse n) p q a h = absurd h
  forward (number w k) p q a h = omega (arith, forward (k (le s p w)) (p + w) q a h.1)
  forward (skip n F) p q a h = omega (arith, forward F (p + n) q a h.1)
  forward (bytes n F) p q a h = omega (arith, forward F (p + n) q a h.1)
  forward (name limit k) p q a h = omega (arith, forward (k h.0) (p + h.0) q a h.2)
  forward (text n k) p q a h = omega (arith, forward (k h.0) (p + n) q a h.2)
  forward (here k) p q a h = forward (k p) p q a h
  forward (there o F k) p q a h = forward (k h.1) p q a h.3
  forward (attempt F k G) p q a (inl h) = omega (arith, forward F p h.0 h.1 h.2, forward (k h.1) h.0 q a h.3)
  forward (attempt F k G) p q a (inr h) = forward G p q a h.1

  -- a format that starts in the file ends in it
  pub inside : {A : Type 0} (F : Format A) (p q : ℕ) (a : A) → Stands s F p q a → p ≤ length s → q ≤ length s
  inside F p q a h l = by_le q p (λ m. omega arith) (λ m. omega (arith, covered F p q a h (q - 1) (spans F p q a h (q - 1) (omega arith) (omega arith))))
