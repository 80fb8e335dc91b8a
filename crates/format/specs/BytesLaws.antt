-- Names and texts: what their lengths are found to be is what holds of them, and nothing else does. Numbers are below their bits. Padding
-- ends at a multiple of 8. Assumes nothing.
use Prim.Native.Nat.{ℕ, zero, suc, ◌+◌, ◌-◌, ◌*◌, ◌%◌, ◌^◌, ◌≤◌, ◌<◌}
use Rattle.std.specs.Prelude.{◌≡◌, ◌⊎◌, Bool, true, false, ◌&&◌, ◌||◌, List, length, leb, ltb, eqb}
use Rattle.std.proofs.Math.Path.{refl, ap}
use Rattle.std.proofs.Common.{sym, ◌∙◌, ⊎_elim, pow-add, pow_mono, eq-eqb, ne_eqb, eqb-true, lt-ltb, le-ltb, ltb-true, le-leb, leb-true, leb-false}
use Rattle.std.proofs.Math.Logic.{inl, inr}
use native.Mathlib.Omega.{arith}
use Rattle.std.proofs.Math.ListN.{get_or, get_or-eq_default}
use Rattle.std.proofs.Math.Nat.{add-zero, zero-add, mul_assoc}
use Rattle.std.proofs.Math.Pow.{pow_pos}
use Rattle.std.proofs.lemmas.Bool.{eqb-false, lt-leb}
use Rattle.format.specs.Bools.{and_left, and_right, and_none}
use Rattle.format.specs.Bytes.{AreBytes, le, all_ones, Named, Trimmed, name_length, text_length, to_multiple_of8}
use Rattle.format.specs.Format.{name_ends}

-- by whether a byte is zero
by_zero : {P : Type 0} (b : ℕ) → (b ≡ 0 → P) → ((b ≡ 0 → ⊥) → P) → P
by_zero {P} b f g = go (eqb b 0) refl
  where
    go : (t : Bool) → eqb b 0 ≡ t → P
    go true e = f (eqb-true b 0 e)
    go false e = g (eqb-false b 0 e)

pub by_le : {P : Type 0} (a b : ℕ) → (a ≤ b → P) → (b < a → P) → P
by_le {P} a b f g = go (leb a b) refl
  where
    go : (t : Bool) → leb a b ≡ t → P
    go true e = f (leb-true a b e)
    go false e = g (leb-false a b e)

-- one byte more
one_more : (w : ℕ) → 2 ^ (8 * suc w) ≡ 256 * 2 ^ (8 * w)
one_more w = let e : 8 * suc w ≡ 8 + 8 * w = omega arith in ap (λ (k : ℕ). 2 ^ k) e ∙ pow-add 2 8 (8 * w)

-- all ones are not zero
pub all_ones_positive : (w : ℕ) → 1 ≤ w → all_ones w ≡ 0 → ⊥
all_ones_positive w h e = omega (arith, pow_mono {i = 1} {j = 8 * w} (omega arith))

module _ (s : List ℕ) where
  -- a number of w bytes is below 2 ^ (8 * w)
  pub le_below : AreBytes s → (p w : ℕ) → le s p w < 2 ^ (8 * w)
  unfolding le
  le_below b p zero = omega arith
  le_below b p (suc w) =
      let h = le_below b (p + 1) w in
      omega (arith, one_more w, b p)

  -- a number of w bytes is all ones where each of its bytes is 255, and nowhere else
  pub bytes_all_ones : (p w : ℕ) → ((i : ℕ) → i < w → get_or s (p + i) 0 ≡ 255) → le s p w ≡ all_ones w
  unfolding le
  bytes_all_ones p zero f = refl
  bytes_all_ones p (suc w) f =
      let next : (i : ℕ) → p + 1 + i ≡ p + suc i = λ i. omega arith in
      let h = bytes_all_ones (p + 1) w (λ i l. ap (λ (k : ℕ). get_or s k 0) (next i) ∙ f (suc i) (omega arith)) in
      let first : p + 0 ≡ p = omega arith in
      let b : get_or s p 0 ≡ 255 = rw first at (f 0 (omega arith)) in
      omega (arith, one_more w, pow_pos (8 * w))

  pub all_ones_bytes : AreBytes s → (p w : ℕ) → le s p w ≡ all_ones w → (i : ℕ) → i < w → get_or s (p + i) 0 ≡ 255
  unfolding le
  all_ones_bytes b p zero e i l = absurd (omega arith)
  all_ones_bytes b p (suc w) e zero l =
      let first : p + 0 ≡ p = omega arith in
      rw first (omega (arith, one_more w, pow_pos (8 * w), b p, le_below b (p + 1) w))
  all_ones_bytes b p (suc w) e (suc i) l =
      let next : p + suc i ≡ p + 1 + i = omega arith in
      let d : le s (p + 1) w ≡ all_ones w = omega (arith, one_more w, pow_pos (8 * w), b p, le_below b (p + 1) w) in
      rw next (all_ones_bytes b (p + 1) w d i (omega arith))

  -- a number of no byte, and of one
  pub le_none : (p : ℕ) → 0 ≡ le s p 0
  unfolding le
  le_none p = refl

  pub le_one : (p : ℕ) → le s p 1 ≡ get_or s p 0
  unfolding le
  le_one p = omega arith

  -- the first m bytes of a number, and the others
  pub le_split : (p m w : ℕ) → le s p m + 2 ^ (8 * m) * le s (p + m) w ≡ le s p (m + w)
  unfolding le
  le_split p zero w = rw (add-zero p, zero-add w) (omega arith)
  le_split p (suc m) w =
      let h = le_split (p + 1) m w in
      let x = le s (p + 1 + m) w in
      let a : p + suc m ≡ p + 1 + m = omega arith in
      let b : suc m + w ≡ suc (m + w) = omega arith in
      let d : 2 ^ (8 * suc m) * x ≡ 256 * (2 ^ (8 * m) * x) = ap (λ (k : ℕ). k * x) (one_more m) ∙ mul_assoc 256 (2 ^ (8 * m)) x in
      rw (a, b, le) (omega arith)

  -- by the first byte
  pub name_zero : (p limit : ℕ) → get_or s p 0 ≡ 0 → name_length s p limit ≡ 0
  unfolding name_length
  name_zero p zero e = refl
  name_zero p (suc limit) e = rw (eq-eqb (get_or s p 0) 0 e, name_length)

  name_more : (p limit : ℕ) → (get_or s p 0 ≡ 0 → ⊥) → name_length s p (suc limit) ≡ suc (name_length s (p + 1) limit)
  unfolding name_length
  name_more p limit e = rw (ne_eqb (get_or s p 0) 0 e, name_length)

  pub name_none : (p limit : ℕ) → limit ≡ 0 → name_length s p limit ≡ 0
  unfolding name_length
  name_none p limit e = rw e

  pub name_past : (p limit : ℕ) → length s ≤ p → name_length s p limit ≡ 0
  name_past p limit h = name_zero p limit (get_or-eq_default s 0 h)

  -- a byte that is not zero, and the rest of the name
  pub name_step : (p q limit m : ℕ) → (get_or s p 0 ≡ 0 → ⊥) → q ≡ p + 1 → limit ≡ suc m → name_length s p limit ≡ suc (name_length s q m)
  name_step p q limit m e d f = rw (f, d) (name_more p m e)

  -- the byte i places after the next is the byte i + 1 places on
  next : (p i : ℕ) → get_or s (p + 1 + i) 0 ≡ get_or s (p + suc i) 0
  next p i = let e : p + 1 + i ≡ p + suc i = omega arith in ap (λ (k : ℕ). get_or s k 0) e

  -- what is found of a name: all but that its end lies in the file
  pub record Scanned (p limit n : ℕ) : Type 0 where
    pub within : n ≤ limit
    pub nonzero : (i : ℕ) → i < n → get_or s (p + i) 0 ≡ 0 → ⊥
    pub ended : (n ≡ limit) ⊎ (get_or s (p + n) 0 ≡ 0)

  scan_more : (p limit n : ℕ) → (get_or s p 0 ≡ 0 → ⊥) → Scanned (p + 1) limit n → Scanned p (suc limit) (suc n)
  scan_more p limit n e r = record { within = omega (arith, r.within); nonzero = nonzero; ended = ⊎_elim (λ d. inl (ap suc d)) (λ d. inr (sym (next p n) ∙ d)) r.ended }
    where
      nonzero : (i : ℕ) → i < suc n → get_or s (p + i) 0 ≡ 0 → ⊥
      nonzero zero h z = e (rw add-zero at z)
      nonzero (suc i) h z = r.nonzero i (omega arith) (next p i ∙ z)

  pub scan : (p limit : ℕ) → Scanned p limit (name_length s p limit)
  unfolding name_length
  scan p zero = record { within = omega arith; nonzero = λ i h z. omega arith; ended = inl refl }
  scan p (suc limit) = by_zero (get_or s p 0)
      (λ e. rw (name_zero p (suc limit) e) (record { within = omega arith; nonzero = λ i h z. omega arith; ended = inr (rw add-zero e) }))
      (λ e. rw (name_more p limit e) (scan_more p limit (name_length s (p + 1) limit) e (scan (p + 1) limit)))

  -- nothing else is found
  pub scan_only : (p limit n : ℕ) → Scanned p limit n → name_length s p limit ≡ n
  unfolding name_length
  scan_only p zero n r = omega (arith, r.within)
  scan_only p (suc limit) zero r = name_zero p (suc limit) (at_zero r.ended)
    where
      at_zero : (0 ≡ suc limit) ⊎ (get_or s (p + 0) 0 ≡ 0) → get_or s p 0 ≡ 0
      at_zero (inl e) = absurd (omega arith)
      at_zero (inr e) = rw add-zero at e
  scan_only p (suc limit) (suc n) r = name_more p limit (rw add-zero at (r.nonzero 0 (omega arith))) ∙ ap suc (scan_only (p + 1) limit n (record { within = omega (arith, r.within); nonzero = λ i h z. r.nonzero (suc i) (omega arith) (sym (next p i) ∙ z); ended = ended r.ended }))
    where
      ended : (suc n ≡ suc limit) ⊎ (get_or s (p + suc n) 0 ≡ 0) → (n ≡ limit) ⊎ (get_or s (p + 1 + n) 0 ≡ 0)
      ended (inl e) = inl (omega arith)
      ended (inr e) = inr (next p n ∙ e)

  -- a name's length is the one that is found, and its end is tested so
  pub named_only : (p limit n : ℕ) → Named s p limit n → (name_length s p limit ≡ n) × (name_ends s p limit n ≡ true)
  named_only p limit n r = (scan_only p limit n (record { within = r.within; nonzero = r.nonzero; ended = ⊎_elim (λ e. inl e) (λ e. inr e.1) r.ended }), ends r.ended)
    where
      ends : (n ≡ limit) ⊎ ((p + n < length s) × (get_or s (p + n) 0 ≡ 0)) → name_ends s p limit n ≡ true
      ends (inl e) = by_end (ltb (p + n) (length s))
        where
          by_end : (t : Bool) → (t || (eqb n limit && leb (p + n) (length s))) ≡ true
          by_end true = refl
          by_end false = rw (eq-eqb n limit e, le-leb (p + n) (length s) r.inside)
      ends (inr e) = rw (lt-ltb (p + n) (length s) e.0)

  pub named_found : (p limit : ℕ) → name_ends s p limit (name_length s p limit) ≡ true → Named s p limit (name_length s p limit)
  named_found p limit e = let r = scan p limit in go (name_length s p limit) r e (ltb (p + name_length s p limit) (length s)) refl
    where
      go : (n : ℕ) → Scanned p limit n → name_ends s p limit n ≡ true → (t : Bool) → ltb (p + n) (length s) ≡ t → Named s p limit n
      go n r e true d =
          let h = ltb-true (p + n) (length s) d in
          record { inside = omega arith; within = r.within; nonzero = r.nonzero; ended = ⊎_elim (λ e. inl e) (λ e. inr (h, e)) r.ended }
      go n r e false d =
          let both : (eqb n limit && leb (p + n) (length s)) ≡ true = rw d at e in
          record { inside = leb-true (p + n) (length s) (and_right (eqb n limit) (leb (p + n) (length s)) both); within = r.within; nonzero = r.nonzero; ended = inl (eqb-true n limit (and_left (eqb n limit) (leb (p + n) (length s)) both)) }

  -- a name past the file has no end in it
  pub name_outside : (p limit n : ℕ) → length s < p → name_ends s p limit n ≡ false
  name_outside p limit n h = rw (le-ltb (p + n) (length s) (omega arith), lt-leb (p + n) (length s) (omega arith)) (and_none (eqb n limit))

  -- by the last byte
  text_zero : (p n : ℕ) → get_or s (p + n) 0 ≡ 0 → text_length s p (suc n) ≡ text_length s p n
  unfolding text_length
  text_zero p n e = rw (eq-eqb (get_or s (p + n) 0) 0 e, text_length)

  text_last : (p n : ℕ) → (get_or s (p + n) 0 ≡ 0 → ⊥) → text_length s p (suc n) ≡ suc n
  unfolding text_length
  text_last p n e = rw (ne_eqb (get_or s (p + n) 0) 0 e, text_length)

  pub text_none : (p n : ℕ) → n ≡ 0 → text_length s p n ≡ n
  unfolding text_length
  text_none p n e = rw e

  -- without its last byte, a zero; with a last byte that is not zero
  pub text_step : (p n m : ℕ) → get_or s (p + m) 0 ≡ 0 → n ≡ suc m → text_length s p n ≡ text_length s p m
  text_step p n m e f = rw f (text_zero p m e)

  pub text_full : (p n m : ℕ) → (get_or s (p + m) 0 ≡ 0 → ⊥) → n ≡ suc m → text_length s p n ≡ n
  text_full p n m e f = rw f (text_last p m e)

  -- one byte more, a zero
  trim_more : (p n l : ℕ) → p + suc n ≤ length s → get_or s (p + n) 0 ≡ 0 → Trimmed s p n l → Trimmed s p (suc n) l
  trim_more p n l h e r = record { inside = h; within = omega (arith, r.within); zeros = λ i a b. by_le (suc i) n (λ c. r.zeros i a c) (λ c. let d : i ≡ n = omega arith in rw d e); last = r.last }

  pub trimmed_found : (p n : ℕ) → p + n ≤ length s → Trimmed s p n (text_length s p n)
  unfolding text_length
  trimmed_found p zero h = record { inside = h; within = omega arith; zeros = λ i a b. absurd (omega arith); last = inl refl }
  trimmed_found p (suc n) h = by_zero (get_or s (p + n) 0)
      (λ e. rw (text_zero p n e) (trim_more p n (text_length s p n) h e (trimmed_found p n (omega arith))))
      (λ e. rw (text_last p n e) (record { inside = h; within = omega arith; zeros = λ i a b. absurd (omega arith); last = inr (let d : suc n - 1 ≡ n = omega arith in rw d e) }))

  -- without the last byte, a zero
  trim_less : (p n l : ℕ) → get_or s (p + n) 0 ≡ 0 → Trimmed s p (suc n) l → Trimmed s p n l
  trim_less p n l e r = record { inside = omega (arith, r.inside); within = by_le l n (λ h. h) (λ h. absurd (full h r.last)); zeros = λ i a b. r.zeros i a (omega arith); last = r.last }
    where
      full : n < l → (l ≡ 0) ⊎ (get_or s (p + (l - 1)) 0 ≡ 0 → ⊥) → ⊥
      full h (inl d) = omega arith
      full h (inr f) = let d : l - 1 ≡ n = omega (arith, r.within) in f (rw d e)

  pub trimmed_only : (p n l : ℕ) → Trimmed s p n l → text_length s p n ≡ l
  unfolding text_length
  trimmed_only p zero l r = omega (arith, r.within)
  trimmed_only p (suc n) l r = by_zero (get_or s (p + n) 0)
      (λ e. text_zero p n e ∙ trimmed_only p n l (trim_less p n l e r))
      (λ e. text_last p n e ∙ by_le l n (λ h. absurd (e (r.zeros n h (omega arith)))) (λ h. omega (arith, r.within)))

-- padding brings n bytes to a multiple of 8, and to the next one
pub padded_to_8 : (n : ℕ) → ((n + to_multiple_of8 n) % 8 ≡ 0) × (to_multiple_of8 n < 8)
padded_to_8 n = (omega arith, omega arith)
