-- A format is refused with the numbers of its tests, or with 3. Assumes nothing.
use Prim.Native.Nat.{ℕ, zero, suc, ◌+◌}
use Rattle.std.specs.Prelude.{◌≡◌, Bool, true, false, List, length, leb}
use Rattle.std.proofs.Common.{sym, ap, ◌∙◌, subst, arith}
use Rattle.format.specs.Bytes.{le, name_length, text_length}
use Rattle.format.specs.Format.{Format, done, refuse, number, skip, bytes, name, text, here, there, attempt, Out, found, refused, name_ends, read, bind, times, pick, check}
use Rattle.format.specs.Refusals as refusals

module _ (allowed : ℕ → Bool) where
  abbrev RefusesWith : {A : Type 0} → Format A → Type 0
  RefusesWith F = refusals.RefusesWith allowed F

  abbrev RefusedWith : {A : Type 0} → Out A → Type 0
  RefusedWith o = refusals.RefusedWith allowed o

  -- no other number
  pub refused_otherwise : {A : Type 0} (n : ℕ) (o : Out A) → allowed n ≡ false → RefusedWith o → o ≡ refused n → ⊥
  refused_otherwise n o e h d =
      let g : allowed n ≡ true = subst (λ (x : Out _). refusals.RefusedWith allowed x) d h in
      let z : ◌≡◌ {A = ℕ} 0 1 = ap (λ (b : Bool). pick b 1 0) (sym e ∙ g) in
      omega arith

  module _ (short : allowed 3 ≡ true) (s : List ℕ) where
    tested : {A : Type 0} (t : Bool) (o : Out A) → RefusedWith o → RefusedWith {A = A} (elim t [ true ↦ o | false ↦ refused 3 ])
    tested true o h = h
    tested false o h = short

    -- by what was read at another place, and by an attempt
    back : {A B : Type 0} (p : ℕ) (k : B → Format A) (r : Out B) → RefusedWith r → ((b : B) → RefusedWith (read s (k b) p))
        → RefusedWith {A = A} (elim r [ found b m ↦ read s (k b) p | refused n ↦ refused n ])
    back p k (found b m) h g = g b
    back p k (refused n) h g = h

    otherwise : {A B : Type 0} (p : ℕ) (k : B → Format A) (G : Format A) (r : Out B) → ((b : B) (m : ℕ) → RefusedWith (read s (k b) m)) → RefusedWith (read s G p)
        → RefusedWith {A = A} (elim r [ found b m ↦ read s (k b) m | refused n ↦ read s G p ])
    otherwise p k G (found b m) h g = h b m
    otherwise p k G (refused n) h g = g

    pub read_refused : {A : Type 0} (F : Format A) (p : ℕ) → RefusesWith F → RefusedWith (read s F p)
    unfolding read
    read_refused (done x) p h = tt
    read_refused (refuse n) p h = h
    read_refused (number w k) p h = tested (leb (p + w) (length s)) _ (read_refused (k (le s p w)) (p + w) (h (le s p w)))
    read_refused (skip n F) p h = tested (leb (p + n) (length s)) _ (read_refused F (p + n) h)
    read_refused (bytes n F) p h = tested (leb (p + n) (length s)) _ (read_refused F (p + n) h)
    read_refused (name limit k) p h =
        let n = name_length s p limit in
        tested (name_ends s p limit n) _ (read_refused (k n) (p + n) (h n))
    read_refused (text n k) p h = tested (leb (p + n) (length s)) _ (read_refused (k (text_length s p n)) (p + n) (h (text_length s p n)))
    read_refused (here k) p h = read_refused (k p) p (h p)
    read_refused (there o F k) p h = back p k (read s F o) (read_refused F o h.0) (λ b. read_refused (k b) p (h.1 b))
    read_refused (attempt F k G) p h = otherwise p k G (read s F p) (λ b m. read_refused (k b) m (h.0 b)) (read_refused G p h.1)

  pub bind_refuses : {A B : Type 0} (F : Format A) (k : A → Format B) → RefusesWith F → ((a : A) → RefusesWith (k a)) → RefusesWith (bind F k)
  unfolding bind
  bind_refuses (done x) k h g = g x
  bind_refuses (refuse n) k h g = h
  bind_refuses (number w f) k h g = λ v. bind_refuses (f v) k (h v) g
  bind_refuses (skip n F) k h g = bind_refuses F k h g
  bind_refuses (bytes n F) k h g = bind_refuses F k h g
  bind_refuses (name limit f) k h g = λ n. bind_refuses (f n) k (h n) g
  bind_refuses (text n f) k h g = λ l. bind_refuses (f l) k (h l) g
  bind_refuses (here f) k h g = λ p. bind_refuses (f p) k (h p) g
  bind_refuses (there o F f) k h g = (h.0, λ b. bind_refuses (f b) k (h.1 b) g)
  bind_refuses (attempt F f G) k h g = (λ b. bind_refuses (f b) k (h.0 b) g, bind_refuses G k h.1 g)

  pub times_refuses : {A B : Type 0} (n : ℕ) (F : Format A) (G : Format B) → RefusesWith F → RefusesWith G → RefusesWith (times n F G)
  unfolding times
  times_refuses zero F G h g = g
  times_refuses (suc n) F G h g = bind_refuses F (λ _. times n F G) h (λ _. times_refuses n F G h g)

  pub pick_refuses : {A : Type 0} (t : Bool) (F G : Format A) → RefusesWith F → RefusesWith G → RefusesWith (pick t F G)
  pick_refuses true F G h g = h
  pick_refuses false F G h g = g

  pub check_refuses : {A : Type 0} (t : Bool) (n : ℕ) (F : Format A) → allowed n ≡ true → RefusesWith F → RefusesWith (check t n F)
  check_refuses t n F e h = pick_refuses t F (refuse n) h e
