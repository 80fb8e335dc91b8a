-- Reading one field after another: the laws that the proofs of the readers chain. Assumes nothing.
use Prim.Native.Nat.{ℕ, suc, ◌+◌, ◌-◌, ◌<◌}
use Rattle.std.specs.Prelude.{◌≡◌, Bool, List, length, leb}
use Rattle.std.proofs.Math.Path.{refl, ap}
use Rattle.std.proofs.Common.{◌∙◌}
use Rattle.std.proofs.Math.Bool.{true, false}
use native.Mathlib.Omega.{arith}
use borrow.Author.Tests.{lt-leb, leb-false}
use Rattle.format.specs.Bytes.{le, name_length, text_length}
use Rattle.format.specs.Format.{Format, done, refuse, number, skip, bytes, name, text, here, there, attempt, Out, found, refused, name_ends, read, bind, times, pick, nothing}

-- how reading goes on from what was found: after it, at p again, or with another format where nothing was found
abbrev pub after : {A B : Type 0} → List ℕ → (A → Format B) → Out A → Out B
after s k (found a q) = read s (k a) q
after s k (refused n) = refused n

abbrev pub back : {A B : Type 0} → List ℕ → ℕ → (A → Format B) → Out A → Out B
back s p k (found a q) = read s (k a) p
back s p k (refused n) = refused n

abbrev pub otherwise : {A B : Type 0} → List ℕ → ℕ → (A → Format B) → Format B → Out A → Out B
otherwise s p k G (found a q) = read s (k a) q
otherwise s p k G (refused n) = read s G p

-- a test on the way, without and with what follows
tested : {A B : Type 0} (s : List ℕ) (k : A → Format B) (r : Out A) (r' : Out B) → r' ≡ after s k r → (t : Bool)
    → elim t [ true ↦ r' | false ↦ refused 3 ] ≡ after s k (elim t [ true ↦ r | false ↦ refused 3 ])
tested s k r r' e true = e
tested s k r r' e false = refl

picked : {A : Type 0} (t : Bool) (r : Out A) → elim t [ true ↦ r | false ↦ refused 3 ] ≡ pick t r (refused 3)
picked true r = refl
picked false r = refl

-- of two tests the second fails where the first does
twice : {A : Type 0} (r r' : Out A) (t u : Bool) → ◌≡◌ {A = Out A} r (elim u [ true ↦ r' | false ↦ refused 3 ]) → (t ≡ false → u ≡ false)
    → ◌≡◌ {A = Out A} (elim t [ true ↦ r | false ↦ refused 3 ]) (elim u [ true ↦ r' | false ↦ refused 3 ])
twice r r' true u e f = e
twice r r' false u e f = rw (f refl)

module _ (s : List ℕ) where
  pub read_done : {A : Type 0} (x : A) (p : ℕ) → read s (done x) p ≡ found x p
  unfolding read
  read_done x p = refl

  pub read_refuse : {A : Type 0} (n p : ℕ) → read {A = A} s (refuse n) p ≡ refused n
  unfolding read
  read_refuse n p = refl

  pub read_number : {A : Type 0} (w : ℕ) (k : ℕ → Format A) (p : ℕ) → read s (number w k) p ≡ after s k (read s (number w done) p)
  unfolding read
  read_number w k p = tested s k (found (le s p w) (p + w)) (read s (k (le s p w)) (p + w)) refl (leb (p + w) (length s))

  pub read_skip : {A : Type 0} (n : ℕ) (F : Format A) (p : ℕ) → read s (skip n F) p ≡ after s (λ _. F) (read s (skip n nothing) p)
  unfolding read
  read_skip n F p = tested s (λ (_ : Unit {0}). F) (found tt (p + n)) (read s F (p + n)) refl (leb (p + n) (length s))

  pub read_name : {A : Type 0} (limit : ℕ) (k : ℕ → Format A) (p : ℕ) → read s (name limit k) p ≡ after s k (read s (name limit done) p)
  unfolding read
  read_name limit k p = tested s k (found (name_length s p limit) (p + name_length s p limit)) (read s (k (name_length s p limit)) (p + name_length s p limit)) refl (name_ends s p limit (name_length s p limit))

  pub read_text : {A : Type 0} (n : ℕ) (k : ℕ → Format A) (p : ℕ) → read s (text n k) p ≡ after s k (read s (text n done) p)
  unfolding read
  read_text n k p = tested s k (found (text_length s p n) (p + n)) (read s (k (text_length s p n)) (p + n)) refl (leb (p + n) (length s))

  pub read_here : {A : Type 0} (k : ℕ → Format A) (p : ℕ) → read s (here k) p ≡ read s (k p) p
  unfolding read
  read_here k p = refl

  pub read_there : {A B : Type 0} (o : ℕ) (F : Format B) (k : B → Format A) (p : ℕ) → read s (there o F k) p ≡ back s p k (read s F o)
  unfolding read
  read_there {B = B} o F k p = go (read s F o)
    where
      go : (r : Out B) → elim r [ found b m ↦ read s (k b) p | refused n ↦ refused n ] ≡ back s p k r
      go (found b m) = refl
      go (refused n) = refl

  pub read_attempt : {A B : Type 0} (F : Format B) (k : B → Format A) (G : Format A) (p : ℕ) → read s (attempt F k G) p ≡ otherwise s p k G (read s F p)
  unfolding read
  read_attempt {B = B} F k G p = go (read s F p)
    where
      go : (r : Out B) → elim r [ found b m ↦ read s (k b) m | refused n ↦ read s G p ] ≡ otherwise s p k G r
      go (found b m) = refl
      go (refused n) = refl

  pub read_bind : {A B : Type 0} (F : Format A) (k : A → Format B) (p : ℕ) → read s (bind F k) p ≡ after s k (read s F p)
  unfolding read bind
  read_bind (done x) k p = refl
  read_bind (refuse n) k p = refl
  read_bind (number w f) k p = tested s k (read s (f (le s p w)) (p + w)) (read s (bind (f (le s p w)) k) (p + w)) (read_bind (f (le s p w)) k (p + w)) (leb (p + w) (length s))
  read_bind (skip n F) k p = tested s k (read s F (p + n)) (read s (bind F k) (p + n)) (read_bind F k (p + n)) (leb (p + n) (length s))
  read_bind (bytes n F) k p = tested s k (read s F (p + n)) (read s (bind F k) (p + n)) (read_bind F k (p + n)) (leb (p + n) (length s))
  read_bind (name limit f) k p =
      let n = name_length s p limit in
      tested s k (read s (f n) (p + n)) (read s (bind (f n) k) (p + n)) (read_bind (f n) k (p + n)) (name_ends s p limit n)
  read_bind (text n f) k p =
      let l = text_length s p n in
      tested s k (read s (f l) (p + n)) (read s (bind (f l) k) (p + n)) (read_bind (f l) k (p + n)) (leb (p + n) (length s))
  read_bind (here f) k p = read_bind (f p) k p
  read_bind {B = B} (there {B = C} o F f) k p = go (read s F o) (λ b. read_bind (f b) k p)
    where
      go : (r : Out C) → ((b : C) → read s (bind (f b) k) p ≡ after s k (read s (f b) p))
          → elim r [ found b m ↦ read s (bind (f b) k) p | refused n ↦ refused n ] ≡ after s k (elim r [ found b m ↦ read s (f b) p | refused n ↦ refused n ])
      go (found b m) e = e b
      go (refused n) e = refl
  read_bind {B = B} (attempt {B = C} F f G) k p = go (read s F p) (λ b m. read_bind (f b) k m) (read_bind G k p)
    where
      go : (r : Out C) → ((b : C) (m : ℕ) → read s (bind (f b) k) m ≡ after s k (read s (f b) m)) → read s (bind G k) p ≡ after s k (read s G p)
          → elim r [ found b m ↦ read s (bind (f b) k) m | refused n ↦ read s (bind G k) p ] ≡ after s k (elim r [ found b m ↦ read s (f b) m | refused n ↦ read s G p ])
      go (found b m) e d = e b m
      go (refused n) e d = d

  -- a number of which nothing is used is bytes that are passed over; so are such bytes and more of them
  pub read_unused : {A : Type 0} (w : ℕ) (F : Format A) (p : ℕ) → read s (number w (λ _. F)) p ≡ read s (skip w F) p
  unfolding read
  read_unused w F p = refl

  pub read_passed : {A : Type 0} (m n : ℕ) (F G : Format A) → ((q : ℕ) → read s F q ≡ read s (skip n G) q) → (p : ℕ) → read s (skip m F) p ≡ read s (skip (m + n) G) p
  unfolding read
  read_passed {A} m n F G e p =
      let d : p + m + n ≡ p + (m + n) = omega arith in
      twice (read s F (p + m)) (read s G (p + (m + n))) (leb (p + m) (length s)) (leb (p + (m + n)) (length s))
      (e (p + m) ∙ ap room d) (λ t. lt-leb (p + (m + n)) (length s) (omega (arith, leb-false (p + m) (length s) t)))
    where
      room : ℕ → Out A
      room q = elim (leb q (length s)) [ true ↦ read s G q | false ↦ refused 3 ]

  -- a field by itself: by whether the file has its bytes
  pub number_room : (w p : ℕ) → read s (number w done) p ≡ pick (leb (p + w) (length s)) (found (le s p w) (p + w)) (refused 3)
  unfolding read
  number_room w p = picked (leb (p + w) (length s)) (found (le s p w) (p + w))

  pub skip_room : (n p : ℕ) → read s (skip n nothing) p ≡ pick (leb (p + n) (length s)) (found tt (p + n)) (refused 3)
  unfolding read
  skip_room n p = picked (leb (p + n) (length s)) (found tt (p + n))

  pub bytes_room : (n p : ℕ) → read s (bytes n nothing) p ≡ pick (leb (p + n) (length s)) (found tt (p + n)) (refused 3)
  unfolding read
  bytes_room n p = picked (leb (p + n) (length s)) (found tt (p + n))

  pub name_room : (limit p : ℕ) → read s (name limit done) p ≡ pick (name_ends s p limit (name_length s p limit)) (found (name_length s p limit) (p + name_length s p limit)) (refused 3)
  unfolding read
  name_room limit p = picked (name_ends s p limit (name_length s p limit)) (found (name_length s p limit) (p + name_length s p limit))

  pub text_room : (n p : ℕ) → read s (text n done) p ≡ pick (leb (p + n) (length s)) (found (text_length s p n) (p + n)) (refused 3)
  unfolding read
  text_room n p = picked (leb (p + n) (length s)) (found (text_length s p n) (p + n))

-- a format n times: none, and one more
pub times_none : {A B : Type 0} {n : ℕ} → n ≡ 0 → (F : Format A) (G : Format B) → times n F G ≡ G
unfolding times
times_none e F G = rw e

pub times_more : {A B : Type 0} {n : ℕ} → 0 < n → (F : Format A) (G : Format B) → times n F G ≡ bind F (λ _. times (n - 1) F G)
unfolding times
times_more {n} h F G = let e : n ≡ suc (n - 1) = omega arith in ap (λ (m : ℕ). times m F G) e
