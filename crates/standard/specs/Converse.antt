-- The other way round: where a format of the specification stands, ours has a reading. What is read then follows from the tie that is there.
-- Assumes nothing.
use Rattle.std.specs.Prelude.{ℕ, ◌+◌, ◌≡◌, ◌⊎◌, Bool, true, List}
use Rattle.std.proofs.Common.{inl, inr}
use Rattle.format.specs.Format.{Format, skip, Stands, bind, check}
use Rattle.format.specs.Laws.{unique}
use Rattle.standard.specs.Fields.{Bytes, raw}
use Rattle.standard.specs.Tie.{Tied, TiedBut, Stood, onward}

-- a format has a reading from p to q
abbrev pub Reads : {A : Type 0} → List ℕ → Format A → ℕ → ℕ → Type 0
Reads {A} s F p q = (a : A) × Stands s F p q a

-- a format of ours stands from p to q, and its value is related to b
pub record ReadAs {A B : Type 0} (R : A → B → Type 0) (F : Format A) (s : List ℕ) (p q : ℕ) (b : B) : Type 0 where
  pub value : A
  pub stands : Stands s F p q value
  pub related : R value b

-- Whatever ours reads at p, where no listed difference applies, is what stands there: it ends there, and is related to its value.
pub read_as : {A B : Type 0} {D : List ℕ → ℕ → Type 0} {R : A → B → Type 0} {F : Format A} {G : Format B} → TiedBut D R F G
    → (s : List ℕ) (p q : ℕ) (b : B) → Stands s G p q b → (D s p → ⊥) → (m : ℕ) → Reads s F p m → ReadAs R F s p q b
read_as {A} {B} {D} {R} {F} {G} t s p q b h d m w = go (t.ties s p m w.0 w.1)
  where
    go : D s p ⊎ Stood R G s p m w.0 → ReadAs R F s p q b
    go (inl x) = absurd (d x)
    go (inr y) =
        let u = unique s G p m q y.value b y.stands h in
        record { value = w.0; stands = rw u.0 at w.1; related = rw u.1 at y.related }

-- the same where no difference is listed
pub read_tied : {A B : Type 0} {R : A → B → Type 0} {F : Format A} {G : Format B} → Tied R F G
    → (s : List ℕ) (p q : ℕ) (b : B) → Stands s G p q b → (m : ℕ) → Reads s F p m → ReadAs R F s p q b
read_tied {F = F} {G = G} t s p q b h m w =
    let y = t.ties s p m w.0 w.1 in
    let u = unique s G p m q y.value b y.stands h in
    record { value = w.0; stands = rw u.0 at w.1; related = rw u.1 at y.related }

-- A format of theirs is read by one of ours wherever it stands: a tie the other way round, whatever the values are.
abbrev pub Met : {A B : Type 0} → Format A → Format B → Type 0
Met {A} {B} F G = Tied {A = B} {B = A} (λ _ _. Unit {0}) G F

pub met : {A B : Type 0} {F : Format A} {G : Format B} → Met F G → (s : List ℕ) (p q : ℕ) (b : B) → Stands s G p q b → Reads s F p q
met t s p q b h = let y = t.ties s p q b h in (y.value, y.stands)

module _ {A B : Type 0} {R : A → B → Type 0} where
  -- ours has a test that is known to hold
  pub tied_checked : (test : Bool) (n : ℕ) {F : Format A} {G : Format B} → test ≡ true → Tied R F G → Tied R F (check test n G)
  tied_checked test n e t = rw e t

  -- bytes that they hand out and ours passes over
  pub tied_from_raw : {n : ℕ} {g : Bytes → Format A} {G : Format B} → ((x : Bytes) → Tied R (g x) G) → Tied R (bind (raw n) g) (skip n G)
  unfolding raw bind
  tied_from_raw {n = n} t = record { ties = λ s p q a h. onward ((t (record { position = p; length = n })).ties s (p + n) q a h.1) (λ b i. (h.0, i)) }
