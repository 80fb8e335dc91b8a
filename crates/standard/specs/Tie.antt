-- Wherever one format stands another stands over the same bytes, with a value that is related to its value: one law for each way in
-- which formats are put together. Assumes nothing.
use Prim.Native.Nat.{ℕ, zero, suc, ◌+◌, ◌*◌, ◌≤◌}
use Rattle.std.specs.Prelude.{◌≡◌, refl, ◌⊎◌, Bool, true, false}
use Rattle.std.proofs.Math.Logic.{inl, inr}
use mathlib.Core.List.{List, [], ◌∷◌}
use Rattle.std.proofs.Common.{arith}
use Rattle.std.proofs.Math.ListN.{length}
use Rattle.format.specs.Bytes.{le}
use Rattle.format.specs.Format.{Format, done, refuse, number, skip, there, Stands, bind, times, check, pick, nothing}
use Rattle.format.specs.Standing.{stands_bind, stands_check, bind_stands}
use Rattle.standard.specs.Fields.{Optional, absent, present, Bytes, only, optional, raw, many}

-- G stands from p to q, and its value is related to a
pub record Stood {A B : Type 0} (R : A → B → Type 0) (G : Format B) (s : List ℕ) (p q : ℕ) (a : A) : Type 0 where
  pub value : B
  pub stands : Stands s G p q value
  pub related : R a value

-- wherever F stands, G stands over the same bytes with a value that is related to F's
pub record Tied {A B : Type 0} (R : A → B → Type 0) (F : Format A) (G : Format B) : Type 0 where
  pub ties : (s : List ℕ) (p q : ℕ) (a : A) → Stands s F p q a → Stood R G s p q a

-- the same, but where a listed difference applies
pub record TiedBut {A B : Type 0} (D : List ℕ → ℕ → Type 0) (R : A → B → Type 0) (F : Format A) (G : Format B) : Type 0 where
  pub ties : (s : List ℕ) (p q : ℕ) (a : A) → Stands s F p q a → D s p ⊎ Stood R G s p q a

-- numbers of one width stand wherever there is room for them
pub many_stands : (s : List ℕ) (w n p q : ℕ) → q ≡ p + w * n → q ≤ length s → (xs : List ℕ) × Stands s (many n (number w done)) p q xs
unfolding many
many_stands s w zero p q e h = ([], (omega arith, refl))
many_stands s w (suc n) p q e h =
    let x = many_stands s w n (p + w) q (omega arith) h in
    let v = le s p w in (
      v ∷ x.0,
      bind_stands s (number w done) (λ a. bind (many n (number w done)) (λ more. done (a ∷ more))) p (p + w) q v (v ∷ x.0) (omega arith, (refl, refl))
          (bind_stands s (many n (number w done)) (λ more. done (v ∷ more)) (p + w) q q x.0 (v ∷ x.0) x.1 (refl, refl)),
    )

-- what stands further on, and with it the whole
pub onward : {A B : Type 0} {R : A → B → Type 0} {G H : Format B} {s : List ℕ} {p m q : ℕ} {a : A} → Stood R G s m q a → ((b : B) → Stands s G m q b → Stands s H p q b) → Stood R H s p q a
onward x f = record { value = x.value; stands = f x.value x.stands; related = x.related }

module _ {A B : Type 0} {R : A → B → Type 0} where
  pub tied_done : {x : A} {y : B} → R x y → Tied R (done x) (done y)
  tied_done {y = y} r = record { ties = λ s p q a h. record { value = y; stands = (h.0, refl); related = rw (← h.1) r } }

  -- the same number on both sides
  pub tied_number : {w : ℕ} {f : ℕ → Format A} {g : ℕ → Format B} → ((n : ℕ) → Tied R (f n) (g n)) → Tied R (number w f) (number w g)
  tied_number {w = w} t = record { ties = λ s p q a h. onward ((t (le s p w)).ties s (p + w) q a h.1) (λ b i. (h.0, i)) }

  -- bytes that both pass over, and that ours passes over and the other reads
  pub tied_skip : {n : ℕ} {F : Format A} {G : Format B} → Tied R F G → Tied R (skip n F) (skip n G)
  tied_skip {n = n} t = record { ties = λ s p q a h. onward (t.ties s (p + n) q a h.1) (λ b i. (h.0, i)) }

  pub tied_skip_number : {w : ℕ} {F : Format A} {g : ℕ → Format B} → ((n : ℕ) → Tied R F (g n)) → Tied R (skip w F) (number w g)
  tied_skip_number {w = w} t = record { ties = λ s p q a h. onward ((t (le s p w)).ties s (p + w) q a h.1) (λ b i. (h.0, i)) }

  -- one side has a test more: the rest is given that it holds, or it is shown to hold
  pub tied_check : (test : Bool) (n : ℕ) {F : Format A} {G : Format B} → (test ≡ true → Tied R F G) → Tied R (check test n F) G
  tied_check test n {F = F} t = record { ties = λ s p q a h. let w = stands_check s test n F p q a h in (t w.0).ties s p q a w.1 }

  pub tied_only : (test : Bool) {F : Format A} {G : Format B} → test ≡ true → Tied R F G → Tied R F (only test G)
  tied_only test e t = rw e t

  -- both branch on a test
  pub tied_pick : (test : Bool) {F F' : Format A} {G G' : Format B} → (test ≡ true → Tied R F G) → (test ≡ false → Tied R F' G') → Tied R (pick test F F') (pick test G G')
  tied_pick true t f = t refl
  tied_pick false t f = f refl

  -- one side branches
  pub tied_pick_left : (test : Bool) {F F' : Format A} {G : Format B} → (test ≡ true → Tied R F G) → (test ≡ false → Tied R F' G) → Tied R (pick test F F') G
  tied_pick_left true t f = t refl
  tied_pick_left false t f = f refl

  -- what is refused stands nowhere
  pub tied_refuse : {n : ℕ} {G : Format B} → Tied R (refuse n) G
  tied_refuse = record { ties = λ s p q a h. absurd h }

-- one format after another
pub tied_bind : {A B C E : Type 0} {S : A → B → Type 0} {R : C → E → Type 0} {F : Format A} {G : Format B} {f : A → Format C} {g : B → Format E}
    → Tied S F G → ((a : A) (b : B) → S a b → Tied R (f a) (g b)) → Tied R (bind F f) (bind G g)
tied_bind {F = F} {G = G} {f = f} {g = g} t k =
    record {
      ties =
          λ s p q c h.
          let w = stands_bind s F f p q c h in
          let x = t.ties s p w.0 w.1 w.2 in
          let y = (k w.1 x.value x.related).ties s w.0 q c w.3 in
          record { value = y.value; stands = bind_stands s G g p w.0 q x.value y.value x.stands y.stands; related = y.related };
    }

-- a test on the way
pub tied_bind_check : {A B C : Type 0} {R : A → B → Type 0} (test : Bool) (n : ℕ) (F : Format C) (k : C → Format A) {G : Format B} → (test ≡ true → Tied R (bind F k) G) → Tied R (bind (check test n F) k) G
unfolding bind
tied_bind_check true n F k t = t refl
tied_bind_check false n F k t = tied_refuse

-- ours goes on to make a value of what it has read
pub tied_after : {A B C : Type 0} {S : A → B → Type 0} {R : C → B → Type 0} {F : Format A} {G : Format B} (f : A → C) → ((a : A) (b : B) → S a b → R (f a) b) → Tied S F G → Tied R (bind F (λ a. done (f a))) G
tied_after {A} {B} {C} {S} {R} {F} {G} f r t = record { ties = λ s p q c h. let w = stands_bind s F (λ a. done (f a)) p q c h in go s p q c w.0 w.1 w.2 w.3.0 w.3.1 }
  where
    go : (s : List ℕ) (p q : ℕ) (c : C) (m : ℕ) (a : A) → Stands s F p m a → m ≡ q → f a ≡ c → Stood R G s p q c
    go s p q c m a h e d =
        let x = t.ties s p q a (rw e at h) in
        rw (← d) (record { value = x.value; stands = x.stands; related = r a x.value x.related })

module _ {A B : Type 0} {R : A → B → Type 0} where
  -- what ours finds elsewhere in the file and the other does not ask for
  pub tied_there_left : {C : Type 0} {o : ℕ} {F : Format C} {k : C → Format A} {G : Format B} → ((c : C) → Tied R (k c) G) → Tied R (there o F k) G
  tied_there_left t = record { ties = λ s p q a h. (t h.1).ties s p q a h.3 }

  -- bytes that are passed over in two pieces
  pub tied_split : (m n : ℕ) {F : Format A} {G : Format B} → Tied R (skip m (skip n F)) G → Tied R (skip (m + n) F) G
  tied_split m n {F = F} t =
      record {
        ties =
            λ s p q a h.
            let e : p + (m + n) ≡ p + m + n = omega arith in
            let i : Stands s F (p + m + n) q a = rw e at h.1 in
            t.ties s p q a (omega (arith, h.0), (omega (arith, h.0), i));
      }

  -- nothing is passed over
  pub tied_skip_none : {F : Format A} {G : Format B} → Tied R F G → Tied R (skip 0 F) G
  tied_skip_none {F = F} t = record { ties = λ s p q a h. let e : p + 0 ≡ p = omega arith in let i : Stands s F p q a = rw e at h.1 in t.ties s p q a i }

  -- a relation that follows from another
  pub tied_more : {S : A → B → Type 0} {F : Format A} {G : Format B} → ((a : A) (b : B) → S a b → R a b) → Tied S F G → Tied R F G
  tied_more f t = record { ties = λ s p q a h. let x = t.ties s p q a h in record { value = x.value; stands = x.stands; related = f a x.value x.related } }

  -- where no difference applies, and where one does because another does
  pub but_tied : {D : List ℕ → ℕ → Type 0} {F : Format A} {G : Format B} → Tied R F G → TiedBut D R F G
  but_tied t = record { ties = λ s p q a h. inr (t.ties s p q a h) }

  pub but_more : {D E : List ℕ → ℕ → Type 0} {F : Format A} {G : Format B} → ((s : List ℕ) (p : ℕ) → D s p → E s p) → TiedBut D R F G → TiedBut E R F G
  but_more {D = D} {E = E} {G = G} f t = record { ties = λ s p q a h. go s p q a (t.ties s p q a h) }
    where
      go : (s : List ℕ) (p q : ℕ) (a : A) → D s p ⊎ Stood R G s p q a → E s p ⊎ Stood R G s p q a
      go s p q a (inl d) = inl (f s p d)
      go s p q a (inr x) = inr x

  -- bytes that ours passes over, and the other hands out
  pub tied_raw : {n : ℕ} {F : Format A} {g : Bytes → Format B} → ((x : Bytes) → x.length ≡ n → Tied R F (g x)) → Tied R (skip n F) (bind (raw n) g)
  unfolding raw bind
  tied_raw {n = n} t = record { ties = λ s p q a h. onward ((t (record { position = p; length = n }) refl).ties s (p + n) q a h.1) (λ b i. (h.0, i)) }

  -- bytes that ours passes over where a field is present, and where it is not
  pub tied_optional : (test : Bool) (w : ℕ) {F : Format A} {g : Optional ℕ → Format B} → test ≡ true → ((o : Optional ℕ) → Tied R F (g o)) → Tied R (skip w F) (bind (optional test w) g)
  unfolding optional bind
  tied_optional test w e t = rw e (tied_skip_number (λ n. t (present n)))

  pub tied_optional_none : (test : Bool) (w : ℕ) {F : Format A} {g : Optional ℕ → Format B} → test ≡ false → ((o : Optional ℕ) → Tied R F (g o)) → Tied R F (bind (optional test w) g)
  unfolding optional bind
  tied_optional_none test w e t = rw e (t absent)

  -- or numbers of one width
  pub tied_skip_many : (w n : ℕ) {F : Format A} {g : List ℕ → Format B} → ((xs : List ℕ) → Tied R F (g xs)) → Tied R (skip (w * n) F) (bind (many n (number w done)) g)
  tied_skip_many w n {g = g} t =
      record {
        ties =
            λ s p q a h.
            let x = many_stands s w n p (p + w * n) refl h.0 in
            onward ((t x.0).ties s (p + w * n) q a h.1) (λ b i. bind_stands s (many n (number w done)) g p (p + w * n) q x.0 b x.1 i);
      }

-- a difference in the first of two formats, or in the second after the first
pub data Either {B : Type 0} (D : List ℕ → ℕ → Type 0) (G : Format B) (E : B → List ℕ → ℕ → Type 0) (s : List ℕ) (p : ℕ) : Type 0 where
  in_first : D s p → Either D G E s p
  in_second : (m : ℕ) (b : B) → Stands s G p m b → E b s m → Either D G E s p

-- a difference in one of n: so many stand, and the next one differs
pub data Among {B : Type 0} (D : List ℕ → ℕ → Type 0) (G : Format B) (s : List ℕ) : ℕ → ℕ → Type 0 where
  in_next : {n p : ℕ} → D s p → Among D G s (suc n) p
  in_later : {n p m : ℕ} (b : B) → Stands s G p m b → Among D G s n m → Among D G s (suc n) p

pub but_bind : {A B C E : Type 0} {S : A → B → Type 0} {R : C → E → Type 0} {D : List ℕ → ℕ → Type 0} {D' : B → List ℕ → ℕ → Type 0} {F : Format A} {G : Format B} {f : A → Format C} {g : B → Format E}
    → TiedBut D S F G → ((a : A) (b : B) → S a b → TiedBut (D' b) R (f a) (g b)) → TiedBut (Either D G D') R (bind F f) (bind G g)
but_bind {A} {B} {C} {E} {S} {R} {D} {D'} {F} {G} {f} {g} t k = record { ties = whole }
  where
    second : (s : List ℕ) (p m q : ℕ) (c : C) (a : A) (b : B) → Stands s G p m b → D' b s m ⊎ Stood R (g b) s m q c → Either D G D' s p ⊎ Stood R (bind G g) s p q c
    second s p m q c a b h (inl d) = inl (in_second m b h d)
    second s p m q c a b h (inr y) = inr (onward y (λ e i. bind_stands s G g p m q b e h i))

    first : (s : List ℕ) (p m q : ℕ) (c : C) (a : A) → Stands s (f a) m q c → D s p ⊎ Stood S G s p m a → Either D G D' s p ⊎ Stood R (bind G g) s p q c
    first s p m q c a h (inl d) = inl (in_first d)
    first s p m q c a h (inr x) = second s p m q c a x.value x.stands ((k a x.value x.related).ties s m q c h)

    whole : (s : List ℕ) (p q : ℕ) (c : C) → Stands s (bind F f) p q c → Either D G D' s p ⊎ Stood R (bind G g) s p q c
    whole s p q c h = let w = stands_bind s F f p q c h in first s p w.0 q c w.1 w.3 (t.ties s p w.0 w.1 w.2)

-- what holds of each of a list
abbrev pub Every : {B : Type 0} → (B → Type 0) → List B → Type 0
Every P [] = Unit {0}
Every P (b ∷ bs) = P b × Every P bs

-- one format n times, and a list of the other's values, of each of which P holds
module _ {A B : Type 0} (P : B → Type 0) (D : List ℕ → ℕ → Type 0) (F : Format A) (G : Format B) where
  abbrev Times : ℕ → Type 0
  Times n = TiedBut (λ s p. Among D G s n p) (λ _ bs. Every P bs) (times n F nothing) (many n G)

  -- what stands of n from p to q
  abbrev Rest : List ℕ → ℕ → ℕ → ℕ → Type 0
  Rest s n p q = Among D G s n p ⊎ Stood {A = Unit {0}} (λ _ bs. Every P bs) (many n G) s p q tt

  times_more : (n : ℕ) → TiedBut D (λ _ b. P b) F G → Times n → Times (suc n)
  unfolding times many
  times_more n t u = record { ties = whole }
    where
      second : (s : List ℕ) (p m q : ℕ) (b : B) → Stands s G p m b → P b → Rest s n m q → Rest s (suc n) p q
      second s p m q b h r (inl d) = inl (in_later b h d)
      second s p m q b h r (inr y) =
          inr (record {
            value = b ∷ y.value;
            stands = bind_stands s G (λ a. bind (many n G) (λ more. done (a ∷ more))) p m q b (b ∷ y.value) h (bind_stands s (many n G) (λ more. done (b ∷ more)) m q q y.value (b ∷ y.value) y.stands (refl, refl));
            related = (r, y.related);
          })

      first : (s : List ℕ) (p m q : ℕ) (a : A) → Stands s (times n F nothing) m q tt → D s p ⊎ Stood (λ _ b. P b) G s p m a → Rest s (suc n) p q
      first s p m q a h (inl d) = inl (in_next d)
      first s p m q a h (inr x) = second s p m q x.value x.stands x.related (u.ties s m q tt h)

      whole : (s : List ℕ) (p q : ℕ) (c : Unit {0}) → Stands s (times (suc n) F nothing) p q c → Rest s (suc n) p q
      whole s p q c h = let w = stands_bind s F (λ _. times n F nothing) p q c h in first s p w.0 q w.1 w.3 (t.ties s p w.0 w.1 w.2)

  pub but_times : (n : ℕ) → TiedBut D (λ _ b. P b) F G → Times n
  unfolding times many
  but_times zero t = record { ties = λ s p q a h. inr (record { value = []; stands = (h.0, refl); related = tt }) }
  but_times (suc n) t = times_more n t (but_times n t)
