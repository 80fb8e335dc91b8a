-- More laws of ties, for values that are made of what stands. Assumes nothing.
use Rattle.std.specs.Prelude.{ℕ, refl, ◌⊎◌, List}
use Rattle.std.proofs.Common.{inl, inr}
use Rattle.format.specs.Format.{Format, done, bind}
use Rattle.standard.specs.Tie.{Stood, TiedBut}
use Rattle.format.specs.Standing.{bind_stands}

-- a value that is made of the other's
pub stood_map : {A B C : Type 0} {S : A → B → Type 0} {R : A → C → Type 0} {G : Format B} {s : List ℕ} {p q : ℕ} {a : A} (f : B → C)
    → ((b : B) → S a b → R a (f b)) → Stood S G s p q a → Stood R (bind G (λ b. done (f b))) s p q a
stood_map {G = G} {s = s} {p = p} {q = q} f g x =
    record {
      value = f x.value;
      stands = bind_stands s G (λ b. done (f b)) p q q x.value (f x.value) x.stands (refl, refl);
      related = g x.value x.related;
    }

pub but_map : {A B C : Type 0} {S : A → B → Type 0} {R : A → C → Type 0} {D : List ℕ → ℕ → Type 0} {F : Format A} {G : Format B} (f : B → C)
    → ((a : A) (b : B) → S a b → R a (f b)) → TiedBut D S F G → TiedBut D R F (bind G (λ b. done (f b)))
but_map {A} {B} {C} {S} {R} {D} {F} {G} f g t = record { ties = λ s p q a h. go s p q a (t.ties s p q a h) }
  where
    go : (s : List ℕ) (p q : ℕ) (a : A) → D s p ⊎ Stood S G s p q a → D s p ⊎ Stood R (bind G (λ b. done (f b))) s p q a
    go s p q a (inl d) = inl d
    go s p q a (inr x) = inr (stood_map {S = S} {R = R} {G = G} f (g a) x)
