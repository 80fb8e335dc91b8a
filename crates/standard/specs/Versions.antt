-- A message whose tables are told apart by the version that stands first in each. Assumes nothing.
use Prim.Native.Nat.{ℕ, ◌+◌, ◌≤◌}
use Rattle.std.specs.Prelude.{◌≡◌, Bool, true, false, List, length, eqb}
use Rattle.std.proofs.Math.Path.{refl}
use Rattle.format.specs.Bytes.{le}
use Rattle.format.specs.Format.{Format, done, number, here, there, bind, pick, Stands}
use Rattle.standard.specs.Fields.{only}
use Rattle.standard.specs.Tie.{Tied, Stood, onward, tied_number, tied_check, tied_only}
use Rattle.format.specs.Standing.{bind_stands}

-- the version is looked at, and then the whole table of that version stands
unfoldable pub by_version : {A : Type 0} → (ℕ → Format A) → Format A
by_version table = here (λ p. there p (number 1 done) (λ version. table version))

-- a table of ours behind its version
abbrev pub of_version : {A : Type 0} → ℕ → Format A → Format A
of_version k F = number 1 (λ version. only (eqb version k) F)

-- a table, and which one it was
unfoldable pub marked : {A B : Type 0} → (A → B) → Format A → Format B
marked f F = bind F (λ a. done (f a))

-- the table of the version that stands at p
pub version_stands : {A : Type 0} (s : List ℕ) (table : ℕ → Format A) (p q : ℕ) (a : A) → p + 1 ≤ length s → Stands s (table (le s p 1)) p q a → Stands s (by_version table) p q a
unfolding by_version
version_stands s table p q a h i = (p + 1, le s p 1, (h, (refl, refl)), i)

pub marked_stands : {A B : Type 0} (s : List ℕ) (f : A → B) (F : Format A) (p q : ℕ) (a : A) → Stands s F p q a → Stands s (marked f F) p q (f a)
unfolding marked
marked_stands s f F p q a h = bind_stands s F (λ x. done (f x)) p q q a (f a) h (refl, refl)

module _ {A B : Type 0} {R : A → B → Type 0} where
  -- the version, which both have
  pub tied_of_version : (k : ℕ) (F : Format A) (g : ℕ → Format B) → ((version : ℕ) → Tied R F (g version)) → Tied R (of_version k F) (number 1 (λ version. only (eqb version k) (g version)))
  tied_of_version k F g t = tied_number (λ version. tied_check (eqb version k) 0 (λ e. tied_only (eqb version k) e (t version)))

  -- the tables of one version, and those of the versions after it
  pub tied_version : (k : ℕ) (F : Format A) (f : ℕ → Format A) (G : Format B) (g : ℕ → Format B) → Tied R (of_version k F) G → Tied R (number 1 f) (by_version g)
      → Tied R (number 1 (λ version. pick (eqb version k) F (f version))) (by_version (λ version. pick (eqb version k) G (g version)))
  unfolding by_version
  tied_version k F f G g t u = record { ties = λ s p q a h. go s p q a h.0 (eqb (le s p 1) k) refl h.1 }
    where
      table : ℕ → Format B
      table version = pick (eqb version k) G (g version)

      go : (s : List ℕ) (p q : ℕ) (a : A) → p + 1 ≤ length s → (test : Bool) → eqb (le s p 1) k ≡ test → Stands s (pick test F (f (le s p 1))) (p + 1) q a → Stood R (by_version table) s p q a
      go s p q a r true e i = onward (t.ties s p q a (r, rw e i)) (λ b j. version_stands s table p q b r (rw e j))
      go s p q a r false e i =
          onward (u.ties s p q a (r, i)) (λ b j.
          let v : Stands s (g (le s p 1)) p q b = rw (← j.2.1.1) at j.3 in
          version_stands s table p q b r (rw e v))

  pub stood_marked : {C : Type 0} (f : C → B) {G : Format C} {s : List ℕ} {p q : ℕ} {a : A} → Stood (λ a c. R a (f c)) G s p q a → Stood R (marked f G) s p q a
  stood_marked f {G = G} {s = s} {p = p} {q = q} x = record { value = f x.value; stands = marked_stands s f G p q x.value x.stands; related = x.related }

  pub tied_marked : {C : Type 0} (f : C → B) {F : Format A} {G : Format C} → Tied (λ a c. R a (f c)) F G → Tied R F (marked f G)
  tied_marked f t = record { ties = λ s p q a h. stood_marked f (t.ties s p q a h) }
