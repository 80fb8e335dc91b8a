-- The two bounds of the standard's datatype message only refuse: what stands under them stands under greater ones, with the same value.
-- Assumes nothing.
use Prim.Native.Nat.{ℕ, zero, suc, ◌+◌, ◌≤◌}
use Rattle.std.specs.Prelude.{◌≡◌, ◌||◌}
use Rattle.std.proofs.Math.Path.{refl}
use Rattle.std.proofs.Math.Logic.{inr}
use mathlib.Core.List.{List}
use native.Mathlib.Omega.{arith}
use Rattle.std.proofs.Math.Dec.{eqb}
use Rattle.std.proofs.Math.ListN.{get_or}
use borrow.Author.Tests.{eqb-true}
use Rattle.format.specs.Bytes.{le, Named}
use Rattle.format.specs.Format.{Format, done, number, Stands, bind}
use Rattle.format.specs.Standing.{stands_check}
use Rattle.standard.specs.Fields.{Bytes, only}
use Rattle.standard.specs.Tie.{Tied, tied_bind, tied_pick}
use Rattle.standard.specs.Versions.{marked}
use Rattle.standard.specs.Datatypes.{terminated, member1, member3, member, Datatype, members_of, compound, properties, DatatypeHeader, class, version, datatype_of, datatype_message, no_members}

-- wherever F stands, G stands with the same value
abbrev Wider : {A : Type 0} → Format A → Format A → Type 0
Wider F G = Tied (λ a b. a ≡ b) F G

wider_same : {A : Type 0} (F : Format A) → Wider F F
wider_same F = record { ties = λ s p q a h. record { value = a; stands = h; related = refl } }

wider_bind : {A B : Type 0} {F G : Format A} {f g : A → Format B} → Wider F G → ((a : A) → Wider (f a) (g a)) → Wider (bind F f) (bind G g)
wider_bind {f = f} t k = tied_bind t (λ a b e. rw (← e) (k a))

wider_then : {A B : Type 0} {F G : Format A} (f : A → Format B) → Wider F G → Wider (bind F f) (bind G f)
wider_then f t = wider_bind t (λ a. wider_same (f a))

module _ (longest longer : ℕ) (more : longest ≤ longer) where
  -- a name within the bound has its zero, so it is also the name within the greater one
  terminated_wider : Wider (terminated longest) (terminated longer)
  unfolding terminated le
  terminated_wider = record { ties = λ s p q a h. record { value = a; stands = (h.0, named s p h.0 q a h.1 h.2, h.2); related = refl } }
    where
      named : (s : List ℕ) (p n q : ℕ) (a : Bytes) → Named s p longest n
          → Stands s (number 1 (λ terminator. only (eqb terminator 0) (done {A = Bytes} (record { position = p; length = n })))) (p + n) q a → Named s p longer n
      named s p n q a h i =
          let z = eqb-true (le s (p + n) 1) 0 (stands_check s (eqb (le s (p + n) 1) 0) 0 (done {A = Bytes} (record { position = p; length = n })) (p + n + 1) q a i.1).0 in
          record { inside = h.inside; within = omega (arith, h.within); nonzero = h.nonzero; ended = inr (omega (arith, i.0), one s (p + n) z) }
        where
          one : (s : List ℕ) (p : ℕ) → le s p 1 ≡ 0 → get_or s p 0 ≡ 0
          one s p e = omega (arith, e)

  member1_wider : Wider (member1 longest) (member1 longer)
  unfolding member1
  member1_wider = wider_then _ terminated_wider

  member3_wider : (size : ℕ) → Wider (member3 longest size) (member3 longer size)
  unfolding member3
  member3_wider size = wider_then _ terminated_wider

  member_wider : (h : DatatypeHeader) → Wider (member longest h) (member longer h)
  unfolding member marked
  member_wider h = tied_pick (eqb (version h) 1) (λ _. wider_then _ member1_wider) (λ _. wider_then _ (member3_wider h.size))

  module _ (T U : Format Datatype) (types : Wider T U) where
    members_wider : (h : DatatypeHeader) (n : ℕ) → Wider (members_of longest h T n) (members_of longer h U n)
    unfolding members_of
    members_wider h zero = wider_same (done no_members)
    members_wider h (suc n) = wider_bind (member_wider h) (λ m. wider_bind types (λ t. wider_then _ (members_wider h n)))

    compound_wider : (h : DatatypeHeader) → Wider (compound longest T h) (compound longer U h)
    unfolding compound
    compound_wider h = members_wider h _

    properties_wider : (h : DatatypeHeader) → Wider (properties longest T h) (properties longer U h)
    unfolding properties
    properties_wider h =
        tied_pick (eqb (class h) 0) (λ _. wider_same _) (λ _.
        tied_pick (eqb (class h) 1) (λ _. wider_same _) (λ _.
        tied_pick (eqb (class h) 3) (λ _. wider_same _) (λ _.
        tied_pick (eqb (class h) 6) (λ _. wider_then _ (compound_wider h)) (λ _.
        tied_pick (eqb (class h) 7) (λ _. wider_same _) (λ _.
        tied_pick (eqb (class h) 9) (λ _. wider_then _ types) (λ _. wider_same _))))))

    datatype_wider : Wider (datatype_of longest T) (datatype_of longer U)
    unfolding datatype_of
    datatype_wider = wider_bind (wider_same _) (λ h. tied_pick (eqb (version h) 1 || eqb (version h) 3) (λ _. wider_then _ (properties_wider h)) (λ _. wider_same _))

  message_wider : (levels more-levels : ℕ) → Wider (datatype_message longest levels) (datatype_message longer (levels + more-levels))
  unfolding datatype_message
  message_wider zero more-levels = record { ties = λ s p q a h. absurd h }
  message_wider (suc levels) more-levels =
      let e : suc levels + more-levels ≡ suc (levels + more-levels) = omega arith in
      rw e (datatype_wider (datatype_message longest levels) (datatype_message longer (levels + more-levels)) (message_wider levels more-levels))

-- Longer names and more levels take nothing away.
pub datatype_bounds : (longest longer levels more : ℕ) → longest ≤ longer → (s : List ℕ) (p q : ℕ) (t : Datatype)
    → Stands s (datatype_message longest levels) p q t → Stands s (datatype_message longer (levels + more)) p q t
datatype_bounds longest longer levels more h s p q t i =
    let x = (message_wider longest longer h levels more).ties s p q t i in
    rw x.related x.stands
