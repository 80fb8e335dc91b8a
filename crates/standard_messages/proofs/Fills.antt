-- The fill value message as it is read is that of the specification, but for one case.
-- Entries are those of docs/DIFFERENCES.md, part one. Assumes nothing.
use Rattle.std.specs.Prelude.{ℕ, ◌+◌, ◌≤◌, ◌<◌, ◌≡◌, ◌⊎◌, Bool, true, false, not, ◌&&◌, ◌||◌, List, length, leb, ltb}
use Rattle.std.proofs.Math.Path.{refl}
use Rattle.std.proofs.Common.{inl, inr, arith}
use Rattle.std.proofs.Math.Dec.{eqb}
use borrow.Author.Tests.{eq-eqb, ne_eqb, eqb-true, eqb-false, leb-true, lt-ltb}
use Rattle.format.specs.Bits.{bit}
use Rattle.format.specs.Bytes.{le}
use Rattle.format.specs.Format.{done, refuse, number, pick, nothing, Stands}
use Rattle.format.specs.Standing.{stands_check, bind_stands}
use Rattle.ohdr_storage.specs.Storage.{fill_value, fill12, fill3, fill}
use Rattle.standard.specs.Fields.{only}
use Rattle.standard.specs.Tie.{Tied, TiedBut, Stood, tied_done, tied_number, tied_check, tied_only, tied_raw}
use Rattle.standard.specs.Versions.{version_stands, marked, marked_stands, tied_marked}
use Rattle.standard.specs.Storage.{size_and_fill_value_lem, FillFields12, fill_fields12, FillValue12, fill_value12, ValidFillValue12, fill_value3, FillValue, versions_1_and_2, version_3, fill_value_message}
use Rattle.standard_messages.specs.Same.{ValidFill}
use Rattle.standard_messages.specs.Differences.{FillDiffers, undefined_in_version_1}

-- a size, and so many bytes
value_tied : (test : Bool) → test ≡ true → Tied (λ _ _. Unit {0}) fill_value (size_and_fill_value_lem test)
unfolding fill_value size_and_fill_value_lem
value_tied test e = rw e (tied_number (λ size. tied_raw (λ x e. tied_done tt)))

none_tied : (test : Bool) → test ≡ false → Tied (λ _ _. Unit {0}) nothing (size_and_fill_value_lem test)
unfolding size_and_fill_value_lem
none_tied test e = rw e (tied_done tt)

value_by : (test : Bool) → Tied (λ _ _. Unit {0}) (pick test fill_value nothing) (size_and_fill_value_lem test)
value_by true = value_tied true refl
value_by false = none_tied false refl

fill3_tied : Tied (λ _ _. Unit {0}) (number 1 (λ version. only (eqb version 3) fill3)) fill_value3
unfolding fill3 fill_value3 marked
fill3_tied =
    tied_number (λ version.
    tied_check (eqb version 3) 0 (λ e.
    tied_only (eqb version 3) e (
    tied_number (λ flags.
    tied_marked (λ size_and_value. record { version = version; flags = flags; size_and_value = size_and_value }) (value_by (bit flags 5))))))

either_true : (a b : Bool) → (a || b) ≡ true → (a ≡ true) ⊎ (b ≡ true)
either_true true b e = inl refl
either_true false b e = inr e

-- of two numbers that are allowed, both
one_of : (n k : ℕ) → (eqb n k || eqb n (k + 1)) ≡ true → (k ≤ n) × (n ≤ k + 1)
one_of n k e = go (either_true (eqb n k) (eqb n (k + 1)) e)
  where
    go : (eqb n k ≡ true) ⊎ (eqb n (k + 1) ≡ true) → (k ≤ n) × (n ≤ k + 1)
    go (inl d) = let z = eqb-true n k d in (omega arith, omega arith)
    go (inr d) = let z = eqb-true n (k + 1) d in (omega arith, omega arith)

-- size and value are present: where a value is defined, and not where it is not in version 2
is_present : (v d : ℕ) → d ≡ 1 → not (ltb 1 v && eqb d 0) ≡ true
is_present v d e = rw (ne_eqb d 0 (λ z. omega arith)) (go (ltb 1 v))
  where
    go : (t : Bool) → not (t && false) ≡ true
    go true = refl
    go false = refl

is_absent : (v d : ℕ) → 1 < v → d ≡ 0 → not (ltb 1 v && eqb d 0) ≡ false
is_absent v d h e = rw (lt-ltb 1 v h, eq-eqb d 0 e)

module _ (s : List ℕ) where
  -- the fields of versions 1 and 2 stand from p to m, and their values are allowed
  record Fields12 (p m : ℕ) (x : FillFields12) : Type 0 where
    stands : Stands s fill_fields12 p m x
    allocation_least : 1 ≤ x.space_allocation_time
    allocation_most : x.space_allocation_time ≤ 3
    write_time : x.fill_value_write_time ≤ 2
    defined : x.fill_value_defined ≤ 1

  whole12 : (p m q : ℕ) (x : FillFields12) (test : Bool) → Fields12 p m x → not (ltb 1 x.version && eqb x.fill_value_defined 0) ≡ test
      → Stands s (pick test fill_value nothing) m q tt → Stood {A = Unit {0}} (λ _ y. ValidFillValue12 y) fill_value12 s p q tt
  unfolding fill_value12
  whole12 p m q x test f e h =
      let y = (value_by test).ties s m q tt h in
      let i : Stands s (size_and_fill_value_lem (not (ltb 1 x.version && eqb x.fill_value_defined 0))) m q y.value = rw e y.stands in
      let z : FillValue12 = record { fields = x; size_and_value = y.value } in
      record {
        value = z;
        stands = bind_stands s fill_fields12 _ p m q x z f.stands (bind_stands s (size_and_fill_value_lem (not (ltb 1 x.version && eqb x.fill_value_defined 0))) (λ v. done (record { fields = x; size_and_value = v })) m q q y.value z i (refl, refl));
        related = record { allocation_least = f.allocation_least; allocation_most = f.allocation_most; write_time = f.write_time; defined = f.defined };
      }

  -- the table of versions 1 and 2, or the whole message, but for the difference
  abbrev Or12 : ℕ → ℕ → Type 0
  Or12 p q = FillDiffers s p ⊎ Stood {A = Unit {0}} (λ _ y. ValidFillValue12 y) fill_value12 s p q tt

  abbrev Or : ℕ → ℕ → Type 0
  Or p q = FillDiffers s p ⊎ Stood {A = Unit {0}} (λ _ x. ValidFill x) fill_value_message s p q tt

  by_defined : (p m q : ℕ) (x : FillFields12) → m ≡ p + 4 → Fields12 p m x → (eqb x.version 1 || eqb x.version 2) ≡ true
      → Stands s (pick (eqb x.fill_value_defined 1) fill_value nothing) m q tt
      → Or12 p q
  by_defined p m q x e f v h = go (eqb x.fill_value_defined 1) refl h
    where
      undefined : (t : Bool) → eqb x.version 1 ≡ t → (x.fill_value_defined ≡ 1 → ⊥) → Stands s nothing m q tt
          → Or12 p q
      undefined true d n h =
          let i : Stands s fill_fields12 p (p + 4) x = rw (← e) f.stands in
          inl (undefined_in_version_1 x i (eqb-true x.version 1 d) (omega (arith, f.defined)))
      undefined false d n h =
          let z = eqb-false x.version 1 d in
          let b = one_of x.version 1 v in
          inr (whole12 p m q x false f (is_absent x.version x.fill_value_defined (omega (arith, b.0)) (omega (arith, f.defined))) h)

      go : (t : Bool) → eqb x.fill_value_defined 1 ≡ t → Stands s (pick t fill_value nothing) m q tt
          → Or12 p q
      go true d h = inr (whole12 p m q x true f (is_present x.version x.fill_value_defined (eqb-true x.fill_value_defined 1 d)) h)
      go false d h = undefined (eqb x.version 1) refl (eqb-false x.fill_value_defined 1 d) h

  fill12_stands : (p q : ℕ) → p + 1 ≤ length s → (eqb (le s p 1) 1 || eqb (le s p 1) 2) ≡ true → Stands s fill12 (p + 1) q tt
      → Or12 p q
  unfolding fill12 fill_fields12
  fill12_stands p q r v h =
      let a = le s (p + 1) 1 in
      let c = stands_check s (eqb a 2 || eqb a 3) 12 _ _ q tt h.1 in
      let w = le s (p + 1 + 1) 1 in
      let e = stands_check s (eqb w 2) 12 _ _ q tt c.1.1 in
      let d = le s (p + 1 + 1 + 1) 1 in
      let g = stands_check s (leb d 1) 12 _ _ q tt e.1.1 in
      let x : FillFields12 = record { version = le s p 1; space_allocation_time = a; fill_value_write_time = w; fill_value_defined = d } in
      let k = one_of a 2 c.0 in
      by_defined p (p + 1 + 1 + 1 + 1) q x (omega arith) (record {
        stands = (r, rw v (h.0, (c.1.0, (e.1.0, (refl, refl)))));
        allocation_least = omega (arith, k.0);
        allocation_most = omega (arith, k.1);
        write_time = omega (arith, eqb-true w 2 e.0);
        defined = leb-true d 1 g.0;
      }) v g.1

  fill_stands : (p q : ℕ) → Stands s fill p q tt → Or p q
  unfolding fill fill_value_message
  fill_stands p q h = go (eqb (le s p 1) 1 || eqb (le s p 1) 2) refl h.1
    where
      whole : (x : FillValue) → Stands s (pick (eqb (le s p 1) 1 || eqb (le s p 1) 2) (marked versions_1_and_2 fill_value12) (pick (eqb (le s p 1) 3) (marked version_3 fill_value3) (refuse 0))) p q x → ValidFill x → Stood {A = Unit {0}} (λ _ x. ValidFill x) fill_value_message s p q tt
      whole x i y = record { value = x; stands = version_stands s _ p q x h.0 i; related = y }

      first : Or12 p q → (eqb (le s p 1) 1 || eqb (le s p 1) 2) ≡ true → Or p q
      first (inl d) e = inl d
      first (inr x) e = inr (whole (versions_1_and_2 x.value) (rw e (marked_stands s versions_1_and_2 fill_value12 p q x.value x.stands)) x.related)

      second : (t : Bool) → eqb (le s p 1) 3 ≡ t → (eqb (le s p 1) 1 || eqb (le s p 1) 2) ≡ false → Stands s (pick t fill3 (refuse 12)) (p + 1) q tt → Or p q
      second true d e i =
          let x = fill3_tied.ties s p q tt (h.0, rw d i) in
          inr (whole (version_3 x.value) (rw (e, d) (marked_stands s version_3 fill_value3 p q x.value x.stands)) x.related)
      second false d e i = absurd i

      go : (t : Bool) → (eqb (le s p 1) 1 || eqb (le s p 1) 2) ≡ t → Stands s (pick t fill12 (pick (eqb (le s p 1) 3) fill3 (refuse 12))) (p + 1) q tt → Or p q
      go true e i = first (fill12_stands p q h.0 e i) e
      go false e i = second (eqb (le s p 1) 3) refl e i

pub fill_value_tied : TiedBut FillDiffers (λ _ x. ValidFill x) fill fill_value_message
fill_value_tied = record { ties = λ s p q a h. fill_stands s p q h }
