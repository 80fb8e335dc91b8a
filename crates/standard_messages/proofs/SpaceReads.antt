-- A dataspace message of the standard is read, over the same bytes and with the same elements, where no value in it is refused. Assumes nothing.
use Prim.Native.Nat.{ℕ, zero, suc, ◌+◌, ◌≤◌}
use Rattle.std.proofs.Math.Path.{◌≡◌}
use Rattle.std.specs.Prelude.{refl, ◌⊎◌, Bool, ◌&&◌, ◌||◌, List, [], ◌∷◌, eqb, leb, length, replicate, set, Option, Some, None}
use Rattle.std.proofs.Common.{◌∙◌, inl, inr, arith, eq-eqb, le-leb}
use Rattle.std.proofs.Math.Bool.{true, false}
use Rattle.format.specs.Bits.{bit}
use Rattle.format.specs.Bytes.{le, all_ones}
use Rattle.format.specs.Format.{done, refuse, number, bind, pick, Stands}
use Rattle.format.specs.Standing.{stands_bind, stands_check, bind_stands}
use Rattle.records.specs.Defaults.{no_dimensions}
use Rattle.records.specs.Elements.{elements_by, count_of}
use Rattle.records.specs.declared.Dimensions.{Dimensions}
use Rattle.records.specs.declared.DataSpace.{DataSpace}
use Rattle.parser.specs.declared.State.{State}
use Rattle.ohdr_dataspace.specs.DataSpaces.{dimension, dimensions_from, dimensions, maximum_sizes, data_space1, data_space2, data_space}
use Rattle.ohdr_dataspace.specs.Answers.{data_space_sizes}
use Rattle.standard.specs.Fields.{many}
use Rattle.standard.specs.Tie.{Every}
use Rattle.standard.specs.Converse.{Reads, ReadAs, read_tied}
use Rattle.standard.specs.Versions.{by_version, marked}
use Rattle.standard.specs.Dataspaces.{Stored, not_stored, stored, stored_sizes, Dataspace1, dataspace1, Dataspace2, dataspace2, Dataspace, version_1, version_2, dataspace_message}
use Rattle.standard_messages.proofs.Dataspaces.{elements_counted, dataspace_tied}
use Rattle.standard_messages.specs.ReadMessages.{EachStored, ReadSpace}
use Rattle.standard_messages.specs.Same.{SameSpace}

-- what the port tests of one size
abbrev allowed : ℕ → Bool → ℕ → Bool
allowed w maximum n = leb n 1000000 || (maximum && eqb n (all_ones w))

size_allowed : (w n : ℕ) → n ≤ 1000000 → allowed w false n ≡ true
size_allowed w n h = rw (le-leb n 1000000 h)

maximum_allowed : (w n : ℕ) → (n ≤ 1000000) ⊎ (n ≡ all_ones w) → allowed w true n ≡ true
maximum_allowed w n (inl h) = rw (le-leb n 1000000 h)
maximum_allowed w n (inr e) = rw (eq-eqb n (all_ones w) e) (go (leb n 1000000))
  where
    go : (t : Bool) → (t || true) ≡ true
    go true = refl
    go false = refl

every : {P Q : ℕ → Type 0} → ((n : ℕ) → P n → Q n) → (ns : List ℕ) → Every P ns → Every Q ns
every f [] h = tt
every f (n ∷ ns) h = (f n h.0, every f ns h.1)

module _ (s : List ℕ) (w : ℕ) where
  sizes_read : (n : ℕ) (maximum : Bool) (i : ℕ) (sizes : List ℕ) (p q : ℕ) (xs : List ℕ) → Stands s (many n (number w done)) p q xs → Every (λ x. allowed w maximum x ≡ true) xs
      → Reads s (dimensions_from n w maximum i sizes) p q
  unfolding many dimensions_from dimension
  sizes_read zero maximum i sizes p q xs h a = (sizes, (h.0, refl))
  sizes_read (suc n) maximum i sizes p q xs h a =
      let b = stands_bind s (number w done) (λ x. bind (many n (number w done)) (λ more. done (x ∷ more))) p q xs h in
      let c = stands_bind s (many n (number w done)) (λ more. done (b.1 ∷ more)) b.0 q xs b.3 in
      let d : Every (λ x. allowed w maximum x ≡ true) (b.1 ∷ c.1) = rw (← c.3.1) at a in
      let k : Stands s (many n (number w done)) b.0 q c.1 = rw c.3.0 at c.2 in
      let r = sizes_read n maximum (i + 1) (set sizes i b.1) b.0 q c.1 k d.1 in
      (r.0, bind_stands s (dimension w maximum) (λ size. dimensions_from n w maximum (i + 1) (set sizes i size)) p b.0 q b.1 r.0 (b.2.0, rw (b.2.1.1, d.0) (b.2.1.0, refl)) r.1)

  dimensions_read : (n : ℕ) (maximum : Bool) (p q : ℕ) (xs : List ℕ) → Stands s (many n (number w done)) p q xs → Every (λ x. allowed w maximum x ≡ true) xs
      → Reads s (dimensions n w maximum) p q
  unfolding dimensions
  dimensions_read n maximum p q xs h a =
      let r = sizes_read n maximum 0 (replicate 4 0) p q xs h a in (
        record { sizes = r.0; count = n },
        bind_stands s (dimensions_from n w maximum 0 (replicate 4 0)) (λ sizes. done {A = Dimensions} (record { sizes = sizes; count = n })) p q q r.0 (record { sizes = r.0; count = n }) r.1 (refl, refl),
      )

  maximum_read : (n : ℕ) (present : Bool) (p q : ℕ) (x : Stored) → Stands s (stored_sizes present n w) p q x → EachStored (λ x. allowed w true x ≡ true) x
      → Reads s (maximum_sizes n w present) p q
  unfolding stored_sizes maximum_sizes
  maximum_read n true p q x h a =
      let b = stands_bind s (many n (number w done)) (λ sizes. done (stored sizes)) p q x h in
      let d : EachStored (λ x. allowed w true x ≡ true) (stored b.1) = rw (← b.3.1) at a in
      dimensions_read n true p q b.1 (rw b.3.0 at b.2) d
  maximum_read n false p q x h a = (no_dimensions, (h.0, refl))

  -- the sizes and the maximum sizes
  rest_read : (dimensionality flags : ℕ) (kind : Option ℕ) (p m q : ℕ) (ns : List ℕ) (x : Stored) → Stands s (many dimensionality (number w done)) p m ns
      → Stands s (stored_sizes (bit flags 0) dimensionality w) m q x → Every (λ n. n ≤ 1000000) ns → EachStored (λ n. (n ≤ 1000000) ⊎ (n ≡ all_ones w)) x
      → Reads s (data_space_sizes w dimensionality flags kind) p q
  unfolding data_space_sizes
  rest_read n flags kind p m q ns x i j a b =
      let d = dimensions_read n false p m ns i (every (size_allowed w) ns a) in
      let e = maximum_read n (bit flags 0) m q x j (stored_allowed x b) in
      let r : DataSpace = record { dimensionality = n; flags = flags; kind = kind; dimension_size = d.0; dimension_max_size = e.0; elements = count_of (elements_by kind d.0) } in (
        r,
        bind_stands s (dimensions n w false) _ p m q d.0 r d.1 (bind_stands s (maximum_sizes n w (bit flags 0)) _ m q q e.0 r e.1 (refl, refl)),
      )
    where
      stored_allowed : (x : Stored) → EachStored (λ n. (n ≤ 1000000) ⊎ (n ≡ all_ones w)) x → EachStored (λ n. allowed w true n ≡ true) x
      stored_allowed not_stored b = tt
      stored_allowed (stored ns) b = every (maximum_allowed w) ns b

  -- permutation indices that are not stored
  none_stored : (present : Bool) (n p q : ℕ) (x : Stored) → Stands s (stored_sizes present n w) p q x → x ≡ not_stored → (present ≡ false) × (p ≡ q)
  unfolding stored_sizes
  none_stored true n p q x h e =
      let b = stands_bind s (many n (number w done)) (λ sizes. done (stored sizes)) p q x h in
      let d : stored b.1 ≡ not_stored = b.3.1 ∙ e in
      let z : ◌≡◌ {A = ℕ} 0 1 = cc in
      absurd (omega arith)
  none_stored false n p q x h e = (refl, h.0)

  -- our tables: what stands before the sizes, and the sizes
  table1_stands : (p q : ℕ) (d : DataSpace) → p + 1 ≤ length s → le s p 1 ≤ 4 → p + 1 + 1 ≤ length s → bit (le s (p + 1) 1) 1 ≡ false → p + 1 + 1 + 1 ≤ length s → p + 1 + 1 + 1 + 4 ≤ length s
      → Stands s (data_space_sizes w (le s p 1) (le s (p + 1) 1) None) (p + 1 + 1 + 1 + 4) q d → Stands s (data_space1 w) p q d
  unfolding data_space1 data_space_sizes
  table1_stands p q d a n b f c e h = (a, rw (le-leb (le s p 1) 4 n) (b, rw f (c, (e, h))))

  table2_stands : (p q : ℕ) (d : DataSpace) → p + 1 ≤ length s → le s p 1 ≤ 4 → p + 1 + 1 ≤ length s → p + 1 + 1 + 1 ≤ length s
      → Stands s (data_space_sizes w (le s p 1) (le s (p + 1) 1) (Some (le s (p + 1 + 1) 1))) (p + 1 + 1 + 1) q d → Stands s (data_space2 w) p q d
  unfolding data_space2 data_space_sizes
  table2_stands p q d a n b c h = (a, rw (le-leb (le s p 1) 4 n) (b, (c, h)))

  -- the table of version 1, and that of version 2
  table1_read : (p q : ℕ) (x : Dataspace1) → Stands s (dataspace1 w) p q x → ReadSpace w (version_1 x) → Reads s (data_space1 w) (p + 1) q
  unfolding dataspace1
  table1_read p q x h r =
      let n = le s (p + 1) 1 in
      let flags = le s (p + 1 + 1) 1 in
      let c = stands_check s (eqb (le s p 1) 1) 0 _ (p + 1) q x h.1 in
      let b = stands_bind s (many n (number w done)) _ (p + 1 + 1 + 1 + 1 + 4) q x c.1.1.1.1.1 in
      let d = stands_bind s (stored_sizes (bit flags 0) n w) _ b.0 q x b.3 in
      let g = stands_bind s (stored_sizes (bit flags 1) n w) _ d.0 q x d.3 in
      let a = rw (← g.3.1) at r in
      let e = none_stored (bit flags 1) n d.0 g.0 g.1 g.2 a.no_permutation in
      let u : d.0 ≡ q = omega (arith, e.1, g.3.0) in
      let m = rest_read n flags None (p + 1 + 1 + 1 + 1 + 4) b.0 q b.1 d.1 b.2 (rw u at d.2) a.sizes a.maximum_sizes_lem in
      (m.0, table1_stands (p + 1) q m.0 c.1.0 a.few c.1.1.0 e.0 c.1.1.1.0 c.1.1.1.1.0 m.1)

  table2_read : (p q : ℕ) (x : Dataspace2) → Stands s (dataspace2 w) p q x → ReadSpace w (version_2 x) → Reads s (data_space2 w) (p + 1) q
  unfolding dataspace2
  table2_read p q x h r =
      let n = le s (p + 1) 1 in
      let flags = le s (p + 1 + 1) 1 in
      let c = stands_check s (eqb (le s p 1) 2) 0 _ (p + 1) q x h.1 in
      let b = stands_bind s (many n (number w done)) _ (p + 1 + 1 + 1 + 1) q x c.1.1.1.1 in
      let d = stands_bind s (stored_sizes (bit flags 0) n w) _ b.0 q x b.3 in
      let a = rw (← d.3.1) at r in
      let m = rest_read n flags (Some (le s (p + 1 + 1 + 1) 1)) (p + 1 + 1 + 1 + 1) b.0 q b.1 d.1 b.2 (rw d.3.0 at d.2) a.sizes a.maximum_sizes_lem in
      (m.0, table2_stands (p + 1) q m.0 c.1.0 a.few c.1.1.0 c.1.1.1.0 m.1)

-- the version, and the table of that version
message_read : (s : List ℕ) (state : State) (p q : ℕ) (x : Dataspace) → Stands s (dataspace_message state.size_of_lengths) p q x → ReadSpace state.size_of_lengths x
    → Reads s (data_space state) p q
unfolding data_space dataspace_message by_version marked
message_read s state p q x h r = go (eqb h.1 1) (eqb h.1 2) refl refl h.3
  where
    w : ℕ
    w = state.size_of_lengths

    go : (one two : Bool) → eqb h.1 1 ≡ one → eqb h.1 2 ≡ two → Stands s (pick one (marked version_1 (dataspace1 w)) (pick two (marked version_2 (dataspace2 w)) (refuse 0))) p q x
        → Reads s (data_space state) p q
    go true two e f i =
        let c = stands_bind s (dataspace1 w) (λ y. done (version_1 y)) p q x i in
        let d = table1_read s w p q c.1 (rw c.3.0 at c.2) (rw (← c.3.1) at r) in
        (d.0, (h.2.0, rw (h.2.1.1, e) d.1))
    go false true e f i =
        let c = stands_bind s (dataspace2 w) (λ y. done (version_2 y)) p q x i in
        let d = table2_read s w p q c.1 (rw c.3.0 at c.2) (rw (← c.3.1) at r) in
        (d.0, (h.2.0, rw (h.2.1.1, e, f) d.1))
    go false false e f i = absurd i

-- It has the standard's fields, and as many elements.
pub dataspace_is_read : (s : List ℕ) (state : State) (p q : ℕ) (x : Dataspace) → Stands s (dataspace_message state.size_of_lengths) p q x → ReadSpace state.size_of_lengths x
    → ReadAs SameSpace (data_space state) s p q x
dataspace_is_read s state p q x h r =
    let y = read_tied (dataspace_tied state) s p q x h q (message_read s state p q x h r) in
    record { value = y.value; stands = y.stands; related = record { fields = y.related; elements = elements_counted y.value x y.related r.no_scalar_with_sizes } }
