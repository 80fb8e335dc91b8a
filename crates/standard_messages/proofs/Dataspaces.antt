-- The dataspace as it is read is that of the specification.
-- Entries are those of docs/DIFFERENCES.md, part one. Assumes nothing.
use Rattle.std.specs.Prelude.{ℕ, zero, suc, ◌+◌, ◌≤◌, ◌≡◌, refl, ◌⊎◌, Bool, true, false, not, ◌&&◌, ◌||◌, List, [], ◌∷◌, ◌++◌, length, take, drop, set, replicate, eqb, leb, Some}
use Rattle.std.proofs.Common.{sym, ap, ◌∙◌, inl, inr, ⊎_elim, arith, eqb-true, leb-true}
use Rattle.std.proofs.lemmas.List.Edits.{sets, sets-eq}
use Rattle.std.proofs.Math.Seq.{take-append_seam}
use Rattle.std.proofs.lemmas.Bool.{not-true}
use Rattle.format.specs.Bits.{bit}
use Rattle.format.specs.Bytes.{all_ones}
use Rattle.format.specs.Format.{Format, done, number, bind, pick}
use Rattle.records.specs.Elements.{elements_by, elements_of, count_of}
use Rattle.records.specs.Elements as ours
use Rattle.records.specs.declared.Dimensions.{Dimensions}
use Rattle.records.specs.declared.DataSpace.{DataSpace}
use Rattle.parser.specs.declared.State.{State}
use Rattle.ohdr_dataspace.specs.DataSpaces.{dimension, dimensions_from, dimensions, maximum_sizes, data_space1, data_space2, data_space}
use Rattle.standard.specs.Fields.{many}
use Rattle.standard.specs.Tie.{Tied, tied_done, tied_number, tied_skip_number, tied_check, tied_bind, tied_more, tied_after}
use Rattle.standard.specs.Versions.{of_version, marked, tied_of_version, tied_version, tied_marked}
use Rattle.standard.specs.Dataspaces.{Stored, not_stored, stored, stored_sizes, dataspace1, Dataspace2, dataspace2, Dataspace, version_1, version_2, dataspace_message, product, elements}
use Rattle.standard_messages.specs.Differences.{ElementsDiffer, scalar_with_sizes}
use Rattle.standard_messages.specs.Same.{SameSizes, SameMaximum, SameDataspace1, SameDataspace2, SameDataspace}

-- the two products are one
product_same : (ns : List ℕ) → ours.product ns ≡ product ns
unfolding ours.product product
product_same [] = refl
product_same (n ∷ ns) = rw (product_same ns)

sizes_product : (d : Dimensions) (ns : List ℕ) → SameSizes d ns → ours.product (take d.count d.sizes) ≡ product ns
sizes_product d ns s = product_same (take d.count d.sizes) ∙ ap product s.size

-- by kind and sizes there are as many elements as the standard has
elements_by_lem : (d : Dimensions) (x : Dataspace2) → SameSizes d x.dimension_size → ElementsDiffer (version_2 x) ⊎ (elements_by (Some x.type) d ≡ elements (version_2 x))
unfolding product
elements_by_lem d x s = go (eqb x.type 0) refl (eqb x.type 2) refl x.dimension_size refl
  where
    p : ours.product (take d.count d.sizes) ≡ product x.dimension_size
    p = sizes_product d x.dimension_size s

    go : (a : Bool) → eqb x.type 0 ≡ a → (b : Bool) → eqb x.type 2 ≡ b → (ns : List ℕ) → x.dimension_size ≡ ns
        → ElementsDiffer (version_2 x) ⊎ (pick b 0 (ours.product (take d.count d.sizes)) ≡ pick a 1 (pick b 0 (product x.dimension_size)))
    go true e true f ns g = let y = eqb-true x.type 0 e in let z = eqb-true x.type 2 f in absurd (omega arith)
    go true e false f [] g = inr (p ∙ ap product g)
    go true e false f (n ∷ ns) g = inl (scalar_with_sizes (eqb-true x.type 0 e) (λ h. let z = sym g ∙ h in let y : ◌≡◌ {A = ℕ} 1 0 = ap (λ (l : List ℕ). elim l [ [] ↦ 0 | ◌∷◌ m ms ↦ 1 ]) z in omega arith))
    go false e true f ns g = inr refl
    go false e false f ns g = inr p

counted_by : (d : Dimensions) (x : Dataspace2) → SameSizes d x.dimension_size
    → ElementsDiffer (version_2 x) ⊎ (count_of (elements_by (Some x.type) d) ≡ count_of (elements (version_2 x)))
counted_by d x s = ⊎_elim inl (λ e. inr (ap count_of e)) (elements_by_lem d x s)

pub elements_same : (d : DataSpace) (b : Dataspace) → SameDataspace d b → ElementsDiffer b ⊎ (elements_of d ≡ elements b)
elements_same d (version_1 x) h = inr (rw h.no_type (sizes_product d.dimension_size x.dimension_size h.dimension_size))
elements_same d (version_2 x) h = rw h.type (elements_by_lem d.dimension_size x h.dimension_size)

-- the same where it is no scalar dataspace with sizes
module _ (d : DataSpace) where
  pub elements_of_lem : (b : Dataspace) → SameDataspace d b → (ElementsDiffer b → ⊥) → elements_of d ≡ elements b
  elements_of_lem b h f = ⊎_elim (λ x. absurd (f x)) (λ e. e) (elements_same d b h)

  pub elements_counted : (b : Dataspace) → SameDataspace d b → (ElementsDiffer b → ⊥) → d.elements ≡ count_of (elements b)
  elements_counted (version_1 x) h f = h.elements
  elements_counted (version_2 x) h f = ⊎_elim (λ x. absurd (f x)) (λ e. e) h.elements

-- one size
dimension_tied : (w : ℕ) (maximum : Bool) → Tied ◌≡◌ (dimension w maximum) (number w done)
unfolding dimension
dimension_tied w maximum = tied_number (λ size. tied_check (leb size 1000000 || (maximum && eqb size (all_ones w))) 9 (λ _. tied_done refl))

-- n sizes from place i of a list on
record Placed (sizes : List ℕ) (i n : ℕ) (ours theirs : List ℕ) : Type 0 where
  placed : ours ≡ sets sizes i theirs
  many_of : length theirs ≡ n

sizes_tied : (n w : ℕ) (maximum : Bool) (i : ℕ) (sizes : List ℕ) → Tied (Placed sizes i n) (dimensions_from n w maximum i sizes) (many n (number w done))
unfolding dimensions_from many marked
sizes_tied zero w maximum i sizes = tied_done (record { placed = refl; many_of = refl })
sizes_tied (suc n) w maximum i sizes =
    tied_bind (dimension_tied w maximum) (λ a b e.
    tied_marked (λ more. b ∷ more) (tied_more (one_more a b e) (sizes_tied n w maximum (i + 1) (set sizes i a))))
  where
    one_more : (a b : ℕ) → a ≡ b → (xs ys : List ℕ) → Placed (set sizes i a) (i + 1) n xs ys → Placed sizes i (suc n) xs (b ∷ ys)
    one_more a b e xs ys r =
        let d : i + 1 ≡ suc i = omega arith in
        record { placed = r.placed ∙ ap (λ (k : ℕ). sets (set sizes i a) k ys) d ∙ ap (λ (k : ℕ). sets (set sizes i k) (suc i) ys) e; many_of = ap suc r.many_of }

dimensions_tied : (n w : ℕ) (maximum : Bool) → n ≤ 4 → Tied SameSizes (dimensions n w maximum) (many n (number w done))
unfolding dimensions
dimensions_tied n w maximum h = tied_after (λ sizes. record { sizes = sizes; count = n }) (λ xs ys r. same xs ys r) (sizes_tied n w maximum 0 (replicate 4 0))
  where
    same : (xs ys : List ℕ) → Placed (replicate 4 0) 0 n xs ys → SameSizes (record { sizes = xs; count = n }) ys
    same xs ys r =
        let e : xs ≡ ys ++ drop (0 + length ys) (replicate 4 0) = r.placed ∙ sets-eq ys (replicate 4 0) 0 (omega (arith, r.many_of)) in
        record { number_of_sizes = sym r.many_of; size = rw (← r.many_of, e) (take-append_seam ys (drop (0 + length ys) (replicate 4 0))) }

maximum_tied : (n w : ℕ) (present : Bool) → n ≤ 4 → Tied SameMaximum (maximum_sizes n w present) (stored_sizes present n w)
unfolding maximum_sizes stored_sizes marked
maximum_tied n w true h = tied_marked stored (dimensions_tied n w true h)
maximum_tied n w false h = tied_done refl

-- permutation indices that are not stored
none_stored : {A B : Type 0} {R : A → B → Type 0} (present : Bool) (n w : ℕ) {F : Format A} (g : Stored → Format B) → present ≡ false → Tied R F (g not_stored) → Tied R F (bind (stored_sizes present n w) g)
unfolding stored_sizes bind
none_stored present n w g e t = rw e t

pub dataspace1_tied : (w : ℕ) → Tied SameDataspace1 (of_version 1 (data_space1 w)) (dataspace1 w)
unfolding data_space1 dataspace1
dataspace1_tied w =
    tied_of_version 1 (data_space1 w) _ (λ version.
    tied_number (λ dimensionality.
    tied_check (leb dimensionality 4) 9 (λ d.
    let few = leb-true dimensionality 4 d in
    tied_number (λ flags.
    tied_check (not (bit flags 1)) 9 (λ c.
    tied_skip_number (λ reserved.
    tied_skip_number (λ reserved_2.
    tied_bind (dimensions_tied dimensionality w false few) (λ _ _ s.
    tied_bind (maximum_tied dimensionality w (bit flags 0) few) (λ _ _ m.
    none_stored (bit flags 1) dimensionality w _ (not-true (bit flags 1) c) (
    tied_done (record { dimensionality = refl; flags = refl; no_type = refl; dimension_size = s; dimension_maximum_size = m; no_permutation_index = refl; elements = ap count_of (sizes_product _ _ s) })))))))))))

pub dataspace2_tied : (w : ℕ) → Tied SameDataspace2 (of_version 2 (data_space2 w)) (dataspace2 w)
unfolding data_space2 dataspace2
dataspace2_tied w =
    tied_of_version 2 (data_space2 w) _ (λ version.
    tied_number (λ dimensionality.
    tied_check (leb dimensionality 4) 9 (λ d.
    let few = leb-true dimensionality 4 d in
    tied_number (λ flags.
    tied_number (λ type.
    tied_bind (dimensions_tied dimensionality w false few) (λ _ _ s.
    tied_bind (maximum_tied dimensionality w (bit flags 0) few) (λ _ _ m.
    tied_done (record { dimensionality = refl; flags = refl; type = refl; dimension_size = s; dimension_maximum_size = m; elements = counted_by _ _ s }))))))))

pub dataspace_tied : (s : State) → Tied SameDataspace (data_space s) (dataspace_message s.size_of_lengths)
unfolding data_space dataspace_message
dataspace_tied s =
    let w = s.size_of_lengths in
    tied_version 1 (data_space1 w) _ (marked version_1 (dataspace1 w)) _ (tied_marked version_1 (dataspace1_tied w)) (
    tied_version 2 (data_space2 w) _ (marked version_2 (dataspace2 w)) _ (tied_marked version_2 (dataspace2_tied w)) (
    -- no other version
    record { ties = λ _ _ _ _ h. absurd h.1 }))
