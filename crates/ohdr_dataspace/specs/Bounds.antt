-- What a dataspace that stands is bounded by: at most four sizes, each at most 1,000,000; and its record is true. Assumes nothing.
use Prim.Native.Nat.{ℕ, zero, suc, ◌+◌, ◌≤◌, ◌<◌}
use Rattle.std.specs.Prelude.{◌≡◌, Bool, ◌&&◌, ◌||◌, not, List, [], ◌∷◌, replicate, set, get_or, Option, Some, None}
use Rattle.std.proofs.Math.Path.{refl}
use Rattle.std.proofs.Common.{◌∙◌, arith}
use Rattle.std.proofs.Math.Bool.{true, false}
use Rattle.std.proofs.Math.Dec.{eqb, leb}
use borrow.Author.Tests.{leb-true}
use Rattle.format.specs.Bits.{bit}
use Rattle.format.specs.Bytes.{le, all_ones}
use Rattle.format.specs.Format.{done, refuse, pick, Stands}
use Rattle.records.specs.Elements.{TrueSpace}
use Rattle.records.specs.declared.Dimensions.{Dimensions}
use Rattle.records.specs.declared.DataSpace.{DataSpace}
use Rattle.parser.specs.declared.State.{State}
use Rattle.ohdr_dataspace.specs.DataSpaces.{dimension, dimensions_from, dimensions, maximum_sizes, data_space1, data_space2, data_space}
use Rattle.format.specs.Standing.{stands_bind, stands_check}
use Rattle.ohdr_dataspace.specs.Answers.{data_space_sizes}

pub record Bounded (d : DataSpace) : Type 0 where
  pub counted : d.dimension_size.count ≡ d.dimensionality
  pub few : d.dimension_size.count ≤ 4
  pub small : (i : ℕ) → i < d.dimension_size.count → get_or d.dimension_size.sizes i 0 ≤ 1000000
  pub is_true : TrueSpace d

-- every element of a list is small
abbrev Small : List ℕ → Type 0
Small xs = (i : ℕ) → get_or xs i 0 ≤ 1000000

small_zeros : (n : ℕ) → Small (replicate n 0)
small_zeros zero i = omega arith
small_zeros (suc n) zero = omega arith
small_zeros (suc n) (suc i) = small_zeros n i

small_set : (xs : List ℕ) (j x : ℕ) → x ≤ 1000000 → Small xs → Small (set xs j x)
small_set [] j x h f i = f i
small_set (y ∷ ys) zero x h f zero = h
small_set (y ∷ ys) zero x h f (suc i) = f (suc i)
small_set (y ∷ ys) (suc j) x h f zero = f zero
small_set (y ∷ ys) (suc j) x h f (suc i) = small_set ys j x h (λ k. f (suc k)) i

module _ (file : List ℕ) (w : ℕ) where
  -- a size that may not be unlimited
  size_small : (p q x : ℕ) → Stands file (dimension w false) p q x → x ≤ 1000000
  unfolding dimension
  size_small p q x h =
      let v = le file p w in
      let c = stands_check file (leb v 1000000 || (false && eqb v (all_ones w))) 9 (done v) (p + w) q x h.1 in
      rw (← c.1.1) (limit (leb v 1000000) refl c.0)
    where
      limit : (t : Bool) → leb (le file p w) 1000000 ≡ t → (t || (false && eqb (le file p w) (all_ones w))) ≡ true → le file p w ≤ 1000000
      limit true e d = leb-true (le file p w) 1000000 e
      limit false e d = leb-true (le file p w) 1000000 (e ∙ d)

  sizes_small : (n i : ℕ) (xs : List ℕ) (p q : ℕ) (ys : List ℕ) → Stands file (dimensions_from n w false i xs) p q ys → Small xs → Small ys
  unfolding dimensions_from
  sizes_small zero i xs p q ys h f = rw (← h.1) f
  sizes_small (suc n) i xs p q ys h f =
      let b = stands_bind file (dimension w false) (λ size. dimensions_from n w false (i + 1) (set xs i size)) p q ys h in
      sizes_small n (i + 1) (set xs i b.1) b.0 q ys b.3 (small_set xs i b.1 (size_small p b.0 b.1 b.2) f)

  dimensions_small : (n p q : ℕ) (d : Dimensions) → Stands file (dimensions n w false) p q d → (d.count ≡ n) × Small d.sizes
  unfolding dimensions
  dimensions_small n p q d h =
      let b = stands_bind file (dimensions_from n w false 0 (replicate 4 0)) (λ sizes. done {A = Dimensions} (record { sizes = sizes; count = n })) p q d h in
      rw (← b.3.1) (refl, sizes_small n 0 (replicate 4 0) p b.0 b.1 b.2 (small_zeros 4))

  sizes_bounded : (n flags : ℕ) (kind : Option ℕ) (p q : ℕ) (d : DataSpace) → n ≤ 4 → Stands file (data_space_sizes w n flags kind) p q d → Bounded d
  unfolding data_space_sizes
  sizes_bounded n flags kind p q d few r =
      let a = stands_bind file (dimensions n w false) _ p q d r in
      let b = stands_bind file (maximum_sizes n w (bit flags 0)) _ a.0 q d a.3 in
      let c = dimensions_small n p a.0 a.1 a.2 in
      rw (← b.3.1) (record { counted = c.0; few = rw c.0 few; small = λ i _. c.1 i; is_true = refl })

  -- the table of version 1, and that of version 2
  table1_bounded : (p q : ℕ) (d : DataSpace) → Stands file (data_space1 w) p q d → Bounded d
  unfolding data_space1 data_space_sizes
  table1_bounded p q d h =
      let n = le file p 1 in
      let flags = le file (p + 1) 1 in
      let few = stands_check file (leb n 4) 9 _ (p + 1) q d h.1 in
      let clear = stands_check file (not (bit flags 1)) 9 _ (p + 1 + 1) q d few.1.1 in
      sizes_bounded n flags None (p + 1 + 1 + 1 + 4) q d (leb-true n 4 few.0) clear.1.1.1

  table2_bounded : (p q : ℕ) (d : DataSpace) → Stands file (data_space2 w) p q d → Bounded d
  unfolding data_space2 data_space_sizes
  table2_bounded p q d h =
      let n = le file p 1 in
      let few = stands_check file (leb n 4) 9 _ (p + 1) q d h.1 in
      sizes_bounded n (le file (p + 1) 1) (Some (le file (p + 1 + 1) 1)) (p + 1 + 1 + 1) q d (leb-true n 4 few.0) few.1.1.1

pub bounded : (file : List ℕ) (s : State) (p q : ℕ) (d : DataSpace) → Stands file (data_space s) p q d → Bounded d
unfolding data_space
bounded file s p q d h = go (eqb (le file p 1) 1) (eqb (le file p 1) 2) h.1
  where
    w : ℕ
    w = s.size_of_lengths

    go : (one two : Bool) → Stands file (pick one (data_space1 w) (pick two (data_space2 w) (refuse 9))) (p + 1) q d → Bounded d
    go true two i = table1_bounded file w (p + 1) q d i
    go false true i = table2_bounded file w (p + 1) q d i
    go false false i = absurd i
