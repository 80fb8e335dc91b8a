-- The filter pipeline as it is read is that of the specification, but for names.
-- Entries are those of docs/DIFFERENCES.md, part one. Assumes nothing.
use Rattle.std.specs.Prelude.{ℕ, ◌+◌, ◌*◌, ◌%◌, ◌≤◌, ◌<◌, ◌≡◌, ◌⊎◌, Bool, ◌||◌, leb, ltb}
use Rattle.std.proofs.Math.Path.{refl}
use Rattle.std.proofs.Common.{ap}
use Rattle.std.proofs.Math.Logic.{inl, inr}
use Rattle.std.proofs.Math.Bool.{true, false}
use mathlib.Core.List.{List}
use native.Mathlib.Omega.{arith}
use Rattle.std.proofs.Math.ListN.{length}
use Rattle.std.proofs.Math.Dec.{eqb}
use borrow.Author.Tests.{eqb-true, eqb-false, lt-leb, ltb-true}
use Rattle.format.specs.Bytes.{le}
use Rattle.format.specs.BytesLaws.{by_le, le_split}
use Rattle.format.specs.Format.{Format, done, number, skip, bind, times, check, pick, nothing, Stands}
use Rattle.format.specs.Standing.{stands_bind, stands_check, bind_stands}
use Rattle.ohdr_storage.specs.Storage.{padded_name, filter1, filter2, filter_of, reserved, filter_pipeline}
use Rattle.standard.specs.Fields.{absent, present, optional, raw, many}
use Rattle.standard.specs.Tie.{Tied, TiedBut, Stood, Among, Every, but_times, tied_done, tied_raw, tied_skip_many, tied_skip_none, tied_skip_number, tied_more, onward}
use Rattle.standard.specs.Versions.{version_stands, marked, marked_stands, tied_marked}
use Rattle.standard.specs.Storage.{FilterFields1, filter_fields1, FilterDescription1, filter_description1, PipelineFields1, pipeline_fields1, filter_pipeline1}
use Rattle.standard.specs.Storage.{FilterFields2, filter_fields2, or_none, FilterDescription2, filter_description2, PipelineFields2, pipeline_fields2, filter_pipeline2, ValidFilterPipeline2, version_1, version_2, filter_pipeline_message}
use Rattle.standard_messages.specs.Differences.{FilterDiffers1, no_multiple_of_8, from_65529, FilterDiffers2, with_a_name, PipelineDiffers, in_version_1, in_version_2}
use Rattle.standard_messages.specs.Same.{NamePadded, ValidPipeline1, ValidPipeline}

-- four bytes more where the number of values is odd
padding_tied : (n : ℕ) → Tied (λ _ _. Unit {0}) (skip (4 * (n % 2)) nothing) (optional (eqb (n % 2) 1) 4)
unfolding optional
padding_tied n = go (eqb (n % 2) 1) refl
  where
    go : (t : Bool) → eqb (n % 2) 1 ≡ t → Tied (λ _ _. Unit {0}) (skip (4 * (n % 2)) nothing) (pick t (number 4 (λ k. done (present k))) (done absent))
    go true e = let d : 4 * (n % 2) ≡ 4 = omega (arith, eqb-true (n % 2) 1 e) in rw d (tied_skip_number (λ k. tied_done tt))
    go false e = let z = eqb-false (n % 2) 1 e in let d : 4 * (n % 2) ≡ 0 = omega arith in rw d (tied_skip_none (tied_done tt))

-- what follows the fields of version 1
rest1_tied : (x : FilterFields1) → x.name_length % 8 ≡ 0
    → Tied (λ _ y. NamePadded y) (skip x.name_length (skip (4 * x.number_client_data_values) (skip (4 * (x.number_client_data_values % 2)) nothing)))
    (bind (raw x.name_length) (λ name. bind (many x.number_client_data_values (number 4 done)) (λ client_data. bind (optional (eqb (x.number_client_data_values % 2) 1) 4) (λ padding. done {A = FilterDescription1} (record { fields = x; name = name; client_data = client_data; padding = padding })))))
unfolding marked
rest1_tied x e =
    tied_raw (λ name _.
    tied_skip_many 4 x.number_client_data_values (λ client_data.
    tied_marked (λ padding. record { fields = x; name = name; client_data = client_data; padding = padding })
    (tied_more (λ _ _ _. e) (padding_tied x.number_client_data_values))))

-- what follows the fields of version 2, without a name
rest2_tied : (x : FilterFields2) (k : ℕ) → k ≡ 0
    → Tied (λ _ _. Unit {0}) (skip 0 (skip (4 * x.number_client_data_values) nothing))
    (bind (raw k) (λ name. bind (many x.number_client_data_values (number 4 done)) (λ client_data. done {A = FilterDescription2} (record { fields = x; name = name; client_data = client_data }))))
rest2_tied x k e = rw e (tied_raw (λ name _. tied_skip_many 4 x.number_client_data_values (λ client_data. tied_done tt)))

-- a name length that is passed over as it stands
pub padded_same : (n : ℕ) → n % 8 ≡ 0 → n < 65529 → padded_name n ≡ n
padded_same n e h = omega arith

module _ (s : List ℕ) where
  -- a filter of version 1, by its name length
  filter1_by : (p m q : ℕ) (x : FilterFields1) → m ≡ p + 8 → Stands s filter_fields1 p m x
      → Stands s (skip (padded_name x.name_length) (skip (4 * x.number_client_data_values) (skip (4 * (x.number_client_data_values % 2)) nothing))) m q tt
      → FilterDiffers1 s p ⊎ Stood {A = Unit {0}} (λ _ y. NamePadded y) filter_description1 s p q tt
  unfolding filter_description1
  filter1_by p m q x d f h = by_le 65529 x.name_length (λ l. inl (from_65529 x i l)) (λ l. go (eqb (x.name_length % 8) 0) refl l)
    where
      i : Stands s filter_fields1 p (p + 8) x
      i = rw (← d) f

      go : (t : Bool) → eqb (x.name_length % 8) 0 ≡ t → x.name_length < 65529 → FilterDiffers1 s p ⊎ Stood {A = Unit {0}} (λ _ y. NamePadded y) filter_description1 s p q tt
      go true e l =
          let c = eqb-true (x.name_length % 8) 0 e in
          let y = (rest1_tied x c).ties s m q tt (rw (padded_same x.name_length c l) at h) in
          inr (onward y (λ b j. bind_stands s filter_fields1 _ p m q x b f j))
      go false e l = inl (no_multiple_of_8 x i (eqb-false (x.name_length % 8) 0 e))

  filter1_stands : (p q : ℕ) → Stands s filter1 p q tt → FilterDiffers1 s p ⊎ Stood {A = Unit {0}} (λ _ y. NamePadded y) filter_description1 s p q tt
  unfolding filter1 filter_fields1
  filter1_stands p q h =
      let x : FilterFields1 = record { filter_identification_value = le s p 2; name_length = le s (p + 2) 2; flags = le s (p + 2 + 2) 2; number_client_data_values = le s (p + 2 + 2 + 2) 2 } in
      let c = stands_check s (leb x.number_client_data_values 4096) 16 _ _ q tt h.1.1.1.1 in
      filter1_by p (p + 2 + 2 + 2 + 2) q x (omega arith) (h.0, (h.1.0, (h.1.1.0, (h.1.1.1.0, (refl, refl))))) c.1

  filter2_by : (p m q : ℕ) (x : FilterFields2) → Stands s filter_fields2 p m x → x.name_length ≡ absent → Stands s (skip (4 * x.number_client_data_values) nothing) m q tt → m ≤ length s
      → Stood {A = Unit {0}} (λ _ _. Unit {0}) filter_description2 s p q tt
  unfolding filter_description2
  filter2_by p m q x f e h r =
      let d : m + 0 ≡ m = omega arith in
      let i : Stands s (skip (4 * x.number_client_data_values) nothing) (m + 0) q tt = rw d h in
      onward ((rest2_tied x (or_none x.name_length) (ap or_none e)).ties s m q tt (omega arith, i)) (λ b j. bind_stands s filter_fields2 _ p m q x b f j)

  filter2_stands : (p q : ℕ) → Stands s filter2 p q tt → FilterDiffers2 s p ⊎ Stood {A = Unit {0}} (λ _ _. Unit {0}) filter_description2 s p q tt
  unfolding filter2 filter_fields2 optional bind
  filter2_stands p q h =
      let x : FilterFields2 = record { filter_identification_value = le s p 2; name_length = absent; flags = le s (p + 2) 2; number_client_data_values = le s (p + 2 + 2) 2 } in
      let c = stands_check s (leb x.number_client_data_values 4096) 16 _ _ q tt h.1.1.1 in
      by_le 256 (le s p 2) (λ l. inl (with_a_name (le s p 2) (h.0, (refl, refl)) l))
      (λ l. inr (filter2_by p (p + 2 + 2 + 2) q x (h.0, rw (lt-leb 256 (le s p 2) l) (h.1.0, (h.1.1.0, (refl, refl)))) refl c.1 h.1.1.0))

pub filter1_tied : TiedBut FilterDiffers1 (λ _ y. NamePadded y) filter1 filter_description1
filter1_tied = record { ties = λ s p q a h. filter1_stands s p q h }

pub filter2_tied : TiedBut FilterDiffers2 (λ _ _. Unit {0}) filter2 filter_description2
filter2_tied = record { ties = λ s p q a h. filter2_stands s p q h }

module _ (s : List ℕ) where
  -- the message, but for the differences
  abbrev Or : ℕ → ℕ → Type 0
  Or p q = PipelineDiffers s p ⊎ Stood {A = Unit {0}} (λ _ x. ValidPipeline x) filter_pipeline_message s p q tt

  -- fields, and then a list of so many filters as they say
  listed : {X Y Z : Type 0} (P : Y → Type 0) (D : List ℕ → ℕ → Type 0) (F : Format (Unit {0})) (G : Format Y) (fields : Format X) (n : X → ℕ) (make : X → List Y → Z) → TiedBut D (λ _ y. P y) F G
      → (p m q : ℕ) (x : X) → Stands s fields p m x → Stands s (times (n x) F nothing) m q tt
      → Among D G s (n x) m ⊎ ((l : List Y) × Every P l × Stands s (bind fields (λ x. bind (many (n x) G) (λ l. done (make x l)))) p q (make x l))
  listed {Y = Y} P D F G fields n make t p m q x f h = go ((but_times P D F G (n x) t).ties s m q tt h)
    where
      go : Among D G s (n x) m ⊎ Stood {A = Unit {0}} (λ _ l. Every P l) (many (n x) G) s m q tt
          → Among D G s (n x) m ⊎ ((l : List Y) × Every P l × Stands s (bind fields (λ x. bind (many (n x) G) (λ l. done (make x l)))) p q (make x l))
      go (inl d) = inl d
      go (inr y) = inr (y.value, y.related, bind_stands s fields _ p m q x (make x y.value) f (bind_stands s (many (n x) G) _ m q q y.value (make x y.value) y.stands (refl, refl)))

  filters1_stand : (p m q : ℕ) (x : PipelineFields1) → Stands s pipeline_fields1 p m x → x.number_of_filters < 32 → x.reserved ≡ 0 → x.reserved_2 ≡ 0
      → Stands s (times x.number_of_filters filter1 nothing) m q tt → PipelineDiffers s p ⊎ Stood {A = Unit {0}} (λ _ y. ValidPipeline1 y) filter_pipeline1 s p q tt
  unfolding filter_pipeline1
  filters1_stand p m q x f n z z2 h = go (listed NamePadded FilterDiffers1 filter1 filter_description1 pipeline_fields1 (λ y. y.number_of_filters) (λ y l. record { fields = y; filter_description_list = l }) filter1_tied p m q x f h)
    where
      go : Among FilterDiffers1 filter_description1 s x.number_of_filters m ⊎ ((l : List FilterDescription1) × Every NamePadded l × Stands s filter_pipeline1 p q (record { fields = x; filter_description_list = l }))
          → PipelineDiffers s p ⊎ Stood {A = Unit {0}} (λ _ y. ValidPipeline1 y) filter_pipeline1 s p q tt
      go (inl d) = inl (in_version_1 m x f d)
      go (inr y) = inr (record { value = record { fields = x; filter_description_list = y.0 }; stands = y.2; related = record { fields_valid = record { number_of_filters = omega arith; reserved = z; reserved_2 = z2 }; names_padded = y.1 } })

  filters2_stand : (p m q : ℕ) (x : PipelineFields2) → Stands s pipeline_fields2 p m x → x.number_of_filters < 32
      → Stands s (times x.number_of_filters filter2 nothing) m q tt → PipelineDiffers s p ⊎ Stood {A = Unit {0}} (λ _ y. ValidFilterPipeline2 y) filter_pipeline2 s p q tt
  unfolding filter_pipeline2
  filters2_stand p m q x f n h = go (listed (λ _. Unit {0}) FilterDiffers2 filter2 filter_description2 pipeline_fields2 (λ y. y.number_of_filters) (λ y l. record { fields = y; filter_description_list = l }) filter2_tied p m q x f h)
    where
      go : Among FilterDiffers2 filter_description2 s x.number_of_filters m ⊎ ((l : List FilterDescription2) × Every (λ _. Unit {0}) l × Stands s filter_pipeline2 p q (record { fields = x; filter_description_list = l }))
          → PipelineDiffers s p ⊎ Stood {A = Unit {0}} (λ _ y. ValidFilterPipeline2 y) filter_pipeline2 s p q tt
      go (inl d) = inl (in_version_2 m x f d)
      go (inr y) = inr (record { value = record { fields = x; filter_description_list = y.0 }; stands = y.2; related = record { number_of_filters = omega arith } })

  -- by the version
  whole1 : (p q : ℕ) → p + 1 ≤ length s → eqb (le s p 1) 1 ≡ true → PipelineDiffers s p ⊎ Stood {A = Unit {0}} (λ _ y. ValidPipeline1 y) filter_pipeline1 s p q tt → Or p q
  unfolding filter_pipeline_message
  whole1 p q r e (inl d) = inl d
  whole1 p q r e (inr x) = inr (record { value = version_1 x.value; stands = version_stands s _ p q _ r (rw e (marked_stands s version_1 filter_pipeline1 p q x.value x.stands)); related = x.related })

  whole2 : (p q : ℕ) → p + 1 ≤ length s → eqb (le s p 1) 1 ≡ false → eqb (le s p 1) 2 ≡ true → PipelineDiffers s p ⊎ Stood {A = Unit {0}} (λ _ y. ValidFilterPipeline2 y) filter_pipeline2 s p q tt → Or p q
  unfolding filter_pipeline_message
  whole2 p q r e d (inl w) = inl w
  whole2 p q r e d (inr x) = inr (record { value = version_2 x.value; stands = version_stands s _ p q _ r (rw (e, d) (marked_stands s version_2 filter_pipeline2 p q x.value x.stands)); related = x.related })

  pipeline_stands : (p q : ℕ) → Stands s filter_pipeline p q tt → Or p q
  unfolding filter_pipeline reserved filter_of pipeline_fields1 pipeline_fields2
  pipeline_stands p q h =
      let v = le s p 1 in
      let c = stands_check s (eqb v 1 || eqb v 2) 16 _ _ q tt h.1 in
      let n = le s (p + 1) 1 in
      let g = stands_check s (ltb n 32) 16 _ _ q tt c.1.1 in
      let b = stands_bind s (reserved v) (λ _. times n (filter_of v) nothing) (p + 1 + 1) q tt g.1 in
      go (eqb v 1) refl c.0 c.1.0 (ltb-true n 32 g.0) b.0 b.2 b.3
    where
      go : (t : Bool) → eqb (le s p 1) 1 ≡ t → (t || eqb (le s p 1) 2) ≡ true → p + 1 + 1 ≤ length s → le s (p + 1) 1 < 32 → (m : ℕ)
          → Stands s (pick t (number 6 (λ zeros. check (eqb zeros 0) 16 nothing)) nothing) (p + 1 + 1) m tt
          → Stands s (times (le s (p + 1) 1) (pick t filter1 filter2) nothing) m q tt → Or p q
      go true e o r n m z i =
          let a = p + 1 + 1 in
          let c = stands_check s (eqb (le s a 6) 0) 16 nothing (a + 6) m tt z.1 in
          let d = eqb-true (le s a 6) 0 c.0 in
          let k = le_split s a 2 4 in
          let x : PipelineFields1 = record { version = le s p 1; number_of_filters = le s (p + 1) 1; reserved = le s a 2; reserved_2 = le s (a + 2) 4 } in
          let y : a + 2 + 4 ≡ m = omega (arith, c.1.0) in
          let u : a + 2 ≤ length s = omega (arith, z.0) in
          let w : a + 2 + 4 ≤ length s = omega (arith, z.0) in
          whole1 p q h.0 e (filters1_stand p m q x (h.0, rw e (r, (u, (w, (y, refl))))) n (omega arith) (omega arith) i)
      go false e o r n m z i =
          let x : PipelineFields2 = record { version = le s p 1; number_of_filters = le s (p + 1) 1 } in
          whole2 p q h.0 e o (filters2_stand p m q x (h.0, rw o (r, (z.0, refl))) n i)

pub filter_pipeline_tied : TiedBut PipelineDiffers (λ _ x. ValidPipeline x) filter_pipeline filter_pipeline_message
filter_pipeline_tied = record { ties = λ s p q a h. pipeline_stands s p q h }
