-- A filter pipeline of the specification is read, where `ReadPipeline` holds of it. Assumes nothing.
use Prim.Native.Nat.{ℕ, zero, suc, ◌+◌, ◌*◌, ◌%◌, ◌≤◌, ◌<◌}
use Rattle.std.proofs.Math.Path.{◌≡◌, refl, sym, ap}
use Rattle.std.proofs.Common.{◌∙◌}
use Rattle.std.specs.Prelude.{Bool, List, ◌∷◌}
use Rattle.std.proofs.Math.Bool.{true, false}
use native.Mathlib.Omega.{arith}
use Rattle.std.proofs.Math.ListN.{length}
use Rattle.std.proofs.Math.Dec.{eqb, leb}
use borrow.Author.Tests.{eqb-true, eqb-false, le-leb, lt-ltb, lt-leb}
use Rattle.format.specs.Bytes.{le}
use Rattle.format.specs.BytesLaws.{le_split}
use Rattle.format.specs.Format.{Format, done, refuse, number, bind, times, pick, nothing, Stands}
use Rattle.format.specs.Standing.{stands_bind, stands_check, bind_stands}
use Rattle.ohdr_storage.specs.Storage.{padded_name, filter1, filter2, filter_of, reserved, filter_pipeline}
use Rattle.standard.specs.Fields.{Optional, absent, present, optional, raw, many}
use Rattle.standard.specs.Tie.{Every}
use Rattle.standard.specs.Converse.{Reads}
use Rattle.standard.specs.Versions.{by_version, marked}
use Rattle.standard.specs.Storage.{FilterFields1, filter_fields1, FilterDescription1, filter_description1, PipelineFields1, pipeline_fields1, FilterPipeline1, filter_pipeline1}
use Rattle.standard.specs.Storage.{FilterFields2, filter_fields2, or_none, FilterDescription2, filter_description2, PipelineFields2, pipeline_fields2, FilterPipeline2, filter_pipeline2, FilterPipeline, version_1, version_2, filter_pipeline_message}
use Rattle.standard_messages.proofs.Filters.{padded_same}
use Rattle.standard_messages.specs.ReadMessages.{ReadFilter1, ReadPipeline1, ReadFilter2, ReadPipeline2, ReadPipeline}

module _ (s : List ℕ) where
  -- numbers of one width fill so many bytes
  many_end : (w n p q : ℕ) (xs : List ℕ) → p ≤ length s → Stands s (many n (number w done)) p q xs → (q ≡ p + w * n) × (q ≤ length s)
  unfolding many
  many_end w zero p q xs r h = (omega (arith, h.0), omega (arith, h.0))
  many_end w (suc n) p q xs r h =
      let a = stands_bind s (number w done) (λ x. bind (many n (number w done)) (λ more. done (x ∷ more))) p q xs h in
      let b = stands_bind s (many n (number w done)) (λ more. done (a.1 ∷ more)) a.0 q xs a.3 in
      let e = many_end w n a.0 b.0 b.1 (omega (arith, a.2.0, a.2.1.0)) b.2 in
      (omega (arith, e.0, a.2.1.0, b.3.0), omega (arith, e.1, b.3.0))

  -- four bytes more where their number is odd
  padding_end : (n p q : ℕ) (o : Optional ℕ) → p ≤ length s → Stands s (optional (eqb (n % 2) 1) 4) p q o → (q ≡ p + 4 * (n % 2)) × (q ≤ length s)
  unfolding optional
  padding_end n p q o r h = go (eqb (n % 2) 1) refl h
    where
      go : (t : Bool) → eqb (n % 2) 1 ≡ t → Stands s (pick t (number 4 (λ k. done (present k))) (done absent)) p q o → (q ≡ p + 4 * (n % 2)) × (q ≤ length s)
      go true e i = let z = eqb-true (n % 2) 1 e in (omega (arith, i.1.0), omega (arith, i.0, i.1.0))
      go false e i = let z = eqb-false (n % 2) 1 e in (omega (arith, i.0), omega (arith, i.0))

  -- filters, one by one
  each_read : {A B : Type 0} (C : B → Type 0) (F : Format A) (G : Format B) → ((p q : ℕ) (x : B) → Stands s G p q x → C x → Reads s F p q)
      → (n p q : ℕ) (xs : List B) → Stands s (many n G) p q xs → Every C xs → Reads s (times n F nothing) p q
  unfolding many times
  each_read C F G f zero p q xs h r = (tt, (h.0, refl))
  each_read C F G f (suc n) p q xs h r =
      let a = stands_bind s G (λ x. bind (many n G) (λ more. done (x ∷ more))) p q xs h in
      let b = stands_bind s (many n G) (λ more. done (a.1 ∷ more)) a.0 q xs a.3 in
      let d : Every C (a.1 ∷ b.1) = rw (← b.3.1) at r in
      let k : Stands s (many n G) a.0 q b.1 = rw b.3.0 at b.2 in
      let y = f p a.0 a.1 a.2 d.0 in
      let z = each_read C F G f n a.0 q b.1 k d.1 in
      (tt, bind_stands s F (λ _. times n F nothing) p a.0 q y.0 tt y.1 z.1)

  -- a filter of version 1, by the numbers of its fields
  filter1_stands : (p m u v q n k : ℕ) → p + 2 ≤ length s → p + 2 + 2 ≤ length s → p + 2 + 2 + 2 ≤ length s → p + 2 + 2 + 2 + 2 ≤ length s → le s (p + 2) 2 ≡ k → le s (p + 2 + 2 + 2) 2 ≡ n → n ≤ 4096
      → padded_name k ≡ k → p + 2 + 2 + 2 + 2 ≡ m → m + k ≤ length s → m + k ≡ u → u + 4 * n ≤ length s → u + 4 * n ≡ v → v + 4 * (n % 2) ≤ length s → v + 4 * (n % 2) ≡ q → Stands s filter1 p q tt
  unfolding filter1
  filter1_stands p m u v q n k a b c d ek en l w em r1 eu r2 ev r3 eq = (a, (b, (c, (d, rw (en, le-leb n 4096 l, ek, w, em) (r1, rw eu (r2, rw ev (r3, (eq, refl))))))))

  filter1_read : (p q : ℕ) (x : FilterDescription1) → Stands s filter_description1 p q x → ReadFilter1 x → Reads s filter1 p q
  unfolding filter_description1 filter_fields1 raw
  filter1_read p q x h r =
      let a = stands_bind s filter_fields1 _ p q x h in
      let k = a.1.name_length in
      let n = a.1.number_client_data_values in
      let b = stands_bind s (raw k) _ a.0 q x a.3 in
      let c = stands_bind s (many n (number 4 done)) _ b.0 q x b.3 in
      let d = stands_bind s (optional (eqb (n % 2) 1) 4) _ c.0 q x c.3 in
      let e = a.2.1.1.1.1 in
      let t : ReadFilter1 (record { fields = a.1; name = b.1; client_data = c.1; padding = d.1 }) = rw (← d.3.1) at r in
      let f = many_end 4 n b.0 c.0 c.1 (omega (arith, b.2.0, b.2.1.0)) c.2 in
      let g = padding_end n c.0 d.0 d.1 f.1 d.2 in (
        tt,
        filter1_stands p a.0 b.0 c.0 q n k a.2.0 a.2.1.0 a.2.1.1.0 a.2.1.1.1.0 (ap (λ (y : FilterFields1). y.name_length) e.1) (ap (λ (y : FilterFields1). y.number_client_data_values) e.1) t.values
            (padded_same k t.name_padded t.name_short) e.0 b.2.0 b.2.1.0 (omega (arith, f.0, f.1)) (sym f.0) (omega (arith, g.0, g.1)) (omega (arith, g.0, d.3.0)),
      )

  -- a filter of version 2
  filter2_stands : (p m v q n : ℕ) → p + 2 ≤ length s → p + 2 + 2 ≤ length s → p + 2 + 2 + 2 ≤ length s → le s (p + 2 + 2) 2 ≡ n → n ≤ 4096
      → p + 2 + 2 + 2 ≡ m → m + 4 * n ≤ length s → m + 4 * n ≡ q → Stands s filter2 p q tt
  unfolding filter2
  filter2_stands p m v q n a b c en l em r e = (a, (b, (c, rw (en, le-leb n 4096 l, em) (r, (e, refl)))))

  fields2_end : (p m : ℕ) (x : FilterFields2) → Stands s filter_fields2 p m x → x.filter_identification_value < 256
      → (x.name_length ≡ absent) × (p + 2 ≤ length s) × (p + 2 + 2 ≤ length s) × (p + 2 + 2 + 2 ≤ length s) × (le s (p + 2 + 2) 2 ≡ x.number_client_data_values) × (p + 2 + 2 + 2 ≡ m)
  unfolding filter_fields2 optional
  fields2_end p m x h l =
      let b = stands_bind s (optional (leb 256 (le s p 2)) 2) _ (p + 2) m x h.1 in
      let e = b.3.1.1 in
      let k : leb 256 (le s p 2) ≡ false = lt-leb 256 (le s p 2) (rw (ap (λ (y : FilterFields2). y.filter_identification_value) e.1) l) in
      go (leb 256 (le s p 2)) k b.0 b.1 b.2 b.3.0 b.3.1.0 e.0 e.1
    where
      go : (t : Bool) → t ≡ false → (c : ℕ) (o : Optional ℕ) → Stands s (pick t (number 2 (λ n. done (present n))) (done absent)) (p + 2) c o → c + 2 ≤ length s → c + 2 + 2 ≤ length s → c + 2 + 2 ≡ m
          → ◌≡◌ {A = FilterFields2} (record { filter_identification_value = le s p 2; name_length = o; flags = le s c 2; number_client_data_values = le s (c + 2) 2 }) x
          → (x.name_length ≡ absent) × (p + 2 ≤ length s) × (p + 2 + 2 ≤ length s) × (p + 2 + 2 + 2 ≤ length s) × (le s (p + 2 + 2) 2 ≡ x.number_client_data_values) × (p + 2 + 2 + 2 ≡ m)
      go true e c o i r u v w = let z : ◌≡◌ {A = ℕ} 0 1 = cc in absurd (omega arith)
      go false e c o i r u v w =
          let d = i.0 in
          (ap (λ (y : FilterFields2). y.name_length) (sym w) ∙ sym i.1, h.0, omega arith, omega arith, ap (λ (c : ℕ). le s (c + 2) 2) d ∙ ap (λ (y : FilterFields2). y.number_client_data_values) w, omega arith)

  filter2_read : (p q : ℕ) (x : FilterDescription2) → Stands s filter_description2 p q x → ReadFilter2 x → Reads s filter2 p q
  unfolding filter_description2 raw
  filter2_read p q x h r =
      let a = stands_bind s filter_fields2 _ p q x h in
      let b = stands_bind s (raw (or_none a.1.name_length)) _ a.0 q x a.3 in
      let c = stands_bind s (many a.1.number_client_data_values (number 4 done)) _ b.0 q x b.3 in
      let t : ReadFilter2 (record { fields = a.1; name = b.1; client_data = c.1 }) = rw (← c.3.1) at r in
      let e = fields2_end p a.0 a.1 a.2 t.no_name in
      let z : or_none a.1.name_length ≡ 0 = ap or_none e.0 in
      let f = many_end 4 a.1.number_client_data_values b.0 c.0 c.1 (omega (arith, b.2.0, b.2.1.0)) c.2 in
      (tt, filter2_stands p a.0 q q a.1.number_client_data_values e.1 e.2 e.3 e.4 t.values e.5 (omega (arith, f.0, f.1, z, b.2.1.0)) (omega (arith, f.0, z, b.2.1.0, c.3.0)))

  -- six reserved bytes are two and four
  six_zero : (p : ℕ) → le s p 2 ≡ 0 → le s (p + 2) 4 ≡ 0 → le s p 6 ≡ 0
  six_zero p a b = omega (arith, le_split s p 2 4, a, b)

  -- the pipeline, by the numbers of its fields
  pipeline1_stands : (p q n : ℕ) → p + 1 ≤ length s → le s p 1 ≡ 1 → p + 1 + 1 ≤ length s → le s (p + 1) 1 ≡ n → n < 32 → p + 1 + 1 + 6 ≤ length s → le s (p + 1 + 1) 6 ≡ 0
      → Reads s (times n filter1 nothing) (p + 1 + 1 + 6) q → Stands s filter_pipeline p q tt
  unfolding filter_pipeline reserved filter_of bind
  pipeline1_stands p q n a v b e l c z h = (a, rw v (b, rw (e, lt-ltb n 32 l) (c, rw z h.1)))

  pipeline2_stands : (p q n : ℕ) → p + 1 ≤ length s → le s p 1 ≡ 2 → p + 1 + 1 ≤ length s → le s (p + 1) 1 ≡ n → n < 32
      → Reads s (times n filter2 nothing) (p + 1 + 1) q → Stands s filter_pipeline p q tt
  unfolding filter_pipeline reserved filter_of bind
  pipeline2_stands p q n a v b e l h = (a, rw v (b, rw (e, lt-ltb n 32 l) h.1))

  from_there : {A : Type 0} (F : Format A) (p p' q : ℕ) → p ≡ p' → Reads s F p q → Reads s F p' q
  from_there F p p' q e h = rw e at h

  pipeline1_read : (p q : ℕ) (x : FilterPipeline1) → Stands s filter_pipeline1 p q x → ReadPipeline1 x → Stands s filter_pipeline p q tt
  unfolding filter_pipeline1 pipeline_fields1
  pipeline1_read p q x h r =
      let a = stands_bind s pipeline_fields1 _ p q x h in
      let n = a.1.number_of_filters in
      let b = stands_bind s (many n filter_description1) _ a.0 q x a.3 in
      let c = stands_check s (eqb (le s p 1) 1) 0 _ (p + 1) a.0 a.1 a.2.1 in
      let e = c.1.1.1.1 in
      let t : ReadPipeline1 (record { fields = a.1; filter_description_list = b.1 }) = rw (← b.3.1) at r in
      let m : Stands s (many n filter_description1) a.0 q b.1 = rw b.3.0 at b.2 in
      let y = each_read ReadFilter1 filter1 filter_description1 filter1_read n a.0 q b.1 m t.filters in
      let z = six_zero (p + 1 + 1) (ap (λ (y : PipelineFields1). y.reserved) e.1 ∙ t.reserved) (ap (λ (y : PipelineFields1). y.reserved_2) e.1 ∙ t.reserved_2) in
      let u : a.0 ≡ p + 1 + 1 + 6 = omega (arith, e.0) in
      pipeline1_stands p q n a.2.0 (eqb-true (le s p 1) 1 c.0) c.1.0 (ap (λ (y : PipelineFields1). y.number_of_filters) e.1) t.few (omega (arith, c.1.1.1.0)) z (from_there (times n filter1 nothing) a.0 (p + 1 + 1 + 6) q u y)

  pipeline2_read : (p q : ℕ) (x : FilterPipeline2) → Stands s filter_pipeline2 p q x → ReadPipeline2 x → Stands s filter_pipeline p q tt
  unfolding filter_pipeline2 pipeline_fields2
  pipeline2_read p q x h r =
      let a = stands_bind s pipeline_fields2 _ p q x h in
      let n = a.1.number_of_filters in
      let b = stands_bind s (many n filter_description2) _ a.0 q x a.3 in
      let c = stands_check s (eqb (le s p 1) 2) 0 _ (p + 1) a.0 a.1 a.2.1 in
      let e = c.1.1 in
      let t : ReadPipeline2 (record { fields = a.1; filter_description_list = b.1 }) = rw (← b.3.1) at r in
      let m : Stands s (many n filter_description2) a.0 q b.1 = rw b.3.0 at b.2 in
      let y = each_read ReadFilter2 filter2 filter_description2 filter2_read n a.0 q b.1 m t.filters in
      pipeline2_stands p q n a.2.0 (eqb-true (le s p 1) 2 c.0) c.1.0 (ap (λ (y : PipelineFields2). y.number_of_filters) e.1) t.few (from_there (times n filter2 nothing) a.0 (p + 1 + 1) q (sym e.0) y)

  pub filter_pipeline_is_read : (p q : ℕ) (x : FilterPipeline) → Stands s filter_pipeline_message p q x → ReadPipeline x → Reads s filter_pipeline p q
  unfolding filter_pipeline_message by_version marked
  filter_pipeline_is_read p q x h r = (tt, go (eqb h.1 1) (eqb h.1 2) h.3)
    where
      go : (one two : Bool) → Stands s (pick one (bind filter_pipeline1 (λ y. done (version_1 y))) (pick two (bind filter_pipeline2 (λ y. done (version_2 y))) (refuse 0))) p q x → Stands s filter_pipeline p q tt
      go true two i =
          let c = stands_bind s filter_pipeline1 (λ y. done (version_1 y)) p q x i in
          pipeline1_read p q c.1 (rw c.3.0 at c.2) (rw (← c.3.1) at r)
      go false true i =
          let c = stands_bind s filter_pipeline2 (λ y. done (version_2 y)) p q x i in
          pipeline2_read p q c.1 (rw c.3.0 at c.2) (rw (← c.3.1) at r)
      go false false i = absurd i
