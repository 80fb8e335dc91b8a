-- Datatype, dataspace and data of an attribute, as they are read and as the standard has them. Assumes nothing.
use Rattle.std.specs.Prelude.{ℕ, ◌+◌, ◌-◌, ◌*◌, ◌%◌, ◌≤◌, ◌<◌, ◌≡◌, ◌⊎◌, Bool, ◌&&◌, List, get_or, Option, Some, None}
use Rattle.std.proofs.Math.Path.{refl, sym}
use Rattle.std.proofs.Common.{ap, ◌∙◌, subst, subst₂}
use Rattle.std.proofs.Math.Logic.{inl, inr}
use Rattle.std.proofs.Math.Bool.{true, false}
use native.Mathlib.Omega.{arith}
use Rattle.std.proofs.Math.Dec.{eqb, ltb, leb}
use Rattle.std.proofs.Math.ListN.{length}
use borrow.Author.Tests.{eqb-true, eqb-false, eq-eqb, ltb-true, ltb-false, leb-false}
use Rattle.format.specs.Bytes.{AreBytes, le, Trimmed}
use Rattle.format.specs.BytesLaws.{by_le}
use Rattle.format.specs.Format.{Format, done, number, skip, here, Stands, bind, pick}
use Rattle.format.specs.Standing.{stands_bind, stands_check, bind_stands}
use Rattle.records.specs.Elements.{elements_of}
use Rattle.records.specs.declared.Value.{Value}
use Rattle.records.specs.declared.Value.TheVariants as values
use Rattle.records.specs.declared.DataType.{DataType}
use Rattle.records.specs.declared.DataSpace.{DataSpace}
use Rattle.parser.specs.declared.State.{State}
use Rattle.number_form.specs.declared.NumberForm.{NumberForm}
use Rattle.number_form.specs.Forms.{number_form}
use Rattle.element_number.specs.Values.{number_of, number_value}
use Rattle.number_form.specs.Sizes.{no_form}
use Rattle.element_number.specs.Kept.{stored, number_room, number_stands}
use Rattle.ohdr_datatype.specs.DataTypes.{data_type, type_levels}
use Rattle.ohdr_dataspace.specs.DataSpaces as spaces
use Rattle.ohdr_attribute.specs.Attributes.{padding, text_value, list_value, other_value, element_value, value, space_value, type_space_value}
use Rattle.standard.specs.Fields.{only}
use Rattle.standard.specs.Tie.{Stood}
use Rattle.standard.specs.Datatypes.{class, Datatype, header_of, datatype_message}
use Rattle.standard.specs.Dataspaces.{Dataspace, dataspace_message, elements}
use Rattle.standard.specs.Attributes.{sized, Described, described, raw_size}
use Rattle.standard.specs.DatatypeRules.{Each}
use Rattle.standard_datatype.specs.Same.{ScalarMembers, SameType}
use Rattle.standard_datatype.specs.Differences.{TypeDiffers}
use Rattle.standard_datatype.proofs.Ties.{datatype_tied}
use Rattle.standard_messages.proofs.Dataspaces.{elements_same, dataspace_tied}
use Rattle.standard_messages.specs.Same.{SameDataspace}
use Rattle.standard_messages.specs.Differences.{ElementsDiffer}
use Rattle.standard_attribute.specs.Differences.{ContentsDiffer, in_datatype, other_datatype_size, other_dataspace_size, other_elements, variable_length_elements, long_data}
use Rattle.standard_attribute.specs.SameNumbers.{HasNumber, SameNumber}
use Rattle.standard_attribute.proofs.NumberForms.{FormIs, form_has, form_said, number_formed, number_class, number_same}
use Rattle.standard_attribute.specs.Same.{PaddedText, SameValue}

-- a text that is ended by zeros has the length that is left without them
pub padded_length : (s : List ℕ) (p m l n : ℕ) → Trimmed s p m l → PaddedText s (record { position = p; length = m }) n → l ≡ n
padded_length s p m l n h i = by_le l n (λ a. by_le n l (λ b. omega arith) (λ b. absurd (i.text l b (h.zeros l (omega arith) (omega (arith, i.within)))))) (λ a. absurd (last h.last a))
  where
    last : (l ≡ 0) ⊎ (get_or s (p + (l - 1)) 0 ≡ 0 → ⊥) → n < l → ⊥
    last (inl e) a = omega arith
    last (inr f) a = f (i.zeros (l - 1) (omega arith) (omega (arith, h.within)))

module _ (s : List ℕ) where
  -- what stands as the value is the data field of n elements, or the two differ
  pub data ValueTied (t : Datatype) (n p q : ℕ) (v : Value) : Type 0 where
    other_lists : class (header_of t) ≡ 9 → (n ≡ 1 → ⊥) → ValueTied t n p q v
    too_long : (class (header_of t) ≡ 3 → ⊥) → (class (header_of t) ≡ 9 → ⊥) → 1048576 < n * (header_of t).size → ValueTied t n p q v
    same : p + n * (header_of t).size ≤ length s → p + n * (header_of t).size ≡ q → SameValue s v t n (record { position = p; length = n * (header_of t).size }) → ValueTied t n p q v

  abbrev Passed : ℕ → ℕ → ℕ → Value → Type 0
  Passed m p q v = (p + m ≤ length s) × (p + m ≡ q) × (v ≡ values.None)

  -- bytes that are passed, unless they are too many
  other_passed : (m p q : ℕ) (v : Value) → p ≤ length s → Stands s (other_value m) p q v → (1048576 < m) ⊎ Passed m p q v
  unfolding other_value
  other_passed m p q v l h = go (leb 1 m) refl (leb m 1048576) refl h
    where
      go : (a : Bool) → leb 1 m ≡ a → (b : Bool) → leb m 1048576 ≡ b → Stands s (pick (a && b) (skip m (done values.None)) (done values.None)) p q v → (1048576 < m) ⊎ Passed m p q v
      go true e true f h = inr (h.0, h.1.0, sym h.1.1)
      go true e false f h = inl (leb-false m 1048576 f)
      go false e b f h = let z = leb-false 1 m e in inr (omega arith, omega (arith, h.0), sym h.1)

  module _ (t : Datatype) (n p q : ℕ) (v : Value) (inside : p ≤ length s) where
    abbrev size : ℕ
    size = (header_of t).size

    abbrev NoText : Type 0
    NoText = class (header_of t) ≡ 3 → 0 < size → ⊥

    abbrev NoNumber : Type 0
    NoNumber = n ≡ 1 → HasNumber t → ⊥

    -- neither a text nor a number: no value is handed out
    none : NoText → NoNumber → v ≡ values.None → SameValue s v t n (record { position = p; length = n * size })
    none h k e = record { text = λ c l. absurd (h c l); number = λ _ o w. absurd (k o w); other = λ _ _. e }

    no_number : 2 ≤ class (header_of t) → NoNumber
    no_number c o w = omega (arith, number_class t w)

    text_tied : class (header_of t) ≡ 3 → 0 < size → Stands s (text_value (n * size)) p q v → ValueTied t n p q v
    unfolding text_value
    text_tied c l h =
        same h.1.inside h.2.0
        (record {
          text = λ _ _. (record { position = p; length = h.0 }, sym h.2.1, record { position = refl; length = h.1 }, λ k i. padded_length s p (n * size) h.0 k h.1 i);
          number = λ _ o w. absurd (no_number (omega arith) o w);
          other = λ f _. absurd (f c l);
        })

    list_tied : class (header_of t) ≡ 9 → Stands s (list_value size) p q v → ValueTied t n p q v
    unfolding list_value
    list_tied c h = go (eqb n 1) refl (stands_check s (leb size 12) 17 (skip size (done values.None)) p q v h).1
      where
        go : (a : Bool) → eqb n 1 ≡ a → Stands s (skip size (done values.None)) p q v → ValueTied t n p q v
        go true e h =
            let m : n * size ≡ size = rw (eqb-true n 1 e) (omega arith) in
            same (rw m h.0) (rw m h.1.0) (none (λ d _. omega arith) (no_number (omega arith)) (sym h.1.1))
        go false e h = other_lists c (eqb-false n 1 e)

    other_tied : NoText → (class (header_of t) ≡ 9 → ⊥) → NoNumber → Stands s (other_value (n * size)) p q v → ValueTied t n p q v
    other_tied c d k h = go (other_passed (n * size) p q v inside h)
      where
        go : (1048576 < n * size) ⊎ Passed (n * size) p q v → ValueTied t n p q v
        go (inl m) = too_long (λ e. c e (by_le 1 size (λ l. l) (λ l. let z : size ≡ 0 = omega arith in let y : n * size ≡ 0 = rw z (omega arith) in absurd (omega arith)))) d m
        go (inr w) = same w.0 w.1 (none c k w.2)

    module _ (u : DataType) (i : SameType u t) where
      -- one element: it has a number exactly where the standard's form has one
      element_tied : NoText → (class (header_of t) ≡ 9 → ⊥) → n ≡ 1 → Stands s (element_value (number_form u) u) p q v → ValueTied t n p q v
      element_tied c d o h = go (number_form u) refl h
        where
          m : n * size ≡ u.size
          m = rw (o, ← i.header.size) (omega arith)

          go : (f : Option NumberForm) → number_form u ≡ f → Stands s (element_value f u) p q v → ValueTied t n p q v
          go None e h = other_tied c d (λ _ w. let f = number_formed u t i.header i.properties w in no_form (sym e ∙ f.1)) (rw m h)
          go (Some form) e h =
              let b = stands_bind s (number_value form u.class_bit_field u.size) (λ x. done (values.Number x)) p q v h in
              let r = number_room s form u.class_bit_field u.size p b.0 b.1 b.2 in
              let w = form_said u t form i.header i.properties i.of_class e in
              same (rw m r.0) (rw m (r.1 ∙ b.3.0))
              (record {
                text = λ c3 l. absurd (c c3 l);
                number = λ bytes _ _. (b.1, sym b.3.1, rw (number_stands s bytes form u.class_bit_field u.size p b.0 b.1 b.2) (element bytes form w));
                other = λ _ k. absurd (k o (form_has w));
              })
            where
              element : (bytes : AreBytes s) (form : NumberForm) → FormIs form t → SameNumber s t p (number_of form u.size (stored s u.class_bit_field p u.size))
              element bytes form w = rw (i.header.size, i.header.class_bit_field) (number_same s bytes form t p w)

      value_by : Stands s (pick (eqb (class (header_of t)) 3 && ltb 0 size) (text_value (n * size)) (pick (eqb (class (header_of t)) 9) (list_value size) (pick (eqb n 1) (element_value (number_form u) u) (other_value (n * size))))) p q v
          → ValueTied t n p q v
      value_by h = go (eqb (class (header_of t)) 3) refl (ltb 0 size) refl (eqb (class (header_of t)) 9) refl h
        where
          plain : NoText → (class (header_of t) ≡ 9 → ⊥) → (a : Bool) → eqb n 1 ≡ a → Stands s (pick a (element_value (number_form u) u) (other_value (n * size))) p q v → ValueTied t n p q v
          plain c d true e h = element_tied c d (eqb-true n 1 e) h
          plain c d false e h = other_tied c d (λ o _. eqb-false n 1 e o) h

          go : (a : Bool) → eqb (class (header_of t)) 3 ≡ a → (b : Bool) → ltb 0 size ≡ b → (d : Bool) → eqb (class (header_of t)) 9 ≡ d
              → Stands s (pick (a && b) (text_value (n * size)) (pick d (list_value size) (pick (eqb n 1) (element_value (number_form u) u) (other_value (n * size))))) p q v → ValueTied t n p q v
          go true e true f d g h = text_tied (eqb-true (class (header_of t)) 3 e) (ltb-true 0 size f) h
          go true e false f true g h = let x = eqb-true (class (header_of t)) 3 e in let y = eqb-true (class (header_of t)) 9 g in absurd (omega arith)
          go true e false f false g h = plain (λ _ l. let y = ltb-false 0 size f in omega arith) (eqb-false (class (header_of t)) 9 g) (eqb n 1) refl h
          go false e b f true g h = list_tied (eqb-true (class (header_of t)) 9 g) h
          go false e b f false g h = plain (λ x _. eqb-false (class (header_of t)) 3 e x) (eqb-false (class (header_of t)) 9 g) (eqb n 1) refl h

  pub value_tied : (u : DataType) (t : Datatype) → SameType u t → (n p q : ℕ) (v : Value) → p ≤ length s → Stands s (value u n) p q v → ValueTied t n p q v
  unfolding value
  value_tied u t i n p q v l h =
      value_by t n p q v l u i
      (subst₂ (λ (c z : ℕ). Stands s (pick (eqb c 3 && ltb 0 z) (text_value (n * z)) (pick (eqb c 9) (list_value z) (pick (eqb n 1) (element_value (number_form u) u) (other_value (n * z))))) p q v)
      (ap (λ (y : ℕ). y % 16) i.header.class_and_version) i.header.size h)

-- a description that ends where its size says
sized_stands : {A : Type 0} (s : List ℕ) (n : ℕ) (F : Format A) (p q : ℕ) (a : A) → Stands s F p q a → q ≡ p + n → Stands s (sized n F) p q a
unfolding sized
sized_stands s n F p q a h e =
    let i : Stands s (only (eqb q (p + n)) (done a)) q q a = rw (eq-eqb q (p + n) e) (refl, refl) in
    bind_stands s F (λ x. here (λ upto. only (eqb upto (p + n)) (done x))) p q q a a h i

module _ (s : List ℕ) (state : State) (longest : ℕ) (wide : 4095 ≤ longest) where
  abbrev the_types : Format Datatype
  the_types = datatype_message longest type_levels

  abbrev the_spaces : Format Dataspace
  the_spaces = dataspace_message state.size_of_lengths

  -- with a version, its padding, and the two sizes that are written
  module _ (version : ℕ) (pad : ℕ → ℕ) (same-pad : (n : ℕ) → padding version n ≡ pad n) (datatype_size dataspace_size : ℕ) where
    abbrev the_described : Format Described
    the_described = described longest type_levels state.size_of_lengths pad datatype_size dataspace_size

    -- datatype, dataspace and data of the standard stand from p to q, and the value is that of the data field
    pub record Held (p q : ℕ) (v : Value) : Type 0 where
      pub contents : Described
      pub upto : ℕ
      pub stands : Stands s the_described p upto contents
      pub inside : upto + raw_size contents ≤ length s
      pub end : upto + raw_size contents ≡ q
      pub members : Each ScalarMembers contents.datatype
      pub value : SameValue s v contents.datatype (elements contents.dataspace) (record { position = upto; length = raw_size contents })

    abbrev Contents : ℕ → ℕ → Value → Type 0
    Contents p q v = ContentsDiffer s state longest version pad datatype_size dataspace_size p ⊎ Held p q v

    -- the data, after both descriptions
    data_tied : (p m q : ℕ) (x : Described) (t : DataType) (d : DataSpace) (v : Value) → Stands s the_described p m x → SameType t x.datatype → SameDataspace d x.dataspace
        → m ≤ length s → Stands s (value t (elements_of d)) m q v → Contents p q v
    data_tied p m q x t d v h i j l k = count (elements_same d x.dataspace j)
      where
        split : ValueTied s x.datatype (elements x.dataspace) m q v → Contents p q v
        split (other_lists a b) = inl (variable_length_elements m x h a b)
        split (too_long a b g) = inl (long_data m x h a b g)
        split (same a b g) = inr (record { contents = x; upto = m; stands = h; inside = a; end = b; members = i.members; value = g })

        count : ElementsDiffer x.dataspace ⊎ (elements_of d ≡ elements x.dataspace) → Contents p q v
        count (inl e) = inl (other_elements m x h e)
        count (inr e) = split (subst (λ (g : ℕ). ValueTied s x.datatype g m q v) e (value_tied s t x.datatype i (elements_of d) m q v l k))

    abbrev the_contents : Datatype → ℕ → Dataspace → ℕ → Described
    the_contents t a d b = record { datatype = t; datatype_padding = a; dataspace = d; dataspace_padding = b }

    -- datatype and dataspace, each with the size that is written and its padding
    described_stands : (p m upto : ℕ) (b : Datatype) (x : Dataspace) → Stands s (sized datatype_size the_types) p m b → m + pad datatype_size ≤ length s
        → Stands s (sized dataspace_size the_spaces) (m + pad datatype_size) upto x → upto + pad dataspace_size ≤ length s
        → Stands s the_described p (upto + pad dataspace_size) (the_contents b (le s m (pad datatype_size)) x (le s upto (pad dataspace_size)))
    unfolding described
    described_stands p m upto b x h l i k =
        bind_stands s (sized datatype_size the_types) (λ t. number (pad datatype_size) (λ a. bind (sized dataspace_size the_spaces) (λ d. number (pad dataspace_size) (λ e. done (the_contents t a d e)))))
        p m (upto + pad dataspace_size) b (the_contents b (le s m (pad datatype_size)) x (le s upto (pad dataspace_size))) h (
          l,
          bind_stands s (sized dataspace_size the_spaces) (λ d. number (pad dataspace_size) (λ e. done (the_contents b (le s m (pad datatype_size)) d e)))
              (m + pad datatype_size) upto (upto + pad dataspace_size) x (the_contents b (le s m (pad datatype_size)) x (le s upto (pad dataspace_size))) i (k, (refl, refl)),
        )

    -- the dataspace's size is the one that is written, or not
    space_sized : (p m upto q : ℕ) (b : Datatype) (t : DataType) (d : DataSpace) (v : Value) → Stands s (sized datatype_size the_types) p m b → SameType t b
        → m + pad datatype_size ≤ length s → Stood SameDataspace the_spaces s (m + pad datatype_size) upto d
        → Stands s (skip (padding version (upto - (m + pad datatype_size))) (value t (elements_of d))) upto q v → Contents p q v
    space_sized p m upto q b t d v h i l x k = go (eqb upto (m + pad datatype_size + dataspace_size)) refl
      where
        go : (a : Bool) → eqb upto (m + pad datatype_size + dataspace_size) ≡ a → Contents p q v
        go false e = inl (other_dataspace_size m upto b x.value h x.stands (eqb-false upto (m + pad datatype_size + dataspace_size) e))
        go true e =
            let g = eqb-true upto (m + pad datatype_size + dataspace_size) e in
            let f : padding version (upto - (m + pad datatype_size)) ≡ pad dataspace_size = ap (padding version) (omega arith) ∙ same-pad dataspace_size in
            let r : Stands s (skip (pad dataspace_size) (value t (elements_of d))) upto q v = rw f at k in
            data_tied p (upto + pad dataspace_size) q (the_contents b (le s m (pad datatype_size)) x.value (le s upto (pad dataspace_size))) t d v
            (described_stands p m upto b x.value h l (sized_stands s dataspace_size the_spaces (m + pad datatype_size) upto x.value x.stands g) r.0)
            i x.related r.0 r.1

    -- the dataspace and what follows it, after the datatype
    space_tied : (p m q : ℕ) (b : Datatype) (t : DataType) (v : Value) → Stands s (sized datatype_size the_types) p m b → SameType t b → m + pad datatype_size ≤ length s
        → Stands s (space_value version state t) (m + pad datatype_size) q v → Contents p q v
    unfolding space_value
    space_tied p m q b t v h i l k =
        let from = m + pad datatype_size in
        let u = stands_bind s (spaces.data_space state) (λ d. here (λ r. skip (padding version (r - from)) (value t (elements_of d)))) from q v k in
        space_sized p m u.0 q b t u.1 v h i l ((dataspace_tied state).ties s from u.0 u.1 u.2) u.3

    -- the datatype's size is the one that is written, or not
    type_sized : (p m q : ℕ) (t : DataType) (v : Value) → TypeDiffers longest s p ⊎ Stood SameType the_types s p m t
        → Stands s (skip (padding version (m - p)) (space_value version state t)) m q v → Contents p q v
    type_sized p m q t v (inl d) k = inl (in_datatype d)
    type_sized p m q t v (inr x) k = go (eqb m (p + datatype_size)) refl
      where
        go : (a : Bool) → eqb m (p + datatype_size) ≡ a → Contents p q v
        go false e = inl (other_datatype_size m x.value x.stands (eqb-false m (p + datatype_size) e))
        go true e =
            let g = eqb-true m (p + datatype_size) e in
            let f : padding version (m - p) ≡ pad datatype_size = ap (padding version) (omega arith) ∙ same-pad datatype_size in
            let r : Stands s (skip (pad datatype_size) (space_value version state t)) m q v = rw f at k in
            space_tied p m q x.value t v (sized_stands s datatype_size the_types p m x.value x.stands g) x.related r.0 r.1

    -- datatype, dataspace and data that are read are the standard's, or a listed difference applies
    pub contents_tied : (p q : ℕ) (v : Value) → Stands s (type_space_value version state) p q v → Contents p q v
    unfolding type_space_value
    contents_tied p q v h =
        let w = stands_bind s (data_type type_levels) (λ t. here (λ m. skip (padding version (m - p)) (space_value version state t))) p q v h in
        type_sized p w.0 q w.1 v ((datatype_tied longest wide type_levels).ties s p w.0 w.1 w.2) w.3
