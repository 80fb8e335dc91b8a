-- Wherever an attribute message of the standard stands with a text or a number, and no listed difference applies, the attribute that is read stands
-- over the same bytes, with the text or the number as its value. Assumes nothing.
use Rattle.std.specs.Prelude.{ℕ, ◌+◌, ◌-◌, ◌*◌, ◌%◌, ◌≤◌, ◌<◌, ◌≡◌, Bool, not, ◌&&◌, ◌||◌, List, eqb, Option, Some, None}
use Rattle.std.proofs.Math.Path.{refl, sym, ap, subst}
use Rattle.std.proofs.Common.{◌∙◌, arith}
use Rattle.std.proofs.Math.Logic.{inl}
use Rattle.std.proofs.Math.Bool.{true, false}
use Rattle.std.proofs.Math.Dec.{leb, ltb}
use Rattle.std.proofs.Math.ListN.{length}
use borrow.Author.Tests.{eqb-true, ne_eqb, lt-ltb, le-leb}
use Rattle.format.specs.Bits.{bit}
use Rattle.format.specs.Bytes.{AreBytes, le, text_length, to_multiple_of8}
use Rattle.format.specs.BytesLaws.{trimmed_found}
use Rattle.format.specs.Format.{Format, done, refuse, skip, here, bind, pick, Stands}
use Rattle.format.specs.Laws.{unique}
use Rattle.format.specs.Standing.{stands_bind, stands_check, bind_stands}
use Rattle.records.specs.declared.Part.{Part}
use Rattle.records.specs.Elements.{elements_of}
use Rattle.records.specs.declared.Value.{Value}
use Rattle.records.specs.declared.Value.TheVariants as values
use Rattle.records.specs.declared.Attribute as ours
use Rattle.records.specs.declared.DataType.{DataType}
use Rattle.records.specs.declared.DataSpace.{DataSpace}
use Rattle.parser.specs.declared.State.{State}
use Rattle.number_form.specs.declared.NumberForm.{NumberForm}
use Rattle.number_form.specs.Forms.{number_form}
use Rattle.element_number.specs.Values.{element, number_of, number_value}
use Rattle.element_number.specs.Kept.{stored, stands_number}
use Rattle.ohdr_datatype.specs.DataTypes.{class_of, data_type, type_levels}
use Rattle.standard_datatype.specs.Same.{ScalarMembers, SameHeader, SameType}
use Rattle.standard_datatype.proofs.TypeReads.{scalar_members, datatype_is_read}
use Rattle.ohdr_dataspace.specs.DataSpaces as spaces
use Rattle.ohdr_attribute.specs.Attributes.{padding, text_value, list_value, other_value, element_value, value, space_value, type_space_value, encoding, attribute_fields, attribute}
use Rattle.ohdr_attribute.specs.Without.{with_or_without}
use Rattle.standard.specs.Fields.{Bytes, only, raw}
use Rattle.standard.specs.Converse.{Reads, ReadAs}
use Rattle.standard.specs.Versions.{by_version, marked}
use Rattle.standard.specs.Datatypes.{class, header_of, datatype_message}
use Rattle.standard.specs.DatatypeRules.{Each}
use Rattle.standard.specs.Dataspaces.{dataspace_message, elements}
use Rattle.standard.specs.Attributes.{Sizes1, sizes1, Sizes3, sizes3, sized, Described, described, element_size, raw_size, Attribute1, attribute1, Attribute3, attribute3, Attribute, of_version_1, of_version_3, attribute_message}
use Rattle.standard_messages.specs.ReadMessages.{ReadSpace}
use Rattle.standard_messages.proofs.Dataspaces.{elements_of_lem}
use Rattle.standard_messages.proofs.SpaceReads.{dataspace_is_read}
use Rattle.standard_attribute.specs.ReadValues.{TextDescribed, TextValue, NumberDescribed, NumberValue, ReadDescribed, ReadAttribute, TextIs, NumberIs, ValueStands, name_size_of, described_of, name_of, data_of}
use Rattle.standard_attribute.specs.Same.{SameName, SameValue, SameAttribute}
use Rattle.standard_attribute.proofs.Contents.{ValueTied, other_lists, too_long, same, value_tied}
use Rattle.standard_attribute.proofs.Ties.{our_name, same_name}
use Rattle.standard_attribute.proofs.ReadElements.{element_type, string_read, number_read}
use Rattle.standard_attribute.proofs.NumberForms.{form_said, number_formed, number_same, number_class, has_class}

-- what has the size that is written for it stands, and ends there
sized_ends : {A : Type 0} (s : List ℕ) (n : ℕ) (F : Format A) (p q : ℕ) (a : A) → Stands s (sized n F) p q a → Stands s F p q a × (q ≡ p + n)
unfolding sized
sized_ends s n F p q a h =
    let b = stands_bind s F (λ x. here (λ upto. only (eqb upto (p + n)) (done x))) p q a h in
    let c = stands_check s (eqb b.0 (p + n)) 0 (done b.1) b.0 q a b.3 in
    (rw (c.1.0, c.1.1) at b.2, sym c.1.0 ∙ eqb-true b.0 (p + n) c.0)

-- as many bytes as the elements have
raw_bytes : (x y : Described) (n : ℕ) → x ≡ y → n ≡ elements x.dataspace → n * element_size x.datatype ≡ raw_size y
raw_bytes x y n e d = rw (d, e)

module _ (s : List ℕ) (state : State) where
  -- a value from p to q, of which something is so
  abbrev Valued : Format Value → ℕ → ℕ → (Value → Type 0) → Type 0
  Valued F p q Is = (v : Value) × Is v × Stands s F p q v

  -- the dataspace and its padding, and the value
  space_value_lem : (version k p m u q : ℕ) (t : DataType) (d : DataSpace) (Is : Value → Type 0) → Stands s (spaces.data_space state) p m d → padding version (m - p) ≡ k → m + k ≡ u → u ≤ length s
      → Valued (value t (elements_of d)) u q Is → Valued (space_value version state t) p q Is
  unfolding space_value
  space_value_lem version k p m u q t d Is h f g j x =
      (x.0, x.1, bind_stands s (spaces.data_space state) (λ d. here (λ upto. skip (padding version (upto - p)) (value t (elements_of d)))) p m q d _ h (rw (f, g) (j, x.2)))

  -- the datatype and its padding, and what follows it
  type_value : (version k p m q : ℕ) (t : DataType) (Is : Value → Type 0) → Stands s (data_type type_levels) p m t → padding version (m - p) ≡ k → m + k ≤ length s
      → Valued (space_value version state t) (m + k) q Is → Valued (type_space_value version state) p q Is
  unfolding type_space_value
  type_value version k p m q t Is h f j x =
      (x.0, x.1, bind_stands s (data_type type_levels) (λ t. here (λ upto. skip (padding version (upto - p)) (space_value version state t))) p m q t _ h (rw f (j, x.2)))

  -- With the two bounds of the standard's format, the version and its padding, and the two sizes that are written: where the datatype is read as one of
  -- which Q holds, and its elements have a value.
  contents_value : (longest levels version : ℕ) (pad : ℕ → ℕ) → ((n : ℕ) → padding version n ≡ pad n) → (datatype_size dataspace_size p u q : ℕ) (x : Described) (Q : DataType → Type 0) (Is : Value → Type 0)
      → Stands s (described longest levels state.size_of_lengths pad datatype_size dataspace_size) p u x → ReadSpace state.size_of_lengths x.dataspace
      → ((m : ℕ) → Stands s (datatype_message longest levels) p m x.datatype → (t : DataType) × Q t × Stands s (data_type type_levels) p m t)
      → ((t : DataType) (n : ℕ) → Q t → n ≡ elements x.dataspace → Valued (value t n) u q Is) → Valued (type_space_value version state) p q Is
  unfolding described
  contents_value longest levels version pad same-pad datatype_size dataspace_size p u q x Q Is h r types values =
      let the_types = datatype_message longest levels in
      let the_spaces = dataspace_message state.size_of_lengths in
      let a = stands_bind s (sized datatype_size the_types) _ p u x h in
      let from = a.0 + pad datatype_size in
      let b = stands_bind s (sized dataspace_size the_spaces) _ from u x a.3.1 in
      let e = b.3.1.1 in
      let t = sized_ends s datatype_size the_types p a.0 a.1 a.2 in
      let d = sized_ends s dataspace_size the_spaces from b.0 b.1 b.2 in
      let f = sym e in
      let k = subst (λ (z : Described). ReadSpace state.size_of_lengths z.dataspace) f r in
      let y = dataspace_is_read s state from b.0 b.1 d.0 k in
      let g = elements_of_lem y.value b.1 y.related.fields k.no_scalar_with_sizes in
      let z = types a.0 (subst (λ (z : Described). Stands s the_types p a.0 z.datatype) e t.0) in
      type_value version (pad datatype_size) p a.0 q z.0 Is z.2
      (ap (padding version) (omega (arith, t.1)) ∙ same-pad datatype_size)
      a.3.0
      (space_value_lem version (pad dataspace_size) from b.0 u q z.0 y.value Is y.stands
      (ap (padding version) (omega (arith, d.1)) ∙ same-pad dataspace_size)
      b.3.1.0 (omega arith) (values z.0 (elements_of y.value) z.1 (g ∙ ap (λ (z : Described). elements z.dataspace) e)))

  -- the fields before the name, in version 1 and in version 3
  pub fields1_read : (p q : ℕ) (x : Sizes1) → Stands s sizes1 p q x → x.name_size ≤ 4096 → Stands s attribute_fields p q (record { version = 1; name_size = x.name_size })
  unfolding sizes1 attribute_fields encoding bind
  fields1_read p q x h l =
      let c = stands_check s (eqb (le s p 1) 1) 0 _ (p + 1) q x h.1 in
      let e = c.1.1.1.1.1 in
      let n = rw (← e.1) at l in
      rw (← e.1) (h.0, rw (eqb-true (le s p 1) 1 c.0) (c.1.0, (c.1.1.0, rw (le-leb (le s (p + 1 + 1) 2) 4096 n) (c.1.1.1.0, (c.1.1.1.1.0, (e.0, refl))))))

  pub fields3_read : (p q : ℕ) (x : Sizes3) → Stands s sizes3 p q x → x.name_size ≤ 4096 → Stands s attribute_fields p q (record { version = 3; name_size = x.name_size })
  unfolding sizes3 attribute_fields encoding bind
  fields3_read p q x h l =
      let c = stands_check s (eqb (le s p 1) 3) 0 _ (p + 1) q x h.1 in
      let e = c.1.1.1.1.1 in
      let n = rw (← e.1.1) at l in
      rw (← e.1.1) (h.0, rw (eqb-true (le s p 1) 3 c.0) (c.1.0, (c.1.1.0, rw (le-leb (le s (p + 1 + 1) 2) 4096 n) (c.1.1.1.0, (c.1.1.1.1.0, (e.0, (e.1.0, refl)))))))

  -- after the fields before the name, up to m: a name of n bytes, k bytes of padding, what D says, and the data
  record Laid (n k : ℕ) (D : Format Described) (m q : ℕ) (name : Bytes) (x : Described) (data-field : Bytes) : Type 0 where
    upto : ℕ
    name_is : record { position = m; length = n } ≡ name
    contents : Stands s D (m + n + k) upto x
    data_is : record { position = upto; length = raw_size x } ≡ data-field
    room : m + n + k ≤ length s
    data_room : upto + raw_size x ≤ length s
    end : upto + raw_size x ≡ q

  laid : (n k : ℕ) (D : Format Described) (m from upto q q' : ℕ) (name : Bytes) (x : Described) (data-field : Bytes) → Stands s (raw n) m from name → from + k ≤ length s → Stands s D (from + k) upto x
      → Stands s (raw (raw_size x)) upto q data-field → q ≡ q' → Laid n k D m q' name x data-field
  unfolding raw
  laid n k D m from upto q q' name x data-field h l i j e =
      record {
        upto = upto;
        name_is = h.1.1;
        contents = rw (← h.1.0) at i;
        data_is = j.1.1;
        room = omega (arith, h.1.0);
        data_room = j.0;
        end = j.1.0 ∙ e;
      }

  -- name and padding, contents and data of an attribute with these fields
  attribute_read : (version n k p m q : ℕ) (D : Format Described) (name : Bytes) (x : Described) (data-field : Bytes) (Is : Value → Type 0)
      → Stands s attribute_fields p m (record { version = version; name_size = n }) → padding version n ≡ k
      → (f : Laid n k D m q name x data-field) → Valued (type_space_value version state) (m + n + k) (f.upto + raw_size x) Is → ValueStands s state p q name Is
  unfolding attribute
  attribute_read version n k p m q D name x data-field Is h e f y =
      let l = text_length s m n in
      let t = trimmed_found s m n (omega (arith, f.room)) in
      let part : Part = record { position = m; length = l } in
      let a : ours.Attribute = record { name = part; value = y.0 } in
      let w = (with_or_without s version state part (m + n + k) (f.upto + raw_size x) a).1 (refl, inl (record { stands = y.2 })) in
      let z : Stands s (attribute state) p (f.upto + raw_size x) a = bind_stands s attribute_fields (our_name state) p m (f.upto + raw_size x) (record { version = version; name_size = n }) a h (l, t, rw e (f.room, w)) in
      record {
        name = part;
        value = y.0;
        stands = rw f.end at z;
        same_name = rw (← f.name_is) (same_name s m n l part t refl);
        same_value = y.1;
      }

  -- the standard's format, with its two bounds
  module _ (longest levels : ℕ) where
    abbrev contents : (ℕ → ℕ) → ℕ → ℕ → Format Described
    contents = described longest levels state.size_of_lengths

    laid1 : (p q : ℕ) (x : Attribute1) → Stands s (attribute1 longest levels state.size_of_lengths) p q x
        → (m : ℕ) × Stands s sizes1 p m x.sizes
        × Laid x.sizes.name_size (to_multiple_of8 x.sizes.name_size) (contents to_multiple_of8 x.sizes.datatype_size x.sizes.dataspace_size) m q x.name x.described x.«data»
    unfolding attribute1
    laid1 p q x h =
        let a = stands_bind s sizes1 _ p q x h in
        let n = a.1.name_size in
        let b = stands_bind s (raw n) _ a.0 q x a.3 in
        let D = contents to_multiple_of8 a.1.datatype_size a.1.dataspace_size in
        let c = stands_bind s D _ (b.0 + to_multiple_of8 n) q x b.3.1 in
        let d = stands_bind s (raw (raw_size c.1)) _ c.0 q x c.3 in
        rw (← d.3.1) (a.0, a.2, laid n (to_multiple_of8 n) D a.0 b.0 c.0 d.0 q b.1 c.1 d.1 b.2 b.3.0 c.2 d.2 d.3.0)

    laid3 : (p q : ℕ) (x : Attribute3) → Stands s (attribute3 longest levels state.size_of_lengths) p q x
        → (m : ℕ) × Stands s sizes3 p m x.sizes
        × Laid x.sizes.name_size 0 (contents (λ _. 0) x.sizes.datatype_size x.sizes.dataspace_size) m q x.name x.described x.«data»
    unfolding attribute3 raw
    laid3 p q x h =
        let a = stands_bind s sizes3 _ p q x h in
        let n = a.1.name_size in
        let g = stands_check s (not (bit a.1.flags 0 || bit a.1.flags 1)) 0 _ a.0 q x a.3 in
        let b = stands_bind s (raw n) _ a.0 q x g.1 in
        let D = contents (λ _. 0) a.1.datatype_size a.1.dataspace_size in
        let c = stands_bind s D _ b.0 q x b.3 in
        let d = stands_bind s (raw (raw_size c.1)) _ c.0 q x c.3 in
        rw (← d.3.1) (a.0, a.2, laid n 0 D a.0 b.0 c.0 d.0 q b.1 c.1 d.1 b.2 (room a.0 b.0 n b.1 b.2) (more D b.0 c.0 c.1 c.2) d.2 d.3.0)
      where
        room : (m from n : ℕ) (y : Bytes) → Stands s (raw n) m from y → from + 0 ≤ length s
        room m from n y i = omega (arith, i.0, i.1.0)

        more : (D : Format Described) (from upto : ℕ) (y : Described) → Stands s D from upto y → Stands s D (from + 0) upto y
        more D from upto y i = let e : from + 0 ≡ from = omega arith in rw e i

    -- Is holds of the value, with the data field, of whatever is described as asked
    abbrev ValuedOf : (Described → Type 0) → (Described → Bytes → Value → Type 0) → Type 0
    ValuedOf Asked Is = (version : ℕ) (pad : ℕ → ℕ) → ((n : ℕ) → padding version n ≡ pad n) → (datatype_size dataspace_size p u : ℕ) (x : Described) → Stands s (contents pad datatype_size dataspace_size) p u x → Asked x
        → u + raw_size x ≤ length s → Valued (type_space_value version state) p (u + raw_size x) (Is x (record { position = u; length = raw_size x }))

    module _ (Asked : Described → Type 0) (Is : Described → Bytes → Value → Type 0) (valued : ValuedOf Asked Is) where
      data_valued : (version : ℕ) (pad : ℕ → ℕ) → ((n : ℕ) → padding version n ≡ pad n) → (datatype_size dataspace_size n k m q : ℕ) (name : Bytes) (x : Described) (data-field : Bytes)
          → (f : Laid n k (contents pad datatype_size dataspace_size) m q name x data-field) → Asked x → Valued (type_space_value version state) (m + n + k) (f.upto + raw_size x) (Is x data-field)
      data_valued version pad same-pad a b n k m q name x data-field f r =
          subst (λ (field : Bytes). Valued (type_space_value version state) (m + n + k) (f.upto + raw_size x) (Is x field)) f.data_is (valued version pad same-pad a b (m + n + k) f.upto x f.contents r f.data_room)

      first : (p q : ℕ) (y : Attribute1) → Stands s (attribute1 longest levels state.size_of_lengths) p q y → y.sizes.name_size ≤ 4096 → Asked y.described → ValueStands s state p q y.name (Is y.described y.«data»)
      first p q y h l r =
          let z = y.sizes in
          let i = laid1 p q y h in
          attribute_read 1 z.name_size (to_multiple_of8 z.name_size) p i.0 q _ y.name y.described y.«data» (Is y.described y.«data») (fields1_read p i.0 z i.1 l) refl i.2
          (data_valued 1 to_multiple_of8 (λ _. refl) z.datatype_size z.dataspace_size z.name_size (to_multiple_of8 z.name_size) i.0 q y.name y.described y.«data» i.2 r)

      third : (p q : ℕ) (y : Attribute3) → Stands s (attribute3 longest levels state.size_of_lengths) p q y → y.sizes.name_size ≤ 4096 → Asked y.described → ValueStands s state p q y.name (Is y.described y.«data»)
      third p q y h l r =
          let z = y.sizes in
          let i = laid3 p q y h in
          attribute_read 3 z.name_size 0 p i.0 q _ y.name y.described y.«data» (Is y.described y.«data») (fields3_read p i.0 z i.1 l) refl i.2
          (data_valued 3 (λ _. 0) (λ _. refl) z.datatype_size z.dataspace_size z.name_size 0 i.0 q y.name y.described y.«data» i.2 r)

      by_version_lem : (p q : ℕ) (x : Attribute) (a b : Bool)
          → Stands s (pick a (marked of_version_1 (attribute1 longest levels state.size_of_lengths)) (pick b (marked of_version_3 (attribute3 longest levels state.size_of_lengths)) (refuse 0))) p q x
          → name_size_of x ≤ 4096 → Asked (described_of x) → ValueStands s state p q (name_of x) (Is (described_of x) (data_of x))
      unfolding marked
      by_version_lem p q x true b h l r =
          let c = stands_bind s (attribute1 longest levels state.size_of_lengths) (λ y. done (of_version_1 y)) p q x h in
          rw (← c.3.1) (first p q c.1 (rw c.3.0 at c.2) (rw (← c.3.1) at l) (rw (← c.3.1) at r))
      by_version_lem p q x false true h l r =
          let c = stands_bind s (attribute3 longest levels state.size_of_lengths) (λ y. done (of_version_3 y)) p q x h in
          rw (← c.3.1) (third p q c.1 (rw c.3.0 at c.2) (rw (← c.3.1) at l) (rw (← c.3.1) at r))
      by_version_lem p q x false false h l r = absurd h

      value_stands : (p q : ℕ) (x : Attribute) → Stands s (attribute_message longest levels state.size_of_lengths) p q x → name_size_of x ≤ 4096 → Asked (described_of x)
          → ValueStands s state p q (name_of x) (Is (described_of x) (data_of x))
      unfolding attribute_message by_version
      value_stands p q x h l r = by_version_lem p q x (eqb h.1 1) (eqb h.1 3) h.3 l r

    -- a text of all the elements
    contents_text : ValuedOf (TextDescribed state.size_of_lengths) (TextIs s)
    unfolding value text_value
    contents_text version pad same-pad datatype_size dataspace_size p u x h r l =
        contents_value longest levels version pad same-pad datatype_size dataspace_size p u (u + raw_size x) x (λ t. t ≡ element_type s longest x.datatype) (TextIs s x field) h r.dataspace
        (λ m i. (element_type s longest x.datatype, refl, string_read s longest levels 31 p m x.datatype i r.string r.small_size))
        (λ t n c e. rw c (text (element_type s longest x.datatype) n r.string r.some_size (rw e)))
      where
        field : Bytes
        field = record { position = u; length = raw_size x }

        text : (t : DataType) (n : ℕ) → class_of t.class_and_version ≡ 3 → 0 < t.size → n * t.size ≡ raw_size x → Valued (value t n) u (u + raw_size x) (TextIs s x field)
        text t n c k e =
            let a = text_length s u (raw_size x) in
            let d = trimmed_found s u (raw_size x) l in
            let part : Part = record { position = u; length = a } in
            (values.Text part, (part, refl, record { position = refl; length = d }), rw (c, lt-ltb 0 t.size k, e) (a, d, (refl, refl)))

    -- the number of one element
    number_here : AreBytes s → (t : DataType) (form : NumberForm) (n u : ℕ) → class_of t.class_and_version ≤ 1 → n ≡ 1 → number_form t ≡ Some form → u + t.size ≤ length s
        → Stands s (value t n) u (u + t.size) (values.Number (number_of form t.size (stored s t.class_bit_field u t.size)))
    unfolding value
    number_here bytes t form n u c e f l =
        let k = class_of t.class_and_version in
        let v = number_of form t.size (stored s t.class_bit_field u t.size) in
        rw (ne_eqb k 3 (λ d. omega arith), ne_eqb k 9 (λ d. omega arith), e, f)
        (bind_stands s (number_value form t.class_bit_field t.size) (λ x. done (values.Number x)) u (u + t.size) (u + t.size) v (values.Number v) (stands_number s bytes form t.class_bit_field t.size u l) (refl, refl))

    contents_number : AreBytes s → ValuedOf (NumberDescribed state.size_of_lengths) (NumberIs s)
    unfolding value
    contents_number bytes version pad same-pad datatype_size dataspace_size p u x h r l =
        contents_value longest levels version pad same-pad datatype_size dataspace_size p u (u + raw_size x) x (λ t. t ≡ element_type s longest x.datatype) (NumberIs s x field) h r.dataspace
        (λ m i. (element_type s longest x.datatype, refl, number_read s longest levels 31 p m x.datatype i r.number r.float))
        (λ t n c e. rw c (number n (e ∙ r.one)))
      where
        field : Bytes
        field = record { position = u; length = raw_size x }

        t : DataType
        t = element_type s longest x.datatype

        same_header : SameHeader t (header_of x.datatype)
        same_header = record { class_and_version = refl; class_bit_field = refl; size = refl; list_size_lem = refl }

        number : (n : ℕ) → n ≡ 1 → Valued (value t n) u (u + raw_size x) (NumberIs s x field)
        number n e =
            let f = number_formed t x.datatype same_header refl r.number in
            let w = form_said t x.datatype f.0 same_header refl (has_class x.datatype r.number r.float) f.1 in
            let v = number_of f.0 t.size (stored s t.class_bit_field u t.size) in
            let z : t.size ≡ raw_size x = sym (rw r.one (omega arith)) in
            let i = number_here bytes t f.0 n u (number_class x.datatype r.number) e f.1 (rw z l) in
            (values.Number v, (v, refl, number_same s bytes f.0 x.datatype u w), subst (λ (k : ℕ). Stands s (value t n) u (u + k) (values.Number v)) z i)

-- a value of any class has a reading, where its bytes are there, and one of variable length is short
module _ (s : List ℕ) where
  other_reads : (m u : ℕ) → u + m ≤ length s → (q : ℕ) × Reads s (other_value m) u q
  unfolding other_value
  other_reads m u l = go (leb 1 m && leb m 1048576)
    where
      go : (t : Bool) → (q : ℕ) × Reads s (pick t (skip m (done values.None)) (done values.None)) u q
      go true = (u + m, (values.None, (l, (refl, refl))))
      go false = (u, (values.None, (refl, refl)))

  element_reads : (o : Option NumberForm) (t : DataType) (u : ℕ) → u + t.size ≤ length s → (q : ℕ) × Reads s (element_value o t) u q
  unfolding number_value element bind
  element_reads None t u l = other_reads t.size u l
  element_reads (Some form) t u l = (u + t.size, (_, (l, (refl, refl))))

  value_reads : (t : DataType) (n u : ℕ) → u + n * t.size ≤ length s → (class_of t.class_and_version ≡ 9 → (n ≡ 1) × (t.size ≤ 12)) → (q : ℕ) × Reads s (value t n) u q
  unfolding value text_value list_value
  value_reads t n u l f = go (eqb (class_of t.class_and_version) 3 && ltb 0 t.size) (eqb (class_of t.class_and_version) 9) refl (eqb n 1) refl
    where
      one : n ≡ 1 → u + t.size ≤ length s
      one e = let z : n * t.size ≡ t.size = rw e (omega arith) in rw z at l

      go : (a b : Bool) → eqb (class_of t.class_and_version) 9 ≡ b → (c : Bool) → eqb n 1 ≡ c
          → (q : ℕ) × Reads s (pick a (text_value (n * t.size)) (pick b (list_value t.size) (pick c (element_value (number_form t) t) (other_value (n * t.size))))) u q
      go true b e c d = (u + n * t.size, (_, (text_length s u (n * t.size), trimmed_found s u (n * t.size) l, (refl, refl))))
      go false true e c d =
          let w = f (eqb-true (class_of t.class_and_version) 9 e) in
          (u + t.size, (values.None, rw (le-leb t.size 12 w.1) (one w.0, (refl, refl))))
      go false false e true d = element_reads (number_form t) t u (one (eqb-true n 1 d))
      go false false e false d = other_reads (n * t.size) u l

  -- and is that of the standard, unless it is of a variable length or too long
  value_same : (t : DataType) (x : Described) (u : ℕ) → SameType t x.datatype → u + raw_size x ≤ length s → (class (header_of x.datatype) ≡ 9 → (elements x.dataspace ≡ 1) × (element_size x.datatype ≤ 12))
      → ((class (header_of x.datatype) ≡ 3 → ⊥) → raw_size x ≤ 1048576)
      → (v : Value) × SameValue s v x.datatype (elements x.dataspace) (record { position = u; length = raw_size x }) × Stands s (value t (elements x.dataspace)) u (u + raw_size x) v
  value_same t x u k l f g = go (value_tied s t x.datatype k n u y.0 y.1.0 (omega arith) y.1.1)
    where
      n : ℕ
      n = elements x.dataspace

      y : (q : ℕ) × Reads s (value t n) u q
      y =
          value_reads t n u (rw k.header.size l)
          (λ e. let w = f (ap (λ (c : ℕ). c % 16) (sym k.header.class_and_version) ∙ e) in (w.0, rw k.header.size w.1))

      go : ValueTied s x.datatype n u y.0 y.1.0 → (v : Value) × SameValue s v x.datatype n (record { position = u; length = raw_size x }) × Stands s (value t n) u (u + raw_size x) v
      go (other_lists c d) = absurd (d (f c).0)
      go (too_long c d m) = let z = g c in absurd (omega arith)
      go (same r e w) = (y.1.0, w, rw e y.1.1)

-- Where the standard's attribute message stands with a text, and no listed difference applies, the attribute that is read stands over the same
-- bytes, and its value is the data field, less the zeros at its end. The two bounds of the standard's datatype format play no part.
pub text_value_lem : (s : List ℕ) (state : State) (longest levels p q : ℕ) (x : Attribute) → Stands s (attribute_message longest levels state.size_of_lengths) p q x
    → TextValue state.size_of_lengths x → ValueStands s state p q (name_of x) (TextIs s (described_of x) (data_of x))
text_value_lem s state longest levels p q x h r =
    value_stands s state longest levels (TextDescribed state.size_of_lengths) (TextIs s) (contents_text s state longest levels) p q x h r.name_size r.described

-- Where it stands with a number, its value is the number that the data field is by the table of its class.
pub number_value_lem : (s : List ℕ) (state : State) → AreBytes s → (longest levels p q : ℕ) (x : Attribute) → Stands s (attribute_message longest levels state.size_of_lengths) p q x
    → NumberValue state.size_of_lengths x → ValueStands s state p q (name_of x) (NumberIs s (described_of x) (data_of x))
number_value_lem s state bytes longest levels p q x h r =
    value_stands s state longest levels (NumberDescribed state.size_of_lengths) (NumberIs s) (contents_number s state longest levels bytes) p q x h r.name_size r.described

-- So what is read there has that value, and ends where the standard's message ends.
pub value_is_read : (s : List ℕ) (state : State) (p q m : ℕ) (name-field : Bytes) (Is : Value → Type 0) (a : ours.Attribute) → ValueStands s state p q name-field Is → Stands s (attribute state) p m a
    → (m ≡ q) × Is a.value
value_is_read s state p q m name-field Is a v i =
    let e = unique s (attribute state) p m q a (record { name = v.name; value = v.value }) i v.stands in
    (e.0, subst Is (ap (λ (b : ours.Attribute). b.value) (sym e.1)) v.same_value)

same_attribute : (s : List ℕ) (a : ours.Attribute) (x : Attribute) → SameName s a.name (name_of x) → Each ScalarMembers (described_of x).datatype
    → SameValue s a.value (described_of x).datatype (elements (described_of x).dataspace) (data_of x) → SameAttribute s a x
same_attribute s a (of_version_1 x) n m v = record { name = n; members = m; value = v }
same_attribute s a (of_version_3 x) n m v = record { name = n; members = m; value = v }

-- Whatever its class, where no listed difference applies: the attribute that is read stands over the same bytes, with the standard's name, and its
-- value is the one that the standard's data field makes, or none.
pub attribute_is_read : (s : List ℕ) (state : State) (longest p q : ℕ) (x : Attribute) → Stands s (attribute_message longest type_levels state.size_of_lengths) p q x
    → ReadAttribute (ReadDescribed state.size_of_lengths) x → ReadAs (SameAttribute s) (attribute state) s p q x
attribute_is_read s state longest p q x h r =
    let y = value_stands s state longest type_levels (ReadDescribed state.size_of_lengths) Is contents p q x h r.name_size r.described in
    let a : ours.Attribute = record { name = y.name; value = y.value } in
    record { value = a; stands = y.stands; related = same_attribute s a x y.same_name (scalar_members (described_of x).datatype r.described.datatype) y.same_value }
  where
    Is : Described → Bytes → Value → Type 0
    Is y field v = SameValue s v y.datatype (elements y.dataspace) field

    contents : ValuedOf s state longest type_levels (ReadDescribed state.size_of_lengths) Is
    contents version pad same-pad datatype_size dataspace_size p u x h r l =
        contents_value s state longest type_levels version pad same-pad datatype_size dataspace_size p u (u + raw_size x) x (λ t. SameType t x.datatype) (Is x (record { position = u; length = raw_size x })) h r.dataspace
        (λ m i. let y = datatype_is_read s longest type_levels p m x.datatype i r.datatype in (y.value, y.related, y.stands))
        (λ t n k e. rw e (value_same s t x u k l r.variable_length r.short))
