-- A datatype message of the standard that no listed difference turns back is read, over the same bytes. Assumes nothing.
use Prim.Native.Nat.{ℕ, zero, suc, ◌+◌, ◌≤◌, ◌<◌}
use Rattle.std.specs.Prelude.{◌≡◌, ◌⊎◌, Bool, true, false, ◌||◌, List, Option, None}
use Rattle.std.proofs.Math.Path.{refl, ap}
use Rattle.std.proofs.Common.{sym, ◌∙◌, subst, inl}
use Rattle.std.proofs.Math.Logic.{inr}
use native.Mathlib.Omega.{arith}
use Rattle.std.proofs.Math.Dec.{eqb}
use Rattle.std.proofs.Math.ListN.{length, get_or}
use borrow.Author.Tests.{eqb-true, lt-ltb}
use Rattle.format.specs.Bytes.{le, Named, to_multiple_of8}
use Rattle.format.specs.Format.{Format, done, refuse, number, skip, name, Stands, bind, times, check, pick, nothing}
use Rattle.format.specs.Standing.{stands_bind, stands_check, bind_stands}
use Rattle.records.specs.declared.DataType.{DataType}
use Rattle.records.specs.declared.DataFormat.{DataFormat}
use Rattle.records.specs.declared.FloatProperties.{FloatProperties}
use Rattle.ohdr_member.specs.Members.{member_fields}
use Rattle.ohdr_member.specs.Members as fields
use Rattle.ohdr_member.specs.Facts.{unused1}
use Rattle.ohdr_datatype.specs.declared.DataTypeHeader.{DataTypeHeader}
use Rattle.ohdr_datatype.specs.DataTypes.{known_class, known_type, data_type_header, fixed_properties, float_properties, float_is, ieee, float_format, plain, list_properties, type_layer, data_type}
use Rattle.ohdr_datatype.specs.DataTypes as ours
use Rattle.standard.specs.Fields.{Bytes}
use Rattle.standard.specs.Versions.{marked}
use Rattle.standard.specs.Datatypes.{DatatypeHeader, datatype_header, class, version, fixed_point_lem, FloatingPoint, floating_point_lem, terminated, Member1, member1, Member3, member3, Member, version_1, version_3, member, member_count, Datatype, datatype, Properties, fixed_point, floating_point, no_properties, members, parent_type, Members, no_members, more_members, members_of, compound, properties, datatype_of, datatype_message}
use Rattle.standard.specs.Converse.{ReadAs}
use Rattle.standard.specs.DatatypeRules.{EveryMember, OfMembers, Each, EachInside, EachMember}
use Rattle.standard_datatype.specs.ReadTypes.{single, double, ReadFloat, ReadMember, ReadType}
use Rattle.standard_datatype.specs.Same.{format_of, format_in, type_of, ScalarMember, ScalarMembers, SameHeader, OfClass, SameType}
use Rattle.standard_datatype.proofs.Ties.{one_of}

-- the header that is read, with the standard's fields
abbrev pub our_header : DatatypeHeader → DataTypeHeader
our_header h = record { class_and_version = h.class_and_version; class_bit_field = h.class_bit_field; size = h.size }

pub header_read : (s : List ℕ) (p q : ℕ) (h : DatatypeHeader) → Stands s datatype_header p q h → (eqb (version h) 1 || eqb (version h) 3) ≡ true → known_class (class h) ≡ true → h.size < 64
    → Stands s data_type_header p q (our_header h)
unfolding datatype_header data_type_header known_type
header_read s p q h i v c l =
    let e = i.1.1.1.1 in
    let a = rw (← e) at v in
    let b = rw (← e) at c in
    let d = rw (← e) at l in
    rw (← e) (i.0, rw (a, b) (i.1.0, (i.1.1.0, rw (lt-ltb _ 64 d) (i.1.1.1.0, refl))))

-- header and properties
pub layer_read : (s : List ℕ) (T : Format DataType) (p m q : ℕ) (h : DataTypeHeader) (f : Option DataFormat) → Stands s data_type_header p m h → Stands s (ours.properties h T) m q f
    → Stands s (type_layer T) p q (type_of h f)
unfolding type_layer
layer_read s T p m q h f i j =
    bind_stands s data_type_header (λ h. bind (ours.properties h T) (λ f. done (type_of h f))) p m q h (type_of h f) i
    (bind_stands s (ours.properties h T) (λ f. done (type_of h f)) m q q f (type_of h f) j (refl, refl))

-- members of version 1 are scalar, of a datatype message and of all inside it
scalar_each : (h : DatatypeHeader) (m : Members) → EveryMember (λ x t. ReadMember h x) m → EveryMember (λ x t. ScalarMember x) m
scalar_each h no_members r = tt
scalar_each h (more_members (version_1 x) t rest) r = (r.0.1, scalar_each h rest r.1)
scalar_each h (more_members (version_3 x) t rest) r = (tt, scalar_each h rest r.1)

scalar_own : (h : DatatypeHeader) (p : Properties) → OfMembers (λ h m t. ReadMember h m) h p → ScalarMembers h p
scalar_own h (fixed_point f) r = tt
scalar_own h (floating_point f) r = tt
scalar_own h no_properties r = tt
scalar_own h (members m) r = scalar_each h m r
scalar_own h (parent_type t) r = tt

mutual
  pub scalar_members : (t : Datatype) → Each ReadType t → Each ScalarMembers t
  scalar_members (datatype h p) w = (scalar_own h p w.0.members, scalar_inside p w.1)

  scalar_inside : (p : Properties) → EachInside ReadType p → EachInside ScalarMembers p
  scalar_inside (fixed_point f) w = tt
  scalar_inside (floating_point f) w = tt
  scalar_inside no_properties w = tt
  scalar_inside (members m) w = scalar_of m w
  scalar_inside (parent_type t) w = scalar_members t w

  scalar_of : (m : Members) → EachMember ReadType m → EachMember ScalarMembers m
  scalar_of no_members w = tt
  scalar_of (more_members x t rest) w = (scalar_members t w.0, scalar_of rest w.1)

module _ (s : List ℕ) (longest : ℕ) where
  -- a name with its zero, and what follows it
  name_read : (limit : ℕ) (F : ℕ → Format (Unit {0})) (p m q : ℕ) (x : Bytes) → Stands s (terminated longest) p m x → x.length ≤ limit → Stands s (F x.length) m q tt
      → Stands s (name limit (λ n. skip 1 (F n))) p q tt
  unfolding terminated le
  name_read limit F p m q x h l i =
      let n = h.0 in
      let c = stands_check s (eqb (le s (p + n) 1) 0) 0 (done {A = Bytes} (record { position = p; length = n })) (p + n + 1) m x h.2.1 in
      let e : n ≡ x.length = ap (λ (y : Bytes). y.length) c.1.1 in
      let z : le s (p + n) 1 ≡ 0 = eqb-true (le s (p + n) 1) 0 c.0 in
      (n, ended n h.1 (omega arith) h.2.0 (omega (arith, z)), (h.2.0, rw (c.1.0, e) i))
    where
      ended : (n : ℕ) → Named s p longest n → n ≤ limit → p + n + 1 ≤ length s → get_or s (p + n) 0 ≡ 0 → Named s p limit n
      ended n h l r z = record { inside = h.inside; within = l; nonzero = h.nonzero; ended = inr (omega arith, z) }

  -- what follows a name and its closing byte in version 1
  abbrev rest1 : ℕ → Format (Unit {0})
  rest1 length = skip (to_multiple_of8 (length + 1)) (number 4 (λ byte_offset_of_member. number 1 (λ dimensionality. check (eqb dimensionality 0) 11 unused1)))

  member1_read : (p q : ℕ) (x : Member1) → Stands s (member1 longest) p q x → x.name.length ≤ 255 → x.dimensionality ≡ 0 → Stands s fields.member1 p q tt
  unfolding member1 fields.member1
  member1_read p q x h l d =
      let b = stands_bind s (terminated longest) _ p q x h in
      let c = b.3 in
      let f = c.1.1.1 in
      let g = f.1.1.1.1.1.1.1 in
      let e : x.name ≡ b.1 = ap (λ (y : Member1). y.name) (sym g.1) in
      let z : le s (b.0 + to_multiple_of8 (b.1.length + 1) + 4) 1 ≡ 0 = ap (λ (y : Member1). y.dimensionality) g.1 ∙ d in
      name_read 255 rest1 p b.0 q b.1 b.2 (rw e at l)
      (c.0, (c.1.0, (c.1.1.0, rw z (f.0, (f.1.0, (f.1.1.0, (f.1.1.1.0, (f.1.1.1.1.0, (f.1.1.1.1.1.0, (f.1.1.1.1.1.1.0, (g.0, refl)))))))))))

  member3_read : (size p q : ℕ) (x : Member3) → Stands s (member3 longest size) p q x → x.name.length ≤ 4095 → 0 < size → size < 256 → Stands s (fields.member3 size) p q tt
  unfolding member3 fields.member3
  member3_read size p q x h l n u =
      let i = rw (lt-ltb size 256 u) at h in
      let b = stands_bind s (terminated longest) _ p q x i in
      let c = b.3 in
      let e : x.name ≡ b.1 = ap (λ (y : Member3). y.name) (sym c.1.1) in
      rw (lt-ltb 0 size n) (name_read 4095 (λ _. number 1 (λ byte_offset_of_member. nothing)) p b.0 q b.1 b.2 (rw e at l) (c.0, (c.1.0, refl)))

  -- a member up to its type, of the compound's own version
  member_read : (h : DatatypeHeader) (p q : ℕ) (x : Member) → (version h ≡ 1) ⊎ (version h ≡ 3) → h.size < 64 → Stands s (member longest h) p q x → ReadMember h x
      → Stands s (member_fields (version h) h.size) p q tt
  unfolding member marked member_fields
  member_read h p q x (inl e) u i r =
      let b = stands_bind s (member1 longest) (λ y. done (version_1 y)) p q x (rw e at i) in
      let a = rw (← b.3.1) at r in
      rw e (member1_read p q b.1 (rw b.3.0 at b.2) a.0 a.1)
  member_read h p q x (inr e) u i r =
      let b = stands_bind s (member3 longest h.size) (λ y. done (version_3 y)) p q x (rw e at i) in
      let a = rw (← b.3.1) at r in
      rw e (member3_read h.size p q b.1 (rw b.3.0 at b.2) a.0 a.1 (omega arith))

  -- a datatype stands from p to q, with the fields of the standard's message t
  abbrev TypeRead : Format DataType → ℕ → ℕ → Datatype → Type 0
  TypeRead U p q t = ReadAs SameType U s p q t

  -- properties stand from p to q, with the format of the standard's properties x
  abbrev pub PropertiesRead : Format (Option DataFormat) → ℕ → ℕ → Properties → Type 0
  PropertiesRead F p q x = Stands s F p q (format_in x)

  pub fixed_read : (p q : ℕ) (x : Properties) → Stands s (bind fixed_point_lem (λ f. done (fixed_point f))) p q x → PropertiesRead fixed_properties p q x
  unfolding fixed_point_lem fixed_properties bind
  fixed_read p q x h = rw (← h.1.1.1) (h.0, (h.1.0, (h.1.1.0, refl)))

  -- IEEE single and double pass
  abbrev our_float : FloatingPoint → FloatProperties
  our_float f =
      record {
        bit_offset = f.bit_offset;
        bit_precision = f.bit_precision;
        exponent_location = f.exponent_location;
        exponent_size = f.exponent_size;
        mantissa_location = f.mantissa_location;
        mantissa_size = f.mantissa_size;
        exponent_bias = f.exponent_bias;
      }

  float_passes : (f : FloatingPoint) → (f ≡ single) ⊎ (f ≡ double) → ieee (our_float f) ≡ true
  unfolding ieee float_is
  float_passes f (inl e) = rw e
  float_passes f (inr e) = rw e

  float_fields_read : (p q : ℕ) (f : FloatingPoint) → Stands s floating_point_lem p q f → Stands s float_properties p q (our_float f)
  unfolding floating_point_lem float_properties
  float_fields_read p q f h =
      let i = h.1.1.1.1 in
      let j = i.1.1.1 in
      rw (← j.1) (h.0, (h.1.0, (h.1.1.0, (h.1.1.1.0, (i.0, (i.1.0, (i.1.1.0, (j.0, refl))))))))

  pub float_read : (p q : ℕ) (x : Properties) → Stands s (bind floating_point_lem (λ f. done (floating_point f))) p q x → ReadFloat x → PropertiesRead float_format p q x
  unfolding float_format
  float_read p q x h r =
      let b = stands_bind s floating_point_lem (λ f. done (floating_point f)) p q x h in
      let a = rw (← b.3.1) at r in
      rw (← b.3.1) (bind_stands s float_properties _ p b.0 q (our_float b.1) _ (float_fields_read p b.0 b.1 b.2) (rw (float_passes b.1 a) (b.3.0, refl)))

  -- over the types inside
  module _ (T : Format Datatype) (U : Format DataType) (types : (p q : ℕ) (t : Datatype) → Stands s T p q t → Each ReadType t → TypeRead U p q t) where
    members_read : (h : DatatypeHeader) (n p q : ℕ) (m : Members) → (version h ≡ 1) ⊎ (version h ≡ 3) → h.size < 64 → Stands s (members_of longest h T n) p q m
        → EveryMember (λ x t. ReadMember h x) m → EachMember ReadType m → Stands s (times n (ours.member (version h) h.size U) plain) p q None
    unfolding members_of times plain ours.member
    members_read h zero p q m v u i r w = (i.0, refl)
    members_read h (suc n) p q m v u i r w =
        let a = stands_bind s (member longest h) _ p q m i in
        let b = stands_bind s T _ a.0 q m a.3 in
        let c = stands_bind s (members_of longest h T n) (λ rest. done (more_members a.1 b.1 rest)) b.0 q m b.3 in
        let r' = rw (← c.3.1) at r in
        let w' = rw (← c.3.1) at w in
        let x = member_read h p a.0 a.1 v u a.2 r'.0 in
        let y = types a.0 b.0 b.1 b.2 w'.0 in
        let z = members_read h n b.0 q c.1 v u (rw c.3.0 at c.2) r'.1 w'.1 in
        bind_stands s (ours.member (version h) h.size U) (λ _. times n (ours.member (version h) h.size U) plain) p b.0 q tt None
        (bind_stands s (member_fields (version h) h.size) (λ _. bind U (λ _. nothing)) p a.0 b.0 tt tt x (bind_stands s U (λ _. nothing) a.0 b.0 b.0 y.value tt y.stands (refl, refl)))
        z

    compound_read : (h : DatatypeHeader) (p q : ℕ) (x : Properties) → (version h ≡ 1) ⊎ (version h ≡ 3) → Stands s (bind (compound longest T h) (λ m. done (members m))) p q x
        → ReadType h x → EachInside ReadType x → PropertiesRead (times (member_count h) (ours.member (version h) h.size U) plain) p q x
    unfolding compound
    compound_read h p q x v i r w =
        let b = stands_bind s (members_of longest h T (member_count h)) (λ m. done (members m)) p q x i in
        let r' = rw (← b.3.1) at r in
        let w' = rw (← b.3.1) at w in
        rw (← b.3.1) (members_read h (member_count h) p q b.1 v r.small_size (rw b.3.0 at b.2) r'.members w')

    parent_read : (p q : ℕ) (x : Properties) → Stands s (bind T (λ t. done (parent_type t))) p q x → EachInside ReadType x → PropertiesRead (list_properties U) p q x
    unfolding list_properties
    parent_read p q x i w =
        let b = stands_bind s T (λ t. done (parent_type t)) p q x i in
        let w' = rw (← b.3.1) at w in
        let y = types p b.0 b.1 b.2 w' in
        rw (← b.3.1) (bind_stands s U (λ base. done base.data_fmt) p b.0 q y.value (format_of b.1) y.stands (b.3.0, y.related.properties))

    -- by the classes of the standard's format, in its order: properties stand only of these
    properties_read : (h : DatatypeHeader) (p q : ℕ) (x : Properties) → (version h ≡ 1) ⊎ (version h ≡ 3) → Stands s (properties longest T h) p q x → ReadType h x → EachInside ReadType x
        → (known_class (class h) ≡ true) × PropertiesRead (ours.properties (our_header h) U) p q x × OfClass (class h) x
    unfolding properties ours.properties known_class plain
    properties_read h p q x v i r w =
        go (eqb (class h) 0) refl (eqb (class h) 1) refl (eqb (class h) 3) (eqb (class h) 6) refl (eqb (class h) 7) refl (eqb (class h) 9) refl i
      where
        -- of a class with one kind of properties
        of_class : {A : Type 0} (F : Format A) (con : A → Properties) → Stands s (bind F (λ a. done (con a))) p q x → ((a : A) → con a ≡ x → OfClass (class h) (con a)) → OfClass (class h) x
        of_class F con i f = let b = stands_bind s F (λ a. done (con a)) p q x i in rw (← b.3.1) (f b.1 b.3.1)

        float : (f : FloatingPoint) → floating_point f ≡ x → ReadFloat (floating_point f)
        float f e = subst ReadFloat (sym e) r.float

        go : (c0 : Bool) → eqb (class h) 0 ≡ c0 → (c1 : Bool) → eqb (class h) 1 ≡ c1 → (c3 c6 : Bool) → eqb (class h) 6 ≡ c6 → (c7 : Bool) → eqb (class h) 7 ≡ c7 → (c9 : Bool) → eqb (class h) 9 ≡ c9
            → Stands s (
            pick c0 (bind fixed_point_lem (λ f. done (fixed_point f))) (
            pick c1 (bind floating_point_lem (λ f. done (floating_point f))) (
            pick c3 (done no_properties) (
            pick c6 (bind (compound longest T h) (λ m. done (members m))) (
            pick c7 (done no_properties) (
            pick c9 (bind T (λ t. done (parent_type t))) (
            refuse 0))))))) p q x
            → ((c0 || (c1 || (c3 || (c6 || (c7 || c9))))) ≡ true) × Stands s (
            pick c0 fixed_properties (
            pick c1 float_format (
            pick (c3 || c7) (done None) (
            pick c6 (times (member_count h) (ours.member (version h) h.size U) (done None)) (
            pick c9 (list_properties U) (
            refuse 11)))))) p q (format_in x) × OfClass (class h) x
        go true a c1 b c3 c6 e c7 d c9 g i = (refl, fixed_read p q x i, of_class fixed_point_lem fixed_point i (λ f k. eqb-true (class h) 0 a))
        go false a true b c3 c6 e c7 d c9 g i = (refl, float_read p q x i r.float, of_class floating_point_lem floating_point i (λ f k. (eqb-true (class h) 1 b, float f k)))
        go false a false b true c6 e c7 d c9 g i = (refl, rw (← i.1) (i.0, refl), rw (← i.1) tt)
        go false a false b false true e true d c9 g i = let z = eqb-true (class h) 6 e in let y = eqb-true (class h) 7 d in absurd (omega arith)
        go false a false b false true e false d c9 g i = (refl, compound_read h p q x v i r w, of_class (compound longest T h) members i (λ m k. tt))
        go false a false b false false e true d c9 g i = (refl, rw (← i.1) (i.0, refl), rw (← i.1) tt)
        go false a false b false false e false d true g i = (refl, parent_read p q x i w, of_class T parent_type i (λ t k. eqb-true (class h) 9 g))
        go false a false b false false e false d false g i = absurd i

    type_read : (p q : ℕ) (t : Datatype) → Stands s (datatype_of longest T) p q t → Each ReadType t → TypeRead (type_layer U) p q t
    unfolding datatype_of
    type_read p q t i w =
        let a = stands_bind s datatype_header _ p q t i in
        let h = a.1 in
        let b = stands_check s (eqb (version h) 1 || eqb (version h) 3) 0 _ a.0 q t a.3 in
        let c = stands_bind s (properties longest T h) (λ x. done (datatype h x)) a.0 q t b.1 in
        let w' = rw (← c.3.1) at w in
        let y = properties_read h a.0 q c.1 (one_of (version h) 1 3 b.0) (rw c.3.0 at c.2) w'.0 w'.1 in
        let f = format_in c.1 in
        let z = layer_read s U p a.0 q (our_header h) f (header_read s p a.0 h a.2 b.0 y.0 w'.0.small_size) y.1 in
        let e : SameHeader (type_of (our_header h) f) h = record { class_and_version = refl; class_bit_field = refl; size = refl; list_size_lem = refl } in
        let r : TypeRead (type_layer U) p q (datatype h c.1) = record { value = type_of (our_header h) f; stands = z; related = record { header = e; properties = refl; of_class = y.2; members = scalar_members (datatype h c.1) w' } } in
        rw (← c.3.1) r

  -- A datatype message of the standard with at most so many datatype messages one inside another, none of which a listed difference turns back, is read
  -- over the same bytes, and its record has the message's fields.
  pub datatype_is_read : (levels p q : ℕ) (t : Datatype) → Stands s (datatype_message longest levels) p q t → Each ReadType t → ReadAs SameType (data_type levels) s p q t
  unfolding datatype_message data_type
  datatype_is_read zero p q t i w = absurd i
  datatype_is_read (suc levels) p q t i w = type_read (datatype_message longest levels) (data_type levels) (datatype_is_read levels) p q t i w
