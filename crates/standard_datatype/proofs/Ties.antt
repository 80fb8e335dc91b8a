-- Wherever a datatype that is read stands, the standard's datatype message stands over the same bytes with the same fields, or a listed
-- difference applies. Assumes nothing.
use Prim.Native.Nat.{ℕ, zero, suc, ◌%◌, ◌≤◌, ◌<◌}
use Rattle.std.specs.Prelude.{◌≡◌, refl, ◌⊎◌, Bool, true, false, ◌||◌, eqb, ltb, Option, None}
use Rattle.std.proofs.Common.{ap, arith, eqb-true, ltb-true}
use Rattle.std.proofs.Math.Logic.{inl, inr}
use mathlib.Core.List.{List}
use Rattle.format.specs.BytesLaws.{by_le}
use Rattle.format.specs.Bools.{and_left, and_right}
use Rattle.format.specs.Format.{Format, done, Stands, bind, times, nothing}
use Rattle.format.specs.Standing.{stands_bind, bind_stands}
use Rattle.records.specs.declared.DataType.{DataType}
use Rattle.records.specs.declared.DataFormat.{DataFormat}
use Rattle.records.specs.declared.FloatProperties.{FloatProperties}
use Rattle.ohdr_member.specs.Members.{member_fields}
use Rattle.ohdr_datatype.specs.declared.DataTypeHeader.{DataTypeHeader}
use Rattle.ohdr_datatype.specs.DataTypes.{class_of, version_of, known_version, known_class, known_type, data_type_header, fixed_properties, float_properties, float_is, ieee, float_format, plain, list_properties, type_layer, data_type}
use Rattle.ohdr_datatype.specs.DataTypes as ours
use Rattle.standard.specs.Fields.{only}
use Rattle.standard.specs.Tie.{Stood, Tied, TiedBut, tied_done, tied_number, tied_check, tied_bind, but_tied, but_more, Either, in_first, in_second, but_bind}
use Rattle.standard.specs.TieMore.{but_map}
use Rattle.standard.specs.Datatypes.{DatatypeHeader, datatype_header, version, fixed_point_lem, FloatingPoint, floating_point_lem, member, Datatype, datatype, Properties, fixed_point, floating_point, members, parent_type, Members, more_members, members_of, compound, properties, datatype_of, datatype_message}
use Rattle.standard_datatype.specs.Differences.{name_limit, LongName, TypeDiffers, in_properties, PropertiesDiffer, compound_of_size_0, in_members, in_parent_type, MembersDiffer, long_name, in_member_type, in_later}
use Rattle.standard_datatype.specs.Same.{format_in, type_of, OfClass, ScalarMember, ScalarMembers, SameHeader, SameType, HeaderStood}
use Rattle.standard_datatype.proofs.Members.{member_tied}
use Rattle.standard_datatype.specs.ReadTypes.{single, double}
use Rattle.standard.specs.DatatypeRules.{EveryMember, EachInside, EachMember}

-- the header of the standard that has the fields of ours
abbrev the_header : DataTypeHeader → DatatypeHeader
the_header h = record { class_and_version = h.class_and_version; class_bit_field = h.class_bit_field; size = h.size }

-- it is that, and ours has passed its tests
record Passed (h : DataTypeHeader) (b : DatatypeHeader) : Type 0 where
  same : the_header h ≡ b
  known : known_type h.class_and_version ≡ true
  small : ltb h.size 64 ≡ true

header_tied : Tied Passed data_type_header datatype_header
unfolding data_type_header datatype_header
header_tied =
    tied_number (λ cv. tied_check (known_type cv) 11 (λ k. tied_number (λ bits. tied_number (λ size. tied_check (ltb size 64) 11 (λ l.
    tied_done (record { same = refl; known = k; small = l }))))))

same_header : (h : DataTypeHeader) (b : DatatypeHeader) (f : Option DataFormat) (t : DataType) → the_header h ≡ b → type_of h f ≡ t → SameHeader t b
same_header h b f t e d = rw (← e, ← d) (record { class_and_version = refl; class_bit_field = refl; size = refl; list_size_lem = refl })

-- the properties of ours are those of the standard, and members of version 1 are scalar
record SameProperties (class : ℕ) (f : Option DataFormat) (p : Properties) : Type 0 where
  format : f ≡ format_in p
  of_class : OfClass class p
  outside : (h : DatatypeHeader) → ScalarMembers h p
  inside : EachInside ScalarMembers p

fixed_tied : Tied (SameProperties 0) fixed_properties (bind fixed_point_lem (λ f. done (fixed_point f)))
unfolding fixed_properties fixed_point_lem bind
fixed_tied = tied_number (λ o. tied_number (λ p. tied_done (record { format = refl; of_class = refl; outside = λ _. tt; inside = tt })))

-- the seven fields of a floating-point number
abbrev the_float : FloatProperties → FloatingPoint
the_float f =
    record {
      bit_offset = f.bit_offset;
      bit_precision = f.bit_precision;
      exponent_location = f.exponent_location;
      exponent_size = f.exponent_size;
      mantissa_location = f.mantissa_location;
      mantissa_size = f.mantissa_size;
      exponent_bias = f.exponent_bias;
    }

float_fields_tied : Tied (λ f g. the_float f ≡ g) float_properties floating_point_lem
unfolding float_properties floating_point_lem
float_fields_tied = tied_number (λ a. tied_number (λ b. tied_number (λ c. tied_number (λ d. tied_number (λ e. tied_number (λ f. tied_number (λ g. tied_done refl)))))))

-- IEEE single or double, field by field
float_is_lem : (f : FloatProperties) (precision location exponent mantissa bias : ℕ) → float_is f precision location exponent mantissa bias ≡ true
    → the_float f ≡ record { bit_offset = 0; bit_precision = precision; exponent_location = location; exponent_size = exponent; mantissa_location = 0; mantissa_size = mantissa; exponent_bias = bias }
unfolding float_is
float_is_lem f precision location exponent mantissa bias e =
    let a = and_right (eqb f.bit_offset 0) _ e in
    let b = and_right (eqb f.mantissa_location 0) _ a in
    let c = and_right (eqb f.bit_precision precision) _ b in
    let d = and_right (eqb f.exponent_location location) _ c in
    let g = and_right (eqb f.exponent_size exponent) _ d in
    rw (
      eqb-true f.bit_offset 0 (and_left (eqb f.bit_offset 0) _ e),
      eqb-true f.mantissa_location 0 (and_left (eqb f.mantissa_location 0) _ a),
      eqb-true f.bit_precision precision (and_left (eqb f.bit_precision precision) _ b),
      eqb-true f.exponent_location location (and_left (eqb f.exponent_location location) _ c),
      eqb-true f.exponent_size exponent (and_left (eqb f.exponent_size exponent) _ d),
      eqb-true f.mantissa_size mantissa (and_left (eqb f.mantissa_size mantissa) _ g),
      eqb-true f.exponent_bias bias (and_right (eqb f.mantissa_size mantissa) _ g),
    )

-- one of two tests has passed
either : (a b : Bool) → (a || b) ≡ true → (a ≡ true) ⊎ (b ≡ true)
either true b e = inl refl
either false b e = inr e

float_known : (f : FloatProperties) → ieee f ≡ true → (the_float f ≡ single) ⊎ (the_float f ≡ double)
unfolding ieee
float_known f e = go (either (float_is f 32 23 8 23 127) (float_is f 64 52 11 52 1023) e)
  where
    go : (float_is f 32 23 8 23 127 ≡ true) ⊎ (float_is f 64 52 11 52 1023 ≡ true) → (the_float f ≡ single) ⊎ (the_float f ≡ double)
    go (inl d) = inl (float_is_lem f 32 23 8 23 127 d)
    go (inr d) = inr (float_is_lem f 64 52 11 52 1023 d)

float_tied : Tied (SameProperties 1) float_format (bind floating_point_lem (λ f. done (floating_point f)))
unfolding float_format
float_tied = tied_bind float_fields_tied (λ f g e. tied_check (ieee f) 11 (λ k. tied_done (record { format = ap (λ (x : FloatingPoint). format_in (floating_point x)) e; of_class = (refl, rw e at (float_known f k)); outside = λ _. tt; inside = tt })))

-- one of two numbers
pub one_of : (n a b : ℕ) → (eqb n a || eqb n b) ≡ true → (n ≡ a) ⊎ (n ≡ b)
one_of n a b e = go (either (eqb n a) (eqb n b) e)
  where
    go : (eqb n a ≡ true) ⊎ (eqb n b ≡ true) → (n ≡ a) ⊎ (n ≡ b)
    go (inl d) = inl (eqb-true n a d)
    go (inr d) = inr (eqb-true n b d)

-- by the classes that are read
by_class : {P : Type 0} (c : ℕ) → known_class c ≡ true → (c ≡ 0 → P) → (c ≡ 1 → P) → (c ≡ 3 → P) → (c ≡ 6 → P) → (c ≡ 7 → P) → (c ≡ 9 → P) → P
unfolding known_class
by_class {P} c k f0 f1 f3 f6 f7 f9 = go0 (either (eqb c 0) _ k)
  where
    go6 : (c ≡ 7) ⊎ (c ≡ 9) → P
    go6 (inl e) = f7 e
    go6 (inr e) = f9 e

    go3 : (eqb c 6 ≡ true) ⊎ ((eqb c 7 || eqb c 9) ≡ true) → P
    go3 (inl e) = f6 (eqb-true c 6 e)
    go3 (inr e) = go6 (one_of c 7 9 e)

    go1 : (eqb c 3 ≡ true) ⊎ ((eqb c 6 || (eqb c 7 || eqb c 9)) ≡ true) → P
    go1 (inl e) = f3 (eqb-true c 3 e)
    go1 (inr e) = go3 (either (eqb c 6) _ e)

    go : (eqb c 1 ≡ true) ⊎ ((eqb c 3 || (eqb c 6 || (eqb c 7 || eqb c 9))) ≡ true) → P
    go (inl e) = f1 (eqb-true c 1 e)
    go (inr e) = go1 (either (eqb c 3) _ e)

    go0 : (eqb c 0 ≡ true) ⊎ ((eqb c 1 || (eqb c 3 || (eqb c 6 || (eqb c 7 || eqb c 9)))) ≡ true) → P
    go0 (inl e) = f0 (eqb-true c 0 e)
    go0 (inr e) = go (either (eqb c 1) _ e)

module _ (longest : ℕ) (wide : 4095 ≤ longest) where
  -- over what is tied of the types inside
  module _ (levels : ℕ) (types : TiedBut (λ s p. TypeDiffers longest s p) SameType (data_type levels) (datatype_message longest levels)) where
    -- of the members ours keeps nothing
    record NoFormat (f : Option DataFormat) (m : Members) : Type 0 where
      none : f ≡ None
      outside : EveryMember (λ x t. ScalarMember x) m
      inside : EachMember ScalarMembers m

    abbrev our_members : DatatypeHeader → ℕ → Format (Option DataFormat)
    our_members h n = times n (ours.member (version h) h.size (data_type levels)) plain

    abbrev their_members : DatatypeHeader → ℕ → Format Members
    their_members h n = members_of longest h (datatype_message longest levels) n

    abbrev MembersTied : DatatypeHeader → ℕ → Type 0
    MembersTied h n = TiedBut (λ s p. MembersDiffer longest s h n p) NoFormat (our_members h n) (their_members h n)

    abbrev MembersStood : DatatypeHeader → ℕ → List ℕ → ℕ → ℕ → Option DataFormat → Type 0
    MembersStood h n s p q a = MembersDiffer longest s h n p ⊎ Stood NoFormat (their_members h n) s p q a

    one_more : (h : DatatypeHeader) (n : ℕ) (s : List ℕ) (p m r q : ℕ) (a : Option DataFormat)
        → LongName (name_limit (version h)) s p ⊎ Stood {A = Unit {0}} (λ _ x. ScalarMember x) (member longest h) s p m tt
        → (t : DataType) → TypeDiffers longest s m ⊎ Stood SameType (datatype_message longest levels) s m r t
        → MembersStood h n s r q a → MembersStood h (suc n) s p q a
    unfolding members_of
    one_more h n s p m r q a (inl d) t y z = inl (long_name d)
    one_more h n s p m r q a (inr x) t (inl d) z = inl (in_member_type m x.value x.stands d)
    one_more h n s p m r q a (inr x) t (inr y) (inl d) = inl (in_later m r levels x.value y.value x.stands y.stands d)
    one_more h n s p m r q a (inr x) t (inr y) (inr z) =
        inr (record { value = v; stands = stand; related = record { none = z.related.none; outside = (x.related, z.related.outside); inside = (y.related.members, z.related.inside) } })
      where
        v : Members
        v = more_members x.value y.value z.value

        stand : Stands s (their_members h (suc n)) p q v
        stand =
            bind_stands s (member longest h) (λ x. bind (datatype_message longest levels) (λ y. bind (their_members h n) (λ z. done (more_members x y z)))) p m q x.value v x.stands
            (bind_stands s (datatype_message longest levels) (λ y. bind (their_members h n) (λ z. done (more_members x.value y z))) m r q y.value v y.stands
            (bind_stands s (their_members h n) (λ z. done (more_members x.value y.value z)) r q q z.value v z.stands (refl, refl)))

    -- members of version 1, or of version 3 in a compound that has a size
    members_tied : (h : DatatypeHeader) → (version h ≡ 1) ⊎ ((version h ≡ 3) × (0 < h.size)) → h.size < 64 → (n : ℕ) → MembersTied h n
    unfolding times members_of plain ours.member
    members_tied h v u zero = but_tied (tied_done (record { none = refl; outside = tt; inside = tt }))
    members_tied h v u (suc n) = next (members_tied h v u n)
      where
        next : MembersTied h n → MembersTied h (suc n)
        next rest = record { ties = whole }
          where
            whole : (s : List ℕ) (p q : ℕ) (a : Option DataFormat) → Stands s (our_members h (suc n)) p q a → MembersStood h (suc n) s p q a
            whole s p q a i =
                let w = stands_bind s (ours.member (version h) h.size (data_type levels)) (λ _. our_members h n) p q a i in
                let f = stands_bind s (member_fields (version h) h.size) (λ _. bind (data_type levels) (λ _. nothing)) p w.0 w.1 w.2 in
                let t = stands_bind s (data_type levels) (λ _. nothing) f.0 w.0 w.1 f.3 in
                let y = rw t.3.0 at (types.ties s f.0 t.0 t.1 t.2) in
                one_more h n s p f.0 w.0 q a ((member_tied longest wide h v (omega arith)).ties s p f.0 tt f.2) t.1 y (rest.ties s w.0 q a w.3)

    abbrev our_compound : DataTypeHeader → Format (Option DataFormat)
    our_compound h = times (h.class_bit_field % 65536) (ours.member (version_of h.class_and_version) h.size (data_type levels)) plain

    abbrev their_compound : DataTypeHeader → Format Properties
    their_compound h = bind (compound longest (datatype_message longest levels) (the_header h)) (λ m. done (members m))

    abbrev CompoundTied : DataTypeHeader → Type 0
    CompoundTied h = TiedBut (λ s p. PropertiesDiffer longest s (the_header h) p) (SameProperties 6) (our_compound h) (their_compound h)

    -- no members
    compound_none : (h : DataTypeHeader) → h.class_bit_field % 65536 ≡ 0 → CompoundTied h
    unfolding times plain compound members_of bind
    compound_none h e = rw e (but_tied (tied_done (record { format = refl; of_class = tt; outside = λ _. tt; inside = tt })))

    -- members, but not of version 3 in a compound of size 0
    compound_some : (h : DataTypeHeader) → class_of h.class_and_version ≡ 6 → (version_of h.class_and_version ≡ 1) ⊎ ((version_of h.class_and_version ≡ 3) × (0 < h.size)) → h.size < 64 → CompoundTied h
    unfolding compound
    compound_some h c v u =
        but_more (λ s p d. in_members c d) (but_map members (λ f m e. record { format = e.none; of_class = tt; outside = λ _. e.outside; inside = e.inside }) (members_tied (the_header h) v u (h.class_bit_field % 65536)))

    compound_tied : (h : DataTypeHeader) → class_of h.class_and_version ≡ 6 → (version_of h.class_and_version ≡ 1) ⊎ (version_of h.class_and_version ≡ 3) → h.size < 64 → CompoundTied h
    compound_tied h c v u = by_le 1 (h.class_bit_field % 65536) (λ n. go (λ e. omega arith) v) (λ n. compound_none h (omega arith))
      where
        go : (h.class_bit_field % 65536 ≡ 0 → ⊥) → (version_of h.class_and_version ≡ 1) ⊎ (version_of h.class_and_version ≡ 3) → CompoundTied h
        go n (inl e) = compound_some h c (inl e) u
        go n (inr e) = by_le 1 h.size (λ l. compound_some h c (inr (e, l)) u) (λ l. let z : h.size ≡ 0 = omega arith in record { ties = λ s p q a i. inl (compound_of_size_0 c e z n) })

    list_tied : (h : DataTypeHeader) → class_of h.class_and_version ≡ 9
        → TiedBut (λ s p. PropertiesDiffer longest s (the_header h) p) (SameProperties 9) (list_properties (data_type levels)) (bind (datatype_message longest levels) (λ t. done (parent_type t)))
    unfolding list_properties
    list_tied h c = but_more differs (but_bind types (λ a b e. but_tied {D = λ _ _. ⊥} (tied_done (record { format = e.properties; of_class = refl; outside = λ _. tt; inside = e.members }))))
      where
        differs : (s : List ℕ) (p : ℕ) → Either (λ s p. TypeDiffers longest s p) (datatype_message longest levels) (λ _ _ _. ⊥) s p → PropertiesDiffer longest s (the_header h) p
        differs s p (in_first d) = in_parent_type c d
        differs s p (in_second m b i d) = absurd d

    -- what is known of a header that has passed its tests
    known_version_lem : (h : DataTypeHeader) → known_type h.class_and_version ≡ true → known_version (version_of h.class_and_version) ≡ true
    unfolding known_type
    known_version_lem h k = and_left (known_version (version_of h.class_and_version)) (known_class (class_of h.class_and_version)) k

    known_class_lem : (h : DataTypeHeader) → known_type h.class_and_version ≡ true → known_class (class_of h.class_and_version) ≡ true
    unfolding known_type
    known_class_lem h k = and_right (known_version (version_of h.class_and_version)) (known_class (class_of h.class_and_version)) k

    properties_tied : (h : DataTypeHeader) → known_type h.class_and_version ≡ true → ltb h.size 64 ≡ true
        → TiedBut (λ s p. PropertiesDiffer longest s (the_header h) p) (SameProperties (class_of h.class_and_version)) (ours.properties h (data_type levels)) (properties longest (datatype_message longest levels) (the_header h))
    unfolding ours.properties properties plain
    properties_tied h k l =
        by_class (class_of h.class_and_version) (known_class_lem h k)
        (λ e. rw e (but_tied fixed_tied))
        (λ e. rw e (but_tied float_tied))
        (λ e. rw e (but_tied (tied_done (record { format = refl; of_class = tt; outside = λ _. tt; inside = tt }))))
        (λ e. rw e (compound_tied h e (one_of (version_of h.class_and_version) 1 3 (known_version_lem h k)) (ltb-true h.size 64 l)))
        (λ e. rw e (but_tied (tied_done (record { format = refl; of_class = tt; outside = λ _. tt; inside = tt }))))
        (λ e. rw e (list_tied h e))

    -- what follows the header
    abbrev our_rest : DataTypeHeader → Format DataType
    our_rest h = bind (ours.properties h (data_type levels)) (λ data-fmt. done (type_of h data-fmt))

    abbrev their_rest : DatatypeHeader → Format Datatype
    their_rest b = only (eqb (version b) 1 || eqb (version b) 3) (bind (properties longest (datatype_message longest levels) b) (λ p. done (datatype b p)))

    rest_tied : (h : DataTypeHeader) → known_type h.class_and_version ≡ true → ltb h.size 64 ≡ true
        → TiedBut (λ s p. PropertiesDiffer longest s (the_header h) p) SameType (our_rest h) (their_rest (the_header h))
    rest_tied h k l = rw (known_version_lem h k) (but_more differs (but_bind (properties_tied h k l) (λ f p e. but_tied {D = λ _ _. ⊥} (tied_done (same f p e)))))
      where
        same : (f : Option DataFormat) (p : Properties) → SameProperties (class_of h.class_and_version) f p → SameType (type_of h f) (datatype (the_header h) p)
        same f p e = record { header = same_header h (the_header h) f (type_of h f) refl refl; properties = e.format; of_class = e.of_class; members = (e.outside (the_header h), e.inside) }

        differs : (s : List ℕ) (p : ℕ) → Either (λ s p. PropertiesDiffer longest s (the_header h) p) (properties longest (datatype_message longest levels) (the_header h)) (λ _ _ _. ⊥) s p
            → PropertiesDiffer longest s (the_header h) p
        differs s p (in_first d) = d
        differs s p (in_second m b i d) = absurd d

    layer_tied : TiedBut (λ s p. TypeDiffers longest s p) SameType (type_layer (data_type levels)) (datatype_of longest (datatype_message longest levels))
    unfolding type_layer datatype_of
    layer_tied = but_more differs (but_bind (but_tied {D = λ _ _. ⊥} header_tied) (λ h b e. rw (← e.same) (rest_tied h e.known e.small)))
      where
        differs : (s : List ℕ) (p : ℕ) → Either (λ _ _. ⊥) datatype_header (λ b s p. PropertiesDiffer longest s b p) s p → TypeDiffers longest s p
        differs s p (in_first d) = absurd d
        differs s p (in_second m b i d) = in_properties m b i d

  -- A datatype with at most so many levels stands only where the standard's datatype message stands over the same bytes, and each field of its
  -- record is the standard's; or the bytes differ in one of the ways that are listed.
  pub datatype_tied : (levels : ℕ) → TiedBut (λ s p. TypeDiffers longest s p) SameType (data_type levels) (datatype_message longest levels)
  unfolding data_type datatype_message
  datatype_tied zero = record { ties = λ s p q a h. absurd h }
  datatype_tied (suc levels) = layer_tied levels (datatype_tied levels)

-- Whatever its properties are, also where a difference applies: the fields of the header are the standard's.
pub header_fields_tied : (s : List ℕ) (levels p q : ℕ) (t : DataType) → Stands s (data_type levels) p q t → HeaderStood s p t
unfolding data_type type_layer
header_fields_tied s zero p q t h = absurd h
header_fields_tied s (suc levels) p q t h =
    let w = stands_bind s data_type_header (λ h. bind (ours.properties h (data_type levels)) (λ f. done (type_of h f))) p q t h in
    let x = header_tied.ties s p w.0 w.1 w.2 in
    let v = stands_bind s (ours.properties w.1 (data_type levels)) (λ f. done (type_of w.1 f)) w.0 q t w.3 in
    record { upto = w.0; header = x.value; stands = x.stands; same = same_header w.1 x.value v.1 t x.related.same v.3.1 }
