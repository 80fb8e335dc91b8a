-- A datatype has a number exactly where the standard's message has one, and it is the number that the tables of its class say. Assumes nothing.
use Rattle.std.specs.Prelude.{ℕ, ◌-◌, ◌*◌, ◌/◌, ◌%◌, ◌^◌, ◌≤◌, ◌<◌, ◌⊎◌, Bool, false, not, ◌&&◌, ◌||◌, List, leb, Option, Some, None}
use Rattle.std.proofs.Math.Path.{◌≡◌, refl, sym}
use Rattle.std.proofs.Common.{◌∙◌, ap, inl, inr, mod-eq_of_lt, arith}
use Rattle.std.proofs.Math.Bool.{true}
use Rattle.std.proofs.Math.Dec.{eqb}
use Rattle.std.specs.Float.Ieee as Ieee
use Rattle.std.specs.Float.{binary32, binary64}
use Rattle.std.specs.Float.Ieee.{of_bits, of_fields, top, emax}
use borrow.Author.Tests.{eqb-true, eqb-false, eq-eqb, le-leb, lt-leb, not-true}
use Rattle.format.specs.Bytes.{AreBytes}
use Rattle.format.specs.Bits.{bit}
use Rattle.format.specs.Bools.{and_left, and_right}
use Rattle.format.specs.BytesLaws.{by_le}
use Rattle.format.specs.Format.{pick}
use Rattle.records.specs.declared.DataFormat.{DataFormat}
use Rattle.records.specs.declared.DataFormat.TheVariants as formats
use Rattle.records.specs.declared.DataType.{DataType}
use Rattle.records.specs.declared.Number.{Number}
use Rattle.number_form.specs.declared.NumberForm.{NumberForm}
use Rattle.number_form.specs.declared.NumberForm.TheVariants as forms
use Rattle.number_form.specs.Forms.{is_signed, whole_size, fixed_form, is_float, float_form, form_of, number_form}
use Rattle.element_number.specs.Values.{signed_of, number_of}
use Rattle.number_form.specs.Sizes.{some_size, small_size, no_form}
use Rattle.records.specs.Numbers.{number_bits}
use Rattle.element_number.specs.Kept.{stored_below, twice_half, number_case_lem, number_bits_lem, IsFloat, single_value, double_value}
use Rattle.standard.specs.Datatypes.{DatatypeHeader, class, FixedPoint, FloatingPoint, Datatype, datatype, header_of, Properties, fixed_point, floating_point, no_properties, members, parent_type}
use Rattle.standard.specs.DatatypeRules.{bits}
use Rattle.standard.specs.Numbers.{element_bits, exponent, mantissa}
use Rattle.standard_datatype.specs.ReadTypes.{single, double, ReadFloat}
use Rattle.standard_datatype.specs.Same.{format_of, OfClass, properties_of, SameHeader}
use Rattle.standard_attribute.specs.SameNumbers.{WholeNumber, FloatNumber, HasNumber, unsigned, signed, SameFloat, SameNumber}

-- the form, by the standard's fields
abbrev their_form : Datatype → Option NumberForm
their_form x = form_of (class (header_of x)) (header_of x).class_bit_field (header_of x).size (format_of x)

their_form_lem : (t : DataType) (x : Datatype) → SameHeader t (header_of x) → t.data_fmt ≡ format_of x → number_form t ≡ their_form x
unfolding number_form
their_form_lem t x i f = rw (i.class_and_version, i.class_bit_field, i.size, f)

-- what a form says of the standard's message
pub data FormIs : NumberForm → Datatype → Type 0 where
  is_unsigned : {h : DatatypeHeader} {f : FixedPoint} → WholeNumber h f → bits h.class_bit_field 3 1 ≡ 0 → FormIs forms.Unsigned (datatype h (fixed_point f))
  is_signed_lem : {h : DatatypeHeader} {f : FixedPoint} → WholeNumber h f → bits h.class_bit_field 3 1 ≡ 1 → FormIs forms.Signed (datatype h (fixed_point f))
  is_single : {h : DatatypeHeader} {f : FloatingPoint} → FloatNumber 4 h f → f ≡ single → FormIs forms.Single (datatype h (floating_point f))
  is_double : {h : DatatypeHeader} {f : FloatingPoint} → FloatNumber 8 h f → f ≡ double → FormIs forms.Double (datatype h (floating_point f))

pub form_has : {form : NumberForm} {x : Datatype} → FormIs form x → HasNumber x
form_has (is_unsigned w e) = w
form_has (is_signed_lem w e) = w
form_has (is_single w e) = inl w
form_has (is_double w e) = inr w

whole_sizes : (size : ℕ) → whole_size size ≡ true → (size ≡ 1) ⊎ ((size ≡ 2) ⊎ ((size ≡ 4) ⊎ (size ≡ 8)))
unfolding whole_size
whole_sizes size e = go (eqb size 1) refl (eqb size 2) refl (eqb size 4) refl (eqb size 8) refl e
  where
    go : (a : Bool) → eqb size 1 ≡ a → (b : Bool) → eqb size 2 ≡ b → (c : Bool) → eqb size 4 ≡ c → (d : Bool) → eqb size 8 ≡ d → (a || (b || (c || d))) ≡ true
        → (size ≡ 1) ⊎ ((size ≡ 2) ⊎ ((size ≡ 4) ⊎ (size ≡ 8)))
    go true a b f c g d h t = inl (eqb-true size 1 a)
    go false a true f c g d h t = inr (inl (eqb-true size 2 f))
    go false a false f true g d h t = inr (inr (inl (eqb-true size 4 g)))
    go false a false f false g true h t = inr (inr (inr (eqb-true size 8 h)))
    go false a false f false g false h t = let z : ◌≡◌ {A = ℕ} 0 1 = cc in absurd (omega arith)

module _ (h : DatatypeHeader) where
  fixed_is : (f : FixedPoint) (form : NumberForm) → class h ≡ 0 → fixed_form h.class_bit_field h.size f.bit_offset f.bit_precision ≡ Some form → FormIs form (datatype h (fixed_point f))
  unfolding fixed_form
  fixed_is f form c e = go (whole_size h.size && (eqb f.bit_offset 0 && eqb f.bit_precision (8 * h.size))) refl (is_signed h.class_bit_field) refl e
    where
      whole : (whole_size h.size && (eqb f.bit_offset 0 && eqb f.bit_precision (8 * h.size))) ≡ true → WholeNumber h f
      whole t =
          let r = and_right (whole_size h.size) _ t in
          record {
            of_class = c;
            size = whole_sizes h.size (and_left (whole_size h.size) _ t);
            bit_offset = eqb-true f.bit_offset 0 (and_left (eqb f.bit_offset 0) _ r);
            bit_precision = eqb-true f.bit_precision (8 * h.size) (and_right (eqb f.bit_offset 0) _ r);
          }

      go : (t : Bool) → (whole_size h.size && (eqb f.bit_offset 0 && eqb f.bit_precision (8 * h.size))) ≡ t → (u : Bool) → is_signed h.class_bit_field ≡ u
          → pick t (Some (pick u forms.Signed forms.Unsigned)) None ≡ Some form → FormIs form (datatype h (fixed_point f))
      go true t true u e = let i : forms.Signed ≡ form = cc in rw (← i) (is_signed_lem (whole t) (eqb-true (bits h.class_bit_field 3 1) 1 u))
      go true t false u e = let i : forms.Unsigned ≡ form = cc in let n = eqb-false (bits h.class_bit_field 3 1) 1 u in rw (← i) (is_unsigned (whole t) (omega arith))
      go false t u v e = no_form e

  float_number : (f : FloatingPoint) (w : ℕ) → class h ≡ 1 → is_float h.class_bit_field h.size f.bit_precision w ≡ true → FloatNumber w h f
  unfolding is_float
  float_number f w c e =
      let a = and_right (eqb f.bit_precision (8 * w)) _ e in
      let b = and_right (eqb h.size w) _ a in
      let d = and_right (not (bit h.class_bit_field 6)) _ b in
      let n = eqb-false (bits h.class_bit_field 6 1) 1 (not-true (bit h.class_bit_field 6) (and_left (not (bit h.class_bit_field 6)) _ b)) in
      record {
        of_class = c;
        size = eqb-true h.size w (and_left (eqb h.size w) _ a);
        bit_precision = eqb-true f.bit_precision (8 * w) (and_left (eqb f.bit_precision (8 * w)) _ e);
        byte_order = omega arith;
        mantissa_normalization = eqb-true (bits h.class_bit_field 4 2) 2 (and_left (eqb (bits h.class_bit_field 4 2) 2) _ d);
        sign_location = eqb-true (bits h.class_bit_field 8 8) (8 * w - 1) (and_right (eqb (bits h.class_bit_field 4 2) 2) _ d);
      }

  float_is_lem : (f : FloatingPoint) (form : NumberForm) → class h ≡ 1 → (f ≡ single) ⊎ (f ≡ double) → float_form h.class_bit_field h.size f.bit_precision ≡ Some form
      → FormIs form (datatype h (floating_point f))
  unfolding float_form
  float_is_lem f form c k e = go (is_float h.class_bit_field h.size f.bit_precision 4) refl (is_float h.class_bit_field h.size f.bit_precision 8) refl e
    where
      one : FloatNumber 4 h f → (f ≡ single) ⊎ (f ≡ double) → f ≡ single
      one w (inl d) = d
      one w (inr d) = let z : ◌≡◌ {A = ℕ} 64 32 = sym (ap (λ (g : FloatingPoint). g.bit_precision) d) ∙ w.bit_precision in absurd (omega arith)

      two : FloatNumber 8 h f → (f ≡ single) ⊎ (f ≡ double) → f ≡ double
      two w (inl d) = let z : ◌≡◌ {A = ℕ} 32 64 = sym (ap (λ (g : FloatingPoint). g.bit_precision) d) ∙ w.bit_precision in absurd (omega arith)
      two w (inr d) = d

      go : (t : Bool) → is_float h.class_bit_field h.size f.bit_precision 4 ≡ t → (u : Bool) → is_float h.class_bit_field h.size f.bit_precision 8 ≡ u
          → pick t (Some forms.Single) (pick u (Some forms.Double) None) ≡ Some form → FormIs form (datatype h (floating_point f))
      go true t u v e = let i : forms.Single ≡ form = cc in let w = float_number f 4 c t in rw (← i) (is_single w (one w k))
      go false t true v e = let i : forms.Double ≡ form = cc in let w = float_number f 8 c v in rw (← i) (is_double w (two w k))
      go false t false v e = no_form e

-- a variable-length type is of another class
list_none : (class bits size : ℕ) (F : Option DataFormat) → class ≡ 9 → form_of class bits size F ≡ None
list_none class bits size None e = refl
list_none class bits size (Some (formats.Fixed o p)) e = rw e
list_none class bits size (Some (formats.Float f)) e = rw e

form_is : (h : DatatypeHeader) (p : Properties) (form : NumberForm) → OfClass (class h) p → their_form (datatype h p) ≡ Some form → FormIs form (datatype h p)
form_is h (fixed_point f) form c e = fixed_is h f form c (rw c at e)
form_is h (floating_point f) form c e = float_is_lem h f form c.0 c.1 (rw c.0 at e)
form_is h no_properties form c e = no_form e
form_is h (members m) form c e = no_form e
form_is h (parent_type t) form c e = no_form (sym (list_none (class h) h.class_bit_field h.size (format_of t) c) ∙ e)

-- A datatype that is read has a number only where the standard's message has one,
pub form_said : (t : DataType) (x : Datatype) (form : NumberForm) → SameHeader t (header_of x) → t.data_fmt ≡ format_of x → OfClass (class (header_of x)) (properties_of x) → number_form t ≡ Some form
    → FormIs form x
form_said t (datatype h p) form i f c e = form_is h p form c (sym (their_form_lem t (datatype h p) i f) ∙ e)

whole_fits : (size : ℕ) → (size ≡ 1) ⊎ ((size ≡ 2) ⊎ ((size ≡ 4) ⊎ (size ≡ 8))) → whole_size size ≡ true
unfolding whole_size
whole_fits size (inl e) = rw e
whole_fits size (inr (inl e)) = rw e
whole_fits size (inr (inr (inl e))) = rw e
whole_fits size (inr (inr (inr e))) = rw e

not_vax : (h : DatatypeHeader) → bits h.class_bit_field 6 1 ≡ 0 → bit h.class_bit_field 6 ≡ false
not_vax h e = rw e

abbrev Formed : Datatype → Type 0
Formed x = (form : NumberForm) × (their_form x ≡ Some form)

has_form : (x : Datatype) → HasNumber x → Formed x
unfolding fixed_form float_form is_float
has_form (datatype h (fixed_point f)) w =
    (pick (is_signed h.class_bit_field) forms.Signed forms.Unsigned, rw (w.of_class, whole_fits h.size w.size, w.bit_offset, w.bit_precision, eq-eqb (8 * h.size) (8 * h.size) refl))
has_form (datatype h (floating_point f)) (inl w) = (forms.Single, rw (w.of_class, w.bit_precision, w.size, not_vax h w.byte_order, w.mantissa_normalization, w.sign_location))
has_form (datatype h (floating_point f)) (inr w) = (forms.Double, rw (w.of_class, w.bit_precision, w.size, not_vax h w.byte_order, w.mantissa_normalization, w.sign_location))
has_form (datatype h no_properties) w = absurd w
has_form (datatype h (members m)) w = absurd w
has_form (datatype h (parent_type t)) w = absurd w

-- and everywhere there.
pub number_formed : (t : DataType) (x : Datatype) → SameHeader t (header_of x) → t.data_fmt ≡ format_of x → HasNumber x → (form : NumberForm) × (number_form t ≡ Some form)
number_formed t x i f w = let g = has_form x w in (g.0, their_form_lem t x i f ∙ g.1)

-- properties that have a number are those of their class, where a float is one that is read
pub has_class : (x : Datatype) → HasNumber x → ReadFloat (properties_of x) → OfClass (class (header_of x)) (properties_of x)
has_class (datatype h (fixed_point f)) w r = w.of_class
has_class (datatype h (floating_point f)) (inl w) r = (w.of_class, r)
has_class (datatype h (floating_point f)) (inr w) r = (w.of_class, r)
has_class (datatype h no_properties) w r = absurd w
has_class (datatype h (members m)) w r = absurd w
has_class (datatype h (parent_type t)) w r = absurd w

-- a form that has a number is of class 0 or 1
pub number_class : (t : Datatype) → HasNumber t → class (header_of t) ≤ 1
number_class (datatype h (fixed_point f)) w = omega (arith, w.of_class)
number_class (datatype h (floating_point f)) (inl w) = omega (arith, w.of_class)
number_class (datatype h (floating_point f)) (inr w) = omega (arith, w.of_class)
number_class (datatype h no_properties) w = absurd w
number_class (datatype h (members m)) w = absurd w
number_class (datatype h (parent_type t)) w = absurd w

-- its size is below 64
pub has_small : (x : Datatype) → HasNumber x → (header_of x).size < 64
has_small (datatype h (fixed_point f)) w = let l = small_size (whole_fits h.size w.size) in omega arith
has_small (datatype h (floating_point f)) (inl w) = omega (arith, w.size)
has_small (datatype h (floating_point f)) (inr w) = omega (arith, w.size)
has_small (datatype h no_properties) w = absurd w
has_small (datatype h (members m)) w = absurd w
has_small (datatype h (parent_type t)) w = absurd w

-- all bits of an element
all_bits : (v k n : ℕ) → k ≡ 0 → v < 2 ^ n → bits v k n ≡ v
all_bits v k n e h = let d : v / 1 ≡ v = omega arith in rw (e, d) (mod-eq_of_lt h)

-- An element's sign, exponent and mantissa, and the float that they are: where they stand in a single and in a double.
abbrev sign_at : Ieee.Format → ℕ
sign_at binary32 = 31
sign_at binary64 = 63

abbrev properties_in : Ieee.Format → FloatingPoint
properties_in binary32 = single
properties_in binary64 = double

same_bias : (f : Ieee.Format) → (properties_in f).exponent_bias ≡ emax f
same_bias binary32 = refl
same_bias binary64 = refl

-- a number below twice t is t or more where its bit is set
top_bit : (t b : ℕ) → (t ≤ b → b / t % 2 ≡ 1) → (b < t → b / t % 2 ≡ 0) → leb t b ≡ eqb (b / t % 2) 1
top_bit t b f g = by_le t b (λ l. rw (le-leb t b l, f l)) (λ l. rw (lt-leb t b l, g l))

float_fields : (f : Ieee.Format) (b : ℕ) → b < 2 * top f → of_bits f b ≡ of_fields f (eqb (bits b (sign_at f) 1) 1) (exponent (properties_in f) b) (mantissa (properties_in f) b)
unfolding of_bits
float_fields binary32 b h =
    let s = top_bit 2147483648 b (λ l. omega arith) (λ l. omega arith) in
    let x : b % 2147483648 / 8388608 ≡ b / 8388608 % 256 = omega arith in
    let m : b % 8388608 ≡ b / 1 % 8388608 = omega arith in
    rw (s, x, m)
float_fields binary64 b h =
    let s = top_bit 9223372036854775808 b (λ l. omega arith) (λ l. omega arith) in
    let x : b % 9223372036854775808 / 4503599627370496 ≡ b / 4503599627370496 % 2048 = omega arith in
    let m : b % 4503599627370496 ≡ b / 1 % 4503599627370496 = omega arith in
    rw (s, x, m)

wide : (size w v : ℕ) → size ≡ w → v < 2 ^ (8 * size) → v < 2 ^ (8 * w)
wide size w v e h = rw e at h

-- the number of a form is what the tables say of the element
module _ (s : List ℕ) (b : AreBytes s) where
  element_below : (h : DatatypeHeader) (p : ℕ) → element_bits s h p < 2 ^ (8 * h.size)
  element_below h p = stored_below s b h.class_bit_field p h.size

  whole_bits : (h : DatatypeHeader) (f : FixedPoint) (p : ℕ) → WholeNumber h f → bits (element_bits s h p) f.bit_offset f.bit_precision ≡ element_bits s h p
  whole_bits h f p w = rw w.bit_precision (all_bits (element_bits s h p) f.bit_offset (8 * h.size) w.bit_offset (element_below h p))

  some_bytes : (h : DatatypeHeader) (f : FixedPoint) → WholeNumber h f → 1 ≤ h.size
  some_bytes h f w = some_size (whole_fits h.size w.size)

  float_same : (format : Ieee.Format) (h : DatatypeHeader) (f : FloatingPoint) (e : ℕ) (n : Number) → number_bits n ≡ e → e < 2 * top format → IsFloat n (of_bits format e)
      → bits h.class_bit_field 8 8 ≡ sign_at format → f ≡ properties_in format → SameFloat format h f e n
  float_same format h f e n d l v a i =
      record {
        stored_bits = d;
        value = rw (a, i, ← float_fields format e l) v;
        exponent_bias = rw i (same_bias format);
      }

  pub number_same : (form : NumberForm) (x : Datatype) (p : ℕ) → FormIs form x → SameNumber s x p (number_of form (header_of x).size (element_bits s (header_of x) p))
  number_same form x p (is_unsigned {h = h} {f = f} w e) = unsigned {v = element_bits s h p} e (rw (e, whole_bits h f p w))
  number_same form x p (is_signed_lem {h = h} {f = f} w e) =
      signed {z = signed_of (2 ^ (8 * h.size - 1)) (element_bits s h p)} e (rw (e, whole_bits h f p w, w.bit_precision, ← twice_half h.size (some_bytes h f w)))
  number_same form x p (is_single {h = h} {f = f} w e) =
      let v = element_bits s h p in
      let b = element_below h p in
      inl (w.size, number_case_lem forms.Single h.size v, float_same binary32 h f v _ (number_bits_lem forms.Single h.size v w.size b) (wide h.size 4 v w.size b) (single_value v) w.sign_location e)
  number_same form x p (is_double {h = h} {f = f} w e) =
      let v = element_bits s h p in
      let b = element_below h p in
      inr (w.size, number_case_lem forms.Double h.size v, float_same binary64 h f v _ (number_bits_lem forms.Double h.size v w.size b) (wide h.size 8 v w.size b) (double_value v) w.sign_location e)
