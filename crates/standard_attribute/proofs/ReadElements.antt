-- A datatype message of the standard that is a string or a number, of a size below 64, is read, over the same bytes and with the same fields.
-- Assumes nothing.
use Prim.Native.Nat.{ℕ, zero, suc, ◌<◌}
use Rattle.std.specs.Prelude.{◌≡◌, refl, true, ◌||◌, List}
use Rattle.std.proofs.Common.{ap, inl, inr}
use Rattle.std.proofs.Math.Dec.{eqb}
use Rattle.format.specs.Format.{Format, done, Stands}
use Rattle.format.specs.Standing.{stands_bind, stands_check}
use Rattle.records.specs.declared.DataType.{DataType}
use Rattle.ohdr_datatype.specs.DataTypes.{known_class, plain, type_layer, data_type}
use Rattle.ohdr_datatype.specs.DataTypes as ours
use Rattle.standard_datatype.specs.ReadTypes.{ReadFloat}
use Rattle.standard_datatype.specs.Same.{format_of, format_in, properties_of, type_of}
use Rattle.standard_datatype.proofs.TypeReads.{our_header, header_read, layer_read, fixed_read, float_read}
use Rattle.standard.specs.Datatypes.{DatatypeHeader, datatype_header, class, version, Datatype, datatype, header_of, Properties, fixed_point, floating_point, no_properties, members, parent_type, properties, datatype_of, datatype_message}
use Rattle.standard_attribute.specs.SameNumbers.{HasNumber}
use Rattle.standard_attribute.proofs.NumberForms.{has_small}

module _ (s : List ℕ) (longest : ℕ) where
  -- the properties are read, whatever the types inside: a string or a number has none
  abbrev PropertiesRead : DatatypeHeader → Properties → Type 1
  PropertiesRead h x = (T : Format Datatype) (U : Format DataType) (p q : ℕ) → Stands s (properties longest T h) p q x → Stands s (ours.properties (our_header h) U) p q (format_in x)

  -- the record of such a message
  abbrev pub element_type : Datatype → DataType
  element_type x = type_of (our_header (header_of x)) (format_of x)

  layer : (T : Format Datatype) (U : Format DataType) (p m n q : ℕ) (g h : DatatypeHeader) (x y : Properties) → g ≡ h → x ≡ y → n ≡ q → Stands s datatype_header p m g
      → (eqb (version g) 1 || eqb (version g) 3) ≡ true → Stands s (properties longest T g) m n x → known_class (class h) ≡ true → h.size < 64 → PropertiesRead h y
      → Stands s (type_layer U) p q (type_of (our_header h) (format_in y))
  layer T U p m n q g h x y e f d i v j k l r =
      layer_read s U p m q (our_header h) (format_in y) (header_read s p m h (rw e at i) (rw e at v) k l) (r T U m q (rw (e, f, d) at j))

  element_read : (levels more p q : ℕ) (x : Datatype) → Stands s (datatype_message longest levels) p q x → known_class (class (header_of x)) ≡ true → (header_of x).size < 64
      → PropertiesRead (header_of x) (properties_of x) → Stands s (data_type (suc more)) p q (element_type x)
  unfolding datatype_message datatype_of data_type
  element_read zero more p q x h k l r = absurd h
  element_read (suc levels) more p q (datatype g y) h k l r =
      let T = datatype_message longest levels in
      let a = stands_bind s datatype_header _ p q (datatype g y) h in
      let b = stands_check s (eqb (version a.1) 1 || eqb (version a.1) 3) 0 _ a.0 q (datatype g y) a.3 in
      let d = stands_bind s (properties longest T a.1) (λ y. done (datatype a.1 y)) a.0 q (datatype g y) b.1 in
      layer T (data_type more) p a.0 d.0 q a.1 g d.1 y (ap header_of d.3.1) (ap properties_of d.3.1) d.3.0 a.2 b.0 d.2 k l r

  -- strings
  string_properties : (h : DatatypeHeader) (x : Properties) → class h ≡ 3 → PropertiesRead h x
  unfolding properties ours.properties plain
  string_properties h x c T U p q i = let j = rw c at i in rw (c, ← j.1) (j.0, refl)

  string_known : (h : DatatypeHeader) → class h ≡ 3 → known_class (class h) ≡ true
  unfolding known_class
  string_known h c = rw c

  pub string_read : (levels more p q : ℕ) (x : Datatype) → Stands s (datatype_message longest levels) p q x → class (header_of x) ≡ 3 → (header_of x).size < 64 → Stands s (data_type (suc more)) p q (element_type x)
  string_read levels more p q x h c l = element_read levels more p q x h (string_known (header_of x) c) l (string_properties (header_of x) (properties_of x) c)

  -- numbers
  number_known : (x : Datatype) → HasNumber x → known_class (class (header_of x)) ≡ true
  unfolding known_class
  number_known (datatype h (fixed_point f)) w = rw w.of_class
  number_known (datatype h (floating_point f)) (inl w) = rw w.of_class
  number_known (datatype h (floating_point f)) (inr w) = rw w.of_class
  number_known (datatype h no_properties) w = absurd w
  number_known (datatype h (members m)) w = absurd w
  number_known (datatype h (parent_type t)) w = absurd w

  fixed_properties : (h : DatatypeHeader) (x : Properties) → class h ≡ 0 → PropertiesRead h x
  unfolding properties ours.properties
  fixed_properties h x c T U p q i = rw c (fixed_read s longest p q x (rw c at i))

  float_properties : (h : DatatypeHeader) (x : Properties) → class h ≡ 1 → ReadFloat x → PropertiesRead h x
  unfolding properties ours.properties
  float_properties h x c r T U p q i = rw c (float_read s longest p q x (rw c at i) r)

  number_properties : (x : Datatype) → HasNumber x → ReadFloat (properties_of x) → PropertiesRead (header_of x) (properties_of x)
  number_properties (datatype h (fixed_point f)) w r = fixed_properties h (fixed_point f) w.of_class
  number_properties (datatype h (floating_point f)) (inl w) r = float_properties h (floating_point f) w.of_class r
  number_properties (datatype h (floating_point f)) (inr w) r = float_properties h (floating_point f) w.of_class r
  number_properties (datatype h no_properties) w r = absurd w
  number_properties (datatype h (members m)) w r = absurd w
  number_properties (datatype h (parent_type t)) w r = absurd w

  pub number_read : (levels more p q : ℕ) (x : Datatype) → Stands s (datatype_message longest levels) p q x → HasNumber x → ReadFloat (properties_of x) → Stands s (data_type (suc more)) p q (element_type x)
  number_read levels more p q x h w r = element_read levels more p q x h (number_known x w) (has_small x w) (number_properties x w r)
