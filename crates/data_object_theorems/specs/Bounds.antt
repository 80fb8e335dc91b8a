-- Each dataspace in a reading, an attribute's included, has at most four sizes, each at most 1,000,000: its format asks for it. Assumes nothing.
use Rattle.std.specs.Prelude.{ℕ, ◌+◌, ◌-◌, ◌≡◌, ◌⊎◌, List}
use Rattle.std.proofs.Common.{sym, arith}
use Rattle.std.proofs.Math.Logic.{inl, inr}
use Rattle.format.specs.Format.{done, Stands}
use Rattle.format.specs.Standing.{stands_bind}
use Rattle.records.specs.declared.DataSpace.{DataSpace}
use Rattle.records.specs.declared.DataType.{DataType}
use Rattle.records.specs.declared.Value.{Value}
use Rattle.records.specs.declared.Attribute.{Attribute}
use Rattle.parser.specs.declared.State.{State}
use Rattle.grammar.specs.Message.{Kept}
use Rattle.grammar.specs.Message as messages
use Rattle.grammar.specs.Grammar.{Item}
use Rattle.grammar.specs.Table.{messages_of}
use Rattle.grammar.specs.Each.{All, reading_each}
use Rattle.ohdr_dataspace.specs.DataSpaces.{data_space}
use Rattle.ohdr_dataspace.specs.Bounds.{Bounded, bounded}
use Rattle.ohdr_attribute.specs.declared.AttributeFields.{AttributeFields}
use Rattle.ohdr_attribute.specs.Attributes.{attribute_fields, padding, attribute, space_value, type_space_value}
use Rattle.ohdr_attribute.specs.Without.{With, Without, with_or_without}
use Rattle.ohdr_datatype.specs.DataTypes.{data_type, type_levels}
use Rattle.ohdr_entry.specs.Entries.{body, plain_body, attribute_body}
use Rattle.ohdr_entry.specs.Entered.{bodied}
use Rattle.ohdr_walk.specs.Sources.{source}
use Rattle.data_object_header.specs.Headers.{HeaderReading}
use Rattle.data_object_winners.specs.WinnerLaws.{typed}

module _ (file : List ℕ) (s : State) where
  -- an attribute's type stands at p, and after its padding a bounded dataspace
  pub record Spaced (version p : ℕ) : Type 0 where
    pub datatype : DataType
    pub upto : ℕ
    pub type_stands : Stands file (data_type type_levels) p upto datatype
    pub dataspace : DataSpace
    pub end : ℕ
    pub space_stands : Stands file (data_space s) (upto + padding version (upto - p)) end dataspace
    pub space_bounded : Bounded dataspace

  -- an attribute at b: after its fields, its name and the padding, its dataspace is bounded, or type, space and value have no reading
  pub record AttributeBounded (b : ℕ) (a : Attribute) : Type 0 where
    pub fields : AttributeFields
    pub from : ℕ
    pub fields_stand : Stands file attribute_fields b from fields
    pub end : ℕ
    pub space : Spaced fields.version (from + fields.name_size + padding fields.version fields.name_size)
        ⊎ Without file fields.version s (from + fields.name_size + padding fields.version fields.name_size) end a

  -- of what is kept of a message with its body at b, every dataspace is bounded
  abbrev pub BoundedKept : ℕ → Kept → Type 0
  BoundedKept b messages.nothing = Unit {0}
  BoundedKept b (messages.data_space d) = Bounded d
  BoundedKept b (messages.link_info l) = Unit {0}
  BoundedKept b (messages.data_type t) = Unit {0}
  BoundedKept b (messages.data_layout d) = Unit {0}
  BoundedKept b (messages.group_info g) = Unit {0}
  BoundedKept b (messages.attribute a) = AttributeBounded b a
  BoundedKept b (messages.attribute_info a) = Unit {0}

  -- the dataspace of a dataspace message
  kept_space : (p q : ℕ) (d : DataSpace) → Stands file (body s 1) p q (messages.data_space d) → Bounded d
  unfolding body plain_body
  kept_space p q d h =
      let w = stands_bind file (data_space s) (λ x. done (messages.data_space x)) p q (messages.data_space d) h in
      let e : w.1 ≡ d = cc w.3.1 in
      rw (← e) (bounded file s p w.0 w.1 w.2)

  -- the dataspace of an attribute whose type, space and value stand
  spaced : (version p q : ℕ) (v : Value) → Stands file (type_space_value version s) p q v → Spaced version p
  unfolding type_space_value space_value
  spaced version p q v h =
      let w = stands_bind file (data_type type_levels) _ p q v h in
      let u = stands_bind file (data_space s) _ _ q v w.3.1 in
      record {
        datatype = w.1;
        upto = w.0;
        type_stands = w.2;
        dataspace = u.1;
        end = u.0;
        space_stands = u.2;
        space_bounded = bounded file s _ u.0 u.1 u.2;
      }

  attribute_bounded : (b q : ℕ) (a : Attribute) → Stands file (attribute s) b q a → AttributeBounded b a
  unfolding attribute
  attribute_bounded b q a h =
      let w = stands_bind file attribute_fields _ b q a h in
      let v = (with_or_without file w.1.version s _ _ q a).0 w.3.2.1 in
      record { fields = w.1; from = w.0; fields_stand = w.2; end = q; space = go w.1.version _ v.1 }
    where
      go : (version p : ℕ) → With file version s p q a ⊎ Without file version s p q a → Spaced version p ⊎ Without file version s p q a
      go version p (inl x) = inl (spaced version p q a.value x.stands)
      go version p (inr x) = inr x

  kept_attribute : (p q : ℕ) (a : Attribute) → Stands file (body s 12) p q (messages.attribute a) → AttributeBounded p a
  unfolding body plain_body attribute_body
  kept_attribute p q a h =
      let w = stands_bind file (attribute s) (λ x. done (messages.attribute x)) p q (messages.attribute a) h in
      let e : w.1 ≡ a = cc w.3.1 in
      rw (← e) (attribute_bounded p w.0 w.1 w.2)

  bounded_kept : (type p q : ℕ) (k : Kept) → Stands file (body s type) p q k → BoundedKept p k
  bounded_kept type p q messages.nothing h = tt
  bounded_kept type p q (messages.data_space d) h = go (typed file s type p q (messages.data_space d) h)
    where
      go : (◌≡◌ {A = ℕ} 1 0) ⊎ (1 ≡ type) → Bounded d
      go (inl z) = absurd (omega arith)
      go (inr e) = kept_space p q d (rw (sym e) at h)
  bounded_kept type p q (messages.link_info l) h = tt
  bounded_kept type p q (messages.data_type t) h = tt
  bounded_kept type p q (messages.data_layout d) h = tt
  bounded_kept type p q (messages.group_info g) h = tt
  bounded_kept type p q (messages.attribute a) h = go (typed file s type p q (messages.attribute a) h)
    where
      go : (◌≡◌ {A = ℕ} 12 0) ⊎ (12 ≡ type) → AttributeBounded p a
      go (inl z) = absurd (omega arith)
      go (inr e) = kept_attribute p q a (rw (sym e) at h)
  bounded_kept type p q (messages.attribute_info a) h = tt

  pub reading_bounded : {at next : ℕ} {xs : List Item} → HeaderReading file s at next xs → All (λ m. BoundedKept m.body m.kept) (messages_of xs)
  reading_bounded h = reading_each (source file s h.fields.flags) (λ m. BoundedKept m.body m.kept) (λ p q m e. let b = bodied file s h.fields.flags p q m e in bounded_kept m.type m.body b.upto m.kept b.stands) h.rest
