-- An attribute whose name is the standard's is accepted, with its value or without. Assumes nothing.
use Rattle.std.specs.Prelude.{ℕ, ◌+◌, ◌≤◌, ◌≡◌, List}
use Rattle.std.proofs.Math.Path.{refl}
use Rattle.std.proofs.Math.Logic.{inl, inr}
use native.Mathlib.Omega.{arith}
use Rattle.std.proofs.Math.ListN.{length}
use Rattle.format.specs.Bytes.{text_length}
use Rattle.format.specs.BytesLaws.{trimmed_found}
use Rattle.format.specs.Format.{done, attempt, Stands, Out, found, refused, read}
use Rattle.format.specs.Laws.{sound, none}
use Rattle.format.specs.Standing.{bind_stands}
use Rattle.records.specs.declared.Part.{Part}
use Rattle.records.specs.declared.Value.{Value}
use Rattle.records.specs.declared.Attribute.{Attribute}
use Rattle.parser.specs.declared.State.{State}
use Rattle.ohdr_attribute.specs.Attributes.{padding, type_space_value, valueless, name_and_value, attribute_fields, attribute}
use Rattle.standard_attribute.specs.Same.{SameName}
use Rattle.standard_attribute.proofs.Ties.{same_name}

module _ (s : List ℕ) (state : State) where
  -- an attribute of this name, with what is read of type, space and value, or without
  value_or_none : (version : ℕ) (name : Part) (p e : ℕ) → p ≤ e → ((q : ℕ) (v : Value) → Stands s (type_space_value version state) p q v → q ≤ e)
      → (c : ℕ) × (a : Attribute) × (c ≤ e) × (a.name ≡ name) × Stands s (name_and_value version state name) p c a
  unfolding name_and_value
  value_or_none version name p e l f = go (read s (type_space_value version state) p) refl
    where
      go : (o : Out Value) → read s (type_space_value version state) p ≡ o → (c : ℕ) × (a : Attribute) × (c ≤ e) × (a.name ≡ name) × Stands s (attempt (type_space_value version state) (λ value. done {A = Attribute} (record { name = name; value = value })) (done (valueless name))) p c a
      go (found v c) d = let h = sound s (type_space_value version state) p c v d in (c, record { name = name; value = v }, f c v h, refl, inl (c, v, h, (refl, refl)))
      go (refused n) d = (p, valueless name, l, refl, inr (none s (type_space_value version state) p n d, (refl, refl)))

  -- from p to a place up to e, with the name of n bytes behind the fields
  pub record AcceptedByName (p m n e : ℕ) : Type 0 where
    pub c : ℕ
    pub value : Attribute
    pub within : c ≤ e
    pub stands : Stands s (attribute state) p c value
    pub name : SameName s value.name (record { position = m; length = n })

  pub attribute_accepted : (version n p m e : ℕ) → Stands s attribute_fields p m (record { version = version; name_size = n }) → m + n + padding version n ≤ e → e ≤ length s
      → ((q : ℕ) (v : Value) → Stands s (type_space_value version state) (m + n + padding version n) q v → q ≤ e) → AcceptedByName p m n e
  unfolding attribute
  attribute_accepted version n p m e h l r f =
      let t = trimmed_found s m n (omega arith) in
      let y = value_or_none version (record { position = m; length = text_length s m n }) (m + n + padding version n) e l f in
      record {
        c = y.0;
        value = y.1;
        within = y.2;
        stands = bind_stands s attribute_fields _ p m y.0 (record { version = version; name_size = n }) y.1 h (text_length s m n, t, (omega arith, y.4));
        name = same_name s m n (text_length s m n) y.1.name t y.3;
      }
