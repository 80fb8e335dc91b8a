-- An attribute stands without a value only where its type, space and value have no reading. Assumes nothing.
use Rattle.std.specs.Prelude.{ℕ, ◌≡◌, refl, ◌⊎◌, ◌↔◌, List}
use Rattle.std.proofs.Common.{ap, sym, inl, inr}
use Rattle.format.specs.Format.{Stands}
use Rattle.records.specs.declared.Part.{Part}
use Rattle.records.specs.declared.Value.{Value}
use Rattle.records.specs.declared.Value.TheVariants as values
use Rattle.records.specs.declared.Attribute.{Attribute}
use Rattle.parser.specs.declared.State.{State}
use Rattle.ohdr_attribute.specs.Attributes.{type_space_value, name_and_value}

-- an attribute's type, space and value stand from p to q, and its value is theirs
pub record With (file : List ℕ) (version : ℕ) (s : State) (p q : ℕ) (a : Attribute) : Type 0 where
  pub stands : Stands file (type_space_value version s) p q a.value

-- they stand nowhere from p on, and the attribute ends where they would begin, without a value
pub record Without (file : List ℕ) (version : ℕ) (s : State) (p q : ℕ) (a : Attribute) : Type 0 where
  pub nowhere : (m : ℕ) (value : Value) → Stands file (type_space_value version s) p m value → ⊥
  pub empty : q ≡ p
  pub absent : a.value ≡ values.None

-- An attribute with this name stands exactly where one of the two is so.
pub with_or_without : (file : List ℕ) (version : ℕ) (s : State) (name : Part) (p q : ℕ) (a : Attribute)
    → Stands file (name_and_value version s name) p q a ↔ ((a.name ≡ name) × (With file version s p q a ⊎ Without file version s p q a))
unfolding name_and_value
with_or_without file version s name p q a = (split, λ w. join w.0 w.1)
  where
    split : Stands file (name_and_value version s name) p q a → (a.name ≡ name) × (With file version s p q a ⊎ Without file version s p q a)
    split (inl w) =
        let e : w.1 ≡ a.value = ap (λ (r : Attribute). r.value) w.3.1 in
        (ap (λ (r : Attribute). r.name) (sym w.3.1), inl (record { stands = rw (← e, ← w.3.0) w.2 }))
    split (inr w) =
        (ap (λ (r : Attribute). r.name) (sym w.1.1), inr (record { nowhere = w.0; empty = sym w.1.0; absent = ap (λ (r : Attribute). r.value) (sym w.1.1) }))

    join : a.name ≡ name → With file version s p q a ⊎ Without file version s p q a → Stands file (name_and_value version s name) p q a
    join e (inl w) = inl (q, a.value, w.stands, (refl, λ i. record { name = sym e i; value = a.value }))
    join e (inr w) = inr (w.nowhere, (sym w.empty, λ i. record { name = sym e i; value = sym w.absent i }))
