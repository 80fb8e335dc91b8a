-- What the tables of the specification are written with. Assumes nothing: these are definitions.
use Rattle.std.specs.Prelude.{ℕ, zero, suc, Bool, List, [], ◌∷◌, eqb}
use Rattle.format.specs.Bytes.{all_ones}
use Rattle.format.specs.Format.{Format, done, number, bytes, here, bind, check, pick}

-- a field that may be missing
pub data Optional (A : Type 0) : Type 0 where
  absent : Optional A
  present : A → Optional A

-- V, Undefined Address: a file address with all bits set
pub data Address : Type 0 where
  undefined : Address
  defined : ℕ → Address

-- bytes of the file: where they stand, and how many they are
pub record Bytes : Type 0 where
  pub position : ℕ
  pub length : ℕ

-- a table that is for one version, one class, or one value of a field; the specification has no numbers of refusals
abbrev pub only : {A : Type 0} → Bool → Format A → Format A
only test F = check test 0 F

-- a number of w bytes, where it is present
unfoldable pub optional : Bool → ℕ → Format (Optional ℕ)
optional test w = pick test (number w (λ n. done (present n))) (done absent)

-- an address, which has the size of offsets
abbrev pub address_of : ℕ → ℕ → Address
address_of size_of_offsets n = pick (eqb n (all_ones size_of_offsets)) undefined (defined n)

unfoldable pub address : ℕ → Format Address
address size_of_offsets = number size_of_offsets (λ n. done (address_of size_of_offsets n))

-- the same, where it is present
unfoldable pub optional_address : Bool → ℕ → Format (Optional Address)
optional_address test size_of_offsets = pick test (bind (address size_of_offsets) (λ a. done (present a))) (done absent)

-- n bytes as they are
unfoldable pub raw : ℕ → Format Bytes
raw n = here (λ p. bytes n (done {A = Bytes} (record { position = p; length = n })))

-- n of a kind, one after the other
unfoldable pub many : {A : Type 0} → ℕ → Format A → Format (List A)
many zero F = done []
many (suc n) F = bind F (λ a. bind (many n F) (λ more. done (a ∷ more)))
