-- What the proofs of the datatype readers cite of classes and levels. Assumes nothing.
use Rattle.std.specs.Prelude.{ℕ, suc, ◌-◌, ◌%◌, ◌≡◌, false, eqb}
use Rattle.std.proofs.Common.{ap, sym, ◌∙◌, arith, ne_eqb}
use Rattle.std.specs.Int.Bits.{bit_and}
use Rattle.std.proofs.lemmas.Nat.{and_mask}
use Rattle.format.specs.Format.{refuse}
use Rattle.ohdr_datatype.specs.DataTypes.{data_type, type_layer}

-- a class is the low four bits
pub class_is : (cv : ℕ) {k : ℕ} → bit_and cv 15 ≡ k → cv % 16 ≡ k
class_is cv e = sym (and_mask cv 4) ∙ e

pub class_not : (cv k : ℕ) → (bit_and cv 15 ≡ k → ⊥) → eqb (cv % 16) k ≡ false
class_not cv k e = ne_eqb (cv % 16) k (λ d. e (and_mask cv 4 ∙ d))

-- the count of members is the low two bytes
pub low_two_bytes : (n : ℕ) → n % 65536 ≡ bit_and n 65535
low_two_bytes n = sym (and_mask n 16)

-- no level left, and one level
pub type_none : {n : ℕ} → n ≡ 0 → data_type n ≡ refuse 22
unfolding data_type
type_none e = rw e

pub type_more : {n : ℕ} → (n ≡ 0 → ⊥) → data_type n ≡ type_layer (data_type (n - 1))
unfolding data_type
type_more {n} h = let e : n ≡ suc (n - 1) = omega arith in ap data_type e
