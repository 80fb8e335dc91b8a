-- What the proofs of the readers cite. Assumes nothing.
use Rattle.std.specs.Prelude.{ℕ, ◌≡◌, Bool, true, false, IsTrue, IsFalse, refl, not, eqb, List, Result, Ok, Some, None}
use Rattle.std.specs.Bool.{then_some}
use Rattle.std.proofs.Common.{sym, ap, ◌∙◌}
use Rattle.records.specs.declared.Refusal.{Refusal}
use Rattle.helpers.specs.Answers.{out}
use Rattle.format.specs.Format.{Format, done, pick, read}
use Rattle.format.specs.Steps.{read_done}
use Rattle.std.specs.Int.Bits.{bit_and}
use Rattle.format.specs.Bits.{bit, bit_test}

-- the two flags, as the code's masks test them
pub flag_0 : (flags : ℕ) → bit flags 0 ≡ not (eqb (bit_and flags 1) 0)
flag_0 flags = sym (bit_test flags 0)

pub flag_1 : (flags : ℕ) → bit flags 1 ≡ not (eqb (bit_and flags 2) 0)
flag_1 flags = sym (bit_test flags 1)

-- an optional field is read where it is present, and else counts as a given value
module _ {A : Type 0} (s : List ℕ) (p : ℕ) (F : Format A) (a : A) (r : Result (A × ℕ) Refusal) where
  pub optional : (t : Bool) → (IsTrue t → out r ≡ read s F p) → (IsFalse t → r ≡ Ok (a, p)) → read s (pick t F (done a)) p ≡ out r
  optional true given none = sym (given refl)
  optional false given none = read_done s a p ∙ sym (ap out (none refl))

pub present_only : {A : Type 0} (t : Bool) (a : A) → pick t (Some a) None ≡ then_some t a
present_only true a = refl
present_only false a = refl
