-- An address is the specification's: undefined where that is, and the same number elsewhere. Assumes nothing.
use Rattle.std.specs.Prelude.{ℕ, ◌+◌, ◌<◌, ◌≡◌, refl, Bool, true, false, List, get_or, eqb, Some}
use Rattle.std.proofs.Common.{ap, arith, eq-eqb, eqb-true}
use Rattle.format.specs.Bytes.{AreBytes, le, all_ones}
use Rattle.format.specs.BytesLaws.{bytes_all_ones, all_ones_bytes}
use Rattle.format.specs.Format.{bind, pick, done}
use Rattle.records.specs.declared.Address.TheVariants as addresses
use Rattle.helpers.specs.Addresses.{address, address_of, defined, defined_address}
use Rattle.ohdr_info.specs.Info.{cond_address}
use Rattle.standard.specs.Fields as standard
use Rattle.standard.specs.Tie.{Tied, tied_done, tied_number, tied_refuse}
use Rattle.standard_messages.specs.Same.{address_in, SameAddress}

pub address_of_lem : (w n : ℕ) → address_of w n ≡ address_in (standard.address_of w n)
address_of_lem w n = go (eqb n (all_ones w))
  where
    go : (t : Bool) → pick t addresses.Undefined (addresses.Number n) ≡ address_in (pick t standard.undefined (standard.defined n))
    go true = refl
    go false = refl

-- An address of a file is undefined where each of its bytes is 255, all bits set, and nowhere else.
module _ (file : List ℕ) (p w : ℕ) where
  pub undefined_bits : ((i : ℕ) → i < w → get_or file (p + i) 0 ≡ 255) → address_of w (le file p w) ≡ addresses.Undefined
  undefined_bits h = rw (eq-eqb _ _ (bytes_all_ones file p w h))

  pub bits_undefined : AreBytes file → address_of w (le file p w) ≡ addresses.Undefined → (i : ℕ) → i < w → get_or file (p + i) 0 ≡ 255
  bits_undefined b = go (eqb (le file p w) (all_ones w)) refl
    where
      go : (t : Bool) → eqb (le file p w) (all_ones w) ≡ t → pick t addresses.Undefined (addresses.Number (le file p w)) ≡ addresses.Undefined → (i : ℕ) → i < w → get_or file (p + i) 0 ≡ 255
      go true e d = all_ones_bytes file b p w (eqb-true (le file p w) (all_ones w) e)
      go false e d = let z : ◌≡◌ {A = ℕ} 0 1 = cc in absurd (omega arith)

pub address_tied : (w : ℕ) → Tied (λ a theirs. a ≡ address_in theirs) (address w) (standard.address w)
unfolding address standard.address
address_tied w = tied_number (λ n. tied_done (address_of_lem w n))

-- one that may not be undefined
pub defined_address_tied : (w refusal : ℕ) → Tied (λ n theirs. theirs ≡ standard.defined n) (defined_address w refusal) (standard.address w)
unfolding bind address defined_address standard.address
defined_address_tied w refusal = tied_number (λ n. go n (eqb n (all_ones w)))
  where
    go : (n : ℕ) (t : Bool) → Tied (λ m theirs. theirs ≡ standard.defined m) (defined refusal (pick t addresses.Undefined (addresses.Number n))) (done (pick t standard.undefined (standard.defined n)))
    go n true = tied_refuse
    go n false = tied_done refl

pub tied_cond_address : (test : Bool) (w : ℕ) → Tied (SameAddress test) (cond_address test w) (standard.optional_address test w)
unfolding bind cond_address address standard.address standard.optional_address
tied_cond_address true w = tied_number (λ n. tied_done (record { zero = address_of_lem w n; some = ap Some (address_of_lem w n) }))
tied_cond_address false w = tied_done (record { zero = refl; some = refl })
