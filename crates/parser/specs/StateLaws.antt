-- What a state that was made, or refused, says of the widths: its definition has two cases. Assumes nothing.
use Rattle.std.specs.Prelude.{ℕ, ◌≡◌, refl, Bool, true, false, ◌&&◌, leb, Result, Ok, Err}
use Rattle.std.proofs.Common.{sym, ap, arith, leb-true, le-leb}
use Rattle.format.specs.Format.{pick}
use Rattle.format.specs.Bools.{and_left, and_right}
use Rattle.records.specs.Refusals.{refusal_number}
use Rattle.records.specs.declared.Refusal.{Refusal}
use Rattle.records.specs.declared.Refusal.TheVariants as refusals
use Rattle.parser.specs.declared.State.{State}
use Rattle.parser.specs.States.{Widths, width_allowed, state_for, state_of}

module _ (offsets lengths end : ℕ) where
  abbrev allow : Bool
  allow = width_allowed offsets && width_allowed lengths

  -- by the test of the widths
  cases : (P : Result State Refusal → Type 0) → (allow ≡ true → P (Ok (state_for offsets lengths end))) → (allow ≡ false → P (Err refusals.Width)) → P (state_of offsets lengths end)
  cases P f g = go allow refl
    where
      go : (t : Bool) → allow ≡ t → P (pick t (Ok (state_for offsets lengths end)) (Err refusals.Width))
      go true e = f e
      go false e = g e

  pub made : {s : State} → state_of offsets lengths end ≡ Ok s → (allow ≡ true) × (s ≡ state_for offsets lengths end)
  made {s} = cases (λ n. n ≡ Ok s → (allow ≡ true) × (s ≡ state_for offsets lengths end)) (λ t e. (t, cc)) (λ t e. let z : ◌≡◌ {A = ℕ} 0 1 = cc in absurd (omega arith))

  pub unmade : {x : Refusal} → state_of offsets lengths end ≡ Err x → (allow ≡ false) × (refusal_number x ≡ 1)
  unmade {x} = cases (λ n. n ≡ Err x → (allow ≡ false) × (refusal_number x ≡ 1)) (λ t e. let z : ◌≡◌ {A = ℕ} 0 1 = cc in absurd (omega arith))
      (λ t e. let y : refusals.Width ≡ x = cc in (t, ap refusal_number (sym y)))

  -- the widths that are allowed are those from 2 to 8
  pub allowed : Widths (state_for offsets lengths end) → allow ≡ true
  allowed w = rw (le-leb 2 offsets w.offsets_least, le-leb offsets 8 w.offsets, le-leb 2 lengths w.lengths_least, le-leb lengths 8 w.lengths)

  pub widths_of : allow ≡ true → Widths (state_for offsets lengths end)
  widths_of t =
      let a = and_left (width_allowed offsets) (width_allowed lengths) t in
      let b = and_right (width_allowed offsets) (width_allowed lengths) t in
      record {
        offsets_least = leb-true 2 offsets (and_left (leb 2 offsets) (leb offsets 8) a);
        offsets = leb-true offsets 8 (and_right (leb 2 offsets) (leb offsets 8) a);
        lengths_least = leb-true 2 lengths (and_left (leb 2 lengths) (leb lengths 8) b);
        lengths = leb-true lengths 8 (and_right (leb 2 lengths) (leb lengths 8) b);
      }

  pub made_widths : (s : State) → state_of offsets lengths end ≡ Ok s → Widths s
  made_widths s e = rw (made e).1 (widths_of (made e).0)
