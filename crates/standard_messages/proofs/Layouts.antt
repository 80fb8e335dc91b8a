-- The old fill value and the data layout as they are read are those of the specification.
-- Entries are those of docs/DIFFERENCES.md, part one. Assumes nothing.
use Rattle.std.specs.Prelude.{ℕ, ◌<◌, ◌≡◌, Bool, eqb, ltb, Some, None}
use Rattle.std.proofs.Math.Path.{refl}
use Rattle.std.proofs.Common.{sym, ◌∙◌, arith, eq-eqb, ne_eqb}
use Rattle.std.proofs.Math.Bool.{true, false}
use Rattle.format.specs.Format.{done, refuse, bytes, there, bind, pick, nothing}
use Rattle.records.specs.declared.Address.{Address}
use Rattle.records.specs.declared.Address.TheVariants as addresses
use Rattle.records.specs.declared.Part.{Part}
use Rattle.records.specs.declared.DataLayout.{DataLayout}
use Rattle.records.specs.Defaults.{empty_part}
use Rattle.parser.specs.declared.State.{State}
use Rattle.parser.specs.States.{address_valid}
use Rattle.ohdr_storage.specs.Storage.{fill_old, fill_value}
use Rattle.ohdr_layout.specs.DataLayouts.{contiguous_part, compact, data_from, raw_data_lem, contiguous, data_layout}
use Rattle.standard.specs.Tie.{Tied, tied_done, tied_number, tied_check, tied_only, tied_pick, tied_pick_left, tied_bind, tied_there_left, tied_refuse, tied_raw}
use Rattle.standard.specs.Versions.{marked, tied_marked}
use Rattle.standard_messages.proofs.Addresses.{address_tied}
use Rattle.standard_messages.specs.Same.{address_in, SameContiguous, SameProperties, SameLayout}
use Rattle.standard.specs.Fields as standard
use Rattle.standard.specs.Storage as storages
use Rattle.standard.specs.Storage.{fill_value_old, compact_storage, ContiguousStorage, contiguous_storage, layout_properties, data_layout3}

-- IV.A.2.e: nothing of it is handed out
pub fill_value_old_tied : Tied (λ _ _. Unit {0}) fill_old fill_value_old
unfolding fill_value fill_value_old
fill_value_old_tied = tied_number (λ size. tied_raw (λ x e. tied_done tt))

compact_tied : Tied (λ ours c. ours ≡ record { address = None; «data» = empty_part }) compact compact_storage
unfolding compact compact_storage
compact_tied = tied_number (λ size. tied_raw (λ x e. tied_done refl))

never : {P : Type 0} → true ≡ false → P
never e = let z : ◌≡◌ {A = ℕ} 0 1 = cc in absurd (omega arith)

part_some : (address size : ℕ) → 0 < size → contiguous_part address size ≡ record { position = address; length = size }
part_some address size z = rw (ne_eqb size 0 (λ e. omega arith))

part_none : (address size : ℕ) → size ≡ 0 → contiguous_part address size ≡ empty_part
part_none address size e = rw (eq-eqb size 0 e)

-- what is read of a size and an address beside these
module _ (s : State) (size : ℕ) where
  abbrev layout_of : Address → Part → DataLayout
  layout_of a part = record { address = Some a; «data» = part }

  abbrev storage : standard.Address → ContiguousStorage
  storage a = record { address = a; size = size }

  -- one address is another
  same : {n a : ℕ} → standard.defined n ≡ standard.defined a → n ≡ a
  same e = cc

  no_undefined : {n : ℕ} {P : Type 0} → standard.defined n ≡ standard.undefined → P
  no_undefined e = let z : ◌≡◌ {A = ℕ} 0 1 = cc in absurd (omega arith)

  there_tied : (n : ℕ) (t : Bool) → address_valid s n ≡ t → Tied (SameContiguous s) (bind (pick t (there n (bytes size nothing) (λ _. done (contiguous_part n size))) (done empty_part)) (λ part. done (layout_of (addresses.Number n) part))) (done (storage (standard.defined n)))
  unfolding bind
  there_tied n true v =
      tied_there_left (λ _. tied_done (record {
        address = refl;
        raw_data = λ a e _ z. rw (← same e) (part_some n size z);
        no_size = part_none n size;
        undefined = λ e. no_undefined e;
        no_data = λ a e f. never (sym v ∙ (rw (← same e) at f));
      }))
  there_tied n false v =
      tied_done (record {
        address = refl;
        raw_data = λ a e f _. never (sym (rw (← same e) at f) ∙ v);
        no_size = λ _. refl;
        undefined = λ _. refl;
        no_data = λ _ _ _. refl;
      })

  raw_tied : (theirs : standard.Address) → Tied (SameContiguous s) (bind (raw_data_lem s size (address_in theirs)) (λ part. done (layout_of (address_in theirs) part))) (done (storage theirs))
  unfolding bind data_from raw_data_lem
  raw_tied standard.undefined =
      tied_done (record {
        address = refl;
        raw_data = λ a e _ _. no_undefined (sym e);
        no_size = λ _. refl;
        undefined = λ _. refl;
        no_data = λ _ _ _. refl;
      })
  raw_tied (standard.defined n) = there_tied n (address_valid s n) refl

contiguous_tied : (s : State) → Tied (SameContiguous s) (contiguous s) (contiguous_storage s.size_of_offsets s.size_of_lengths)
unfolding contiguous contiguous_storage
contiguous_tied s =
    tied_bind (address_tied s.size_of_offsets) (λ a theirs e.
    tied_number (λ size.
    tied_check (ltb size 268435456) 13 (λ _.
    rw e (raw_tied s size theirs))))

properties_tied : (s : State) (layout_class : ℕ) → Tied (SameProperties s) (pick (eqb layout_class 0) compact (pick (eqb layout_class 1) (contiguous s) (pick (eqb layout_class 2) (refuse 14) (refuse 13)))) (layout_properties s.size_of_offsets s.size_of_lengths layout_class)
unfolding layout_properties
properties_tied s layout_class =
    tied_pick (eqb layout_class 0) (λ _. tied_marked storages.compact compact_tied) (λ _.
    tied_pick (eqb layout_class 1) (λ _. tied_marked storages.contiguous (contiguous_tied s)) (λ _.
    tied_pick_left (eqb layout_class 2) (λ _. tied_refuse) (λ _. tied_refuse)))

pub data_layout_tied : (s : State) → Tied (SameLayout s) (data_layout s) (data_layout3 s.size_of_offsets s.size_of_lengths)
unfolding data_layout data_layout3 marked
data_layout_tied s =
    tied_number (λ version.
    tied_check (eqb version 3) 13 (λ e.
    tied_only (eqb version 3) e (
    tied_number (λ layout_class.
    tied_marked (λ properties. record { version = version; layout_class = layout_class; properties = properties }) (properties_tied s layout_class)))))
