-- Link info, group info, attribute info and the continuation as they are read are those of the specification.
-- Entries are those of docs/DIFFERENCES.md, part one. Assumes nothing.
use Rattle.std.specs.Prelude.{ℕ, ◌+◌, ◌≡◌, refl, ◌&&◌, eqb, leb}
use Rattle.format.specs.Bits.{bit}
use Rattle.format.specs.Format.{done, number, bind, check}
use Rattle.records.specs.declared.Address.{Address}
use Rattle.helpers.specs.Addresses.{address}
use Rattle.parser.specs.declared.State.{State}
use Rattle.parser.specs.States.{address_valid}
use Rattle.ohdr_info.specs.Info.{cond, cond_address, link_info, group_info, attribute_info}
use Rattle.ohdr_entry.specs.Continuations.{continuation}
use Rattle.standard.specs.Fields as standard
use Rattle.standard.specs.Fields.{Optional, only, optional}
use Rattle.standard.specs.Tie.{Tied, tied_done, tied_number, tied_check, tied_only, tied_bind}
use Rattle.standard.specs.Headers.{continuation_message}
use Rattle.standard.specs.Infos.{link_info_message, group_info_message, attribute_info_message}
use Rattle.standard_messages.proofs.Addresses.{address_tied, defined_address_tied, tied_cond_address}
use Rattle.standard_messages.specs.Same.{address_in, SameAddress, Same, SameLinkInfo, SameGroupInfo, SameAttributeInfo, SameContinuation}
use Rattle.standard_messages.proofs.Options.{tied_cond}

-- flags, a maximum creation index of w bytes where bit 0 brings it, two addresses, and a third where bit 1 does
indexed_tied : {A B : Type 0} {R : A → B → Type 0} (refusal w offsets : ℕ) (f : ℕ → ℕ → Address → Address → Address → A) (g : ℕ → ℕ → Optional ℕ → standard.Address → standard.Address → Optional standard.Address → B)
    → ((version flags n : ℕ) (index : Optional ℕ) (a : Address) (heap : standard.Address) (b : Address) (names : standard.Address) (c : Address) (order : Optional standard.Address)
    → Same (bit flags 0) n index → a ≡ address_in heap → b ≡ address_in names → SameAddress (bit flags 1) c order → R (f flags n a b c) (g version flags index heap names order))
    → Tied R
    (number 1 (λ version. check (eqb version 0) refusal (number 1 (λ flags. bind (cond (bit flags 0) w) (λ n. bind (address offsets) (λ a. bind (address offsets) (λ b. bind (cond_address (bit flags 1) offsets) (λ c. done (f flags n a b c)))))))))
    (number 1 (λ version. only (eqb version 0) (number 1 (λ flags. bind (optional (bit flags 0) w) (λ index. bind (standard.address offsets) (λ heap. bind (standard.address offsets) (λ names. bind (standard.optional_address (bit flags 1) offsets) (λ order. done (g version flags index heap names order)))))))))
indexed_tied refusal w offsets f g same =
    tied_number (λ version.
    tied_check (eqb version 0) refusal (λ e.
    tied_only (eqb version 0) e (
    tied_number (λ flags.
    tied_bind (tied_cond (bit flags 0) w) (λ n index i.
    tied_bind (address_tied offsets) (λ a heap h.
    tied_bind (address_tied offsets) (λ b names k.
    tied_bind (tied_cond_address (bit flags 1) offsets) (λ c order o.
    tied_done (same version flags n index a heap b names c order i h k o)))))))))

pub link_info_tied : (s : State) → Tied SameLinkInfo (link_info s) (link_info_message s.size_of_offsets)
unfolding link_info link_info_message
link_info_tied s =
    indexed_tied 10 8 s.size_of_offsets _ _ (λ version flags n index a heap b names c order i h k o. record {
      flags = refl;
      maximum_creation_index = i.eight;
      fractal_heap_address = h;
      address_of_v2_b_tree_for_name_index = k;
      address_of_v2_b_tree_for_creation_order_index = o.some;
    })

pub group_info_tied : Tied SameGroupInfo group_info group_info_message
unfolding group_info group_info_message
group_info_tied =
    tied_number (λ version.
    tied_check (eqb version 0) 15 (λ e.
    tied_only (eqb version 0) e (
    tied_number (λ flags.
    tied_bind (tied_cond (bit flags 0) 2) (λ n compact c.
    tied_bind (tied_cond (bit flags 0) 2) (λ n dense d.
    tied_bind (tied_cond (bit flags 1) 2) (λ n entries k.
    tied_bind (tied_cond (bit flags 1) 2) (λ n names l.
    tied_done (record {
      flags = refl;
      link_phase_change_maximum_compact_value = c.two;
      link_phase_change_minimum_dense_value = d.two;
      estimated_number_of_entries = k.two;
      estimated_link_name_length_of_entries = l.two;
    })))))))))

pub attribute_info_tied : (s : State) → Tied SameAttributeInfo (attribute_info s) (attribute_info_message s.size_of_offsets)
unfolding attribute_info attribute_info_message
attribute_info_tied s =
    indexed_tied 18 2 s.size_of_offsets _ _ (λ version flags n index a heap b names c order i h k o. record {
      flags = refl;
      maximum_creation_index = i.zero;
      fractal_heap_address = h;
      attribute_name_v2_b_tree_address = k;
      attribute_creation_order_v2_b_tree_address = o.zero;
    })

pub continuation_tied : (s : State) → Tied SameContinuation (continuation s) (continuation_message s.size_of_offsets s.size_of_lengths)
unfolding continuation continuation_message
continuation_tied s =
    tied_bind (defined_address_tied s.size_of_offsets 19) (λ offset theirs o.
    tied_check (address_valid s offset) 19 (λ e.
    tied_number (λ length.
    tied_check (leb 8 length && leb (offset + length) s.end_of_file_address) 19 (λ d.
    tied_done (record { offset = o; length = refl })))))
