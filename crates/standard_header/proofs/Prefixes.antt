-- The fields of a header, of an entry and of a block as they are read are those of the specification.
-- Entries are those of docs/DIFFERENCES.md, part one. Assumes nothing.
use Rattle.std.specs.Prelude.{ℕ, zero, suc, ◌%◌, ◌^◌, ◌<◌, ◌≡◌, refl, Bool, true, false, not, eqb, leb}
use Rattle.std.proofs.Common.{arith}
use Rattle.std.specs.Int.Bits.{bit_and}
use Rattle.std.proofs.lemmas.Bool.{not-true}
use Rattle.format.specs.Bits.{bit}
use Rattle.format.specs.Format.{Format, number, skip, bind, pick, nothing, signature}
use Rattle.grammar.specs.Grammar.{ochk}
use Rattle.ohdr_entry.specs.Entries.{creation_order, prefix}
use Rattle.data_object_header.specs.Headers.{ohdr, header_fields}
use Rattle.standard.specs.Fields.{Optional, only, optional}
use Rattle.standard.specs.Tie.{Tied, tied_done, tied_number, tied_check, tied_only, tied_pick, tied_bind, tied_bind_check, tied_split, tied_skip_none, tied_optional, tied_optional_none}
use Rattle.standard.specs.Headers.{object_header_prefix, message_prefix, continuation_signature}
use Rattle.standard_header.specs.Same.{SameHeader, SamePrefix}

-- the bytes of the chunk size
pub width_same : (n : ℕ) → n < 4 → 2 ^ n ≡ pick (eqb n 0) 1 (pick (eqb n 1) 2 (pick (eqb n 2) 4 8))
width_same zero h = refl
width_same (suc zero) h = refl
width_same (suc (suc zero)) h = refl
width_same (suc (suc (suc zero))) h = refl
width_same (suc (suc (suc (suc n)))) h = absurd (omega arith)

-- the four times: 16 bytes, where they are present
times_tied : {A B : Type 0} {R : A → B → Type 0} (test : Bool) {F : Format A} {g : Optional ℕ → Optional ℕ → Optional ℕ → Optional ℕ → Format B} → ((a m c b : Optional ℕ) → Tied R F (g a m c b))
    → Tied R (skip (pick test 16 0) F) (bind (optional test 4) (λ a. bind (optional test 4) (λ m. bind (optional test 4) (λ c. bind (optional test 4) (λ b. g a m c b)))))
times_tied true t =
    tied_split 4 12 (tied_optional true 4 refl (λ a.
    tied_split 4 8 (tied_optional true 4 refl (λ m.
    tied_split 4 4 (tied_optional true 4 refl (λ c.
    tied_optional true 4 refl (λ b. t a m c b)))))))
times_tied false t =
    tied_skip_none (
    tied_optional_none false 4 refl (λ a.
    tied_optional_none false 4 refl (λ m.
    tied_optional_none false 4 refl (λ c.
    tied_optional_none false 4 refl (λ b. t a m c b)))))

-- a signature, and what follows it
tied_signature : {A B : Type 0} {R : A → B → Type 0} (mark n : ℕ) {F : Format A} {g : ℕ → Format B} → ((v : ℕ) → Tied R F (g v)) → Tied R (bind (signature mark n) (λ _. F)) (number 4 (λ v. only (eqb v mark) (g v)))
unfolding bind
tied_signature mark n {F = F} t = tied_number (λ v. tied_bind_check (eqb v mark) n nothing (λ _. F) (λ e. tied_only (eqb v mark) e (t v)))

pub header_tied : Tied SameHeader header_fields object_header_prefix
unfolding ohdr header_fields object_header_prefix
header_tied =
    tied_signature 0x5244484F 4 (λ signature.
    tied_number (λ version.
    tied_check (eqb version 2) 5 (λ e.
    tied_only (eqb version 2) e (
    tied_number (λ flags.
    tied_check (not (bit flags 4)) 6 (λ c.
    times_tied (bit flags 5) (λ a m d b.
    tied_optional_none (bit flags 4) 2 (not-true (bit flags 4) c) (λ x.
    tied_optional_none (bit flags 4) 2 (not-true (bit flags 4) c) (λ y.
    rw (← width_same (flags % 4) (omega arith)) (tied_number (λ size.
    tied_check (leb size 16777216) 7 (λ l.
    tied_done (record { flags = refl; size_of_chunk_0 = refl })))))))))))))

creation_order_tied : (header-flags : ℕ) → Tied (λ _ _. Unit {0}) (creation_order header-flags) (optional (bit header-flags 2) 2)
unfolding creation_order optional
creation_order_tied header-flags = tied_pick (bit header-flags 2) (λ _. tied_number (λ n. tied_done tt)) (λ _. tied_done tt)

pub prefix_tied : (header-flags : ℕ) → Tied SamePrefix (prefix header-flags) (message_prefix header-flags)
unfolding prefix message_prefix
prefix_tied header-flags =
    tied_number (λ type.
    tied_number (λ size.
    tied_number (λ flags.
    tied_check (eqb (bit_and flags 0b11111010) 0) 8 (λ _.
    tied_bind (creation_order_tied header-flags) (λ _ _ _.
    tied_done (record { header_message_type = refl; size_of_header_message_data = refl; header_message_flags = refl }))))))

-- IV.A.2.q, a block
pub block_signature_tied : Tied (λ _ _. Unit {0}) ochk continuation_signature
unfolding ochk continuation_signature
block_signature_tied = tied_number (λ v. tied_check (eqb v 0x4B48434F) 20 (λ e. tied_only (eqb v 0x4B48434F) e (tied_done tt)))
