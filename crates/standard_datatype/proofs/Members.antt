-- A compound's member before its type, as it is read and as the standard has it, in both versions. Assumes nothing.
use Rattle.std.specs.Prelude.{ℕ, suc, ◌+◌, ◌≤◌, ◌<◌, ◌≡◌, refl, ◌⊎◌, Bool, true, false, eqb, get_or}
use Rattle.std.proofs.Math.Logic.{inl, inr}
use mathlib.Core.List.{List}
use Rattle.std.proofs.Common.{arith}
use Rattle.std.proofs.Math.ListN.{length}
use borrow.Author.Tests.{eqb-true, eqb-false, lt-ltb}
use Rattle.format.specs.Bytes.{le, Named}
use Rattle.format.specs.BytesLaws.{by_le}
use Rattle.format.specs.Format.{Format, skip, name, Stands, bind}
use Rattle.ohdr_member.specs.Members.{member_fields}
use Rattle.ohdr_member.specs.Members as ours
use Rattle.standard.specs.Fields.{Bytes}
use Rattle.standard.specs.Tie.{Stood, Tied, TiedBut, onward, tied_done, tied_number, tied_skip_number, tied_check}
use Rattle.standard.specs.TieMore.{but_map}
use Rattle.standard.specs.Versions.{marked}
use Rattle.standard.specs.Datatypes.{DatatypeHeader, version, terminated, member1, member3, version_1, version_3, member}
use Rattle.standard_datatype.specs.Differences.{LongName, name_limit}
use Rattle.standard_datatype.specs.Same.{ScalarMember}

one_byte : (s : List ℕ) (p : ℕ) → le s p 1 ≡ get_or s p 0
unfolding le
one_byte s p = omega arith

-- over the longest name that is asked for of the standard's format
module _ (longest : ℕ) where
  -- a name whose closing byte is zero is a name with its zero; else it is longer than its limit
  named : (limit : ℕ) → limit ≤ longest → (s : List ℕ) (p n : ℕ) → Named s p limit n → p + n + 1 ≤ length s
      → LongName limit s p ⊎ (Named s p longest n × (get_or s (p + n) 0 ≡ 0))
  named limit l s p n h r = go (eqb (get_or s (p + n) 0) 0) refl h.ended
    where
      all : (get_or s (p + n) 0 ≡ 0 → ⊥) → n ≡ limit → LongName limit s p
      all z e i k d = by_le (suc i) n (λ j. h.nonzero i j d) (λ j. z (let f : i ≡ n = omega arith in rw (← f) d))

      go : (t : Bool) → eqb (get_or s (p + n) 0) 0 ≡ t → (n ≡ limit) ⊎ ((p + n < length s) × (get_or s (p + n) 0 ≡ 0)) → LongName limit s p ⊎ (Named s p longest n × (get_or s (p + n) 0 ≡ 0))
      go true e _ =
          let z = eqb-true (get_or s (p + n) 0) 0 e in
          inr (record { inside = h.inside; within = omega (arith, h.within); nonzero = h.nonzero; ended = inr (omega arith, z) }, z)
      go false e (inl f) = inl (all (eqb-false (get_or s (p + n) 0) 0 e) f)
      go false e (inr f) = absurd (eqb-false (get_or s (p + n) 0) 0 e f.1)

  -- a name and its closing byte, and what follows them
  name_tied : {A B : Type 0} {R : A → B → Type 0} (limit : ℕ) → limit ≤ longest → (F : ℕ → Format A) (G : Bytes → Format B) → ((x : Bytes) → Tied R (F x.length) (G x))
      → TiedBut (LongName limit) R (name limit (λ n. skip 1 (F n))) (bind (terminated longest) G)
  unfolding terminated bind
  name_tied {A} {B} {R} limit l F G t = record { ties = λ s p q a h. go s p q a h (named limit l s p h.0 h.1 h.2.0) }
    where
      go : (s : List ℕ) (p q : ℕ) (a : A) (h : Stands s (name limit (λ n. skip 1 (F n))) p q a) → LongName limit s p ⊎ (Named s p longest h.0 × (get_or s (p + h.0) 0 ≡ 0))
          → LongName limit s p ⊎ Stood R (bind (terminated longest) G) s p q a
      go s p q a h (inl d) = inl d
      go s p q a h (inr w) =
          inr (onward ((t (record { position = p; length = h.0 })).ties s (p + h.0 + 1) q a h.2.1) (λ b i. (h.0, w.0, (h.2.0, rw (one_byte s (p + h.0), w.1) i))))

  -- version 1: the fields stand one after another, and the dimensionality is 0
  member1_tied : 255 ≤ longest → TiedBut (LongName 255) (λ _ m. m.dimensionality ≡ 0) ours.member1 (member1 longest)
  unfolding ours.member1 member1
  member1_tied l =
      name_tied 255 l _ _ (λ x.
      tied_skip_number (λ name_padding.
      tied_number (λ byte_offset_of_member.
      tied_number (λ dimensionality.
      tied_check (eqb dimensionality 0) 11 (λ e.
      tied_skip_number (λ reserved_after_dimensionality.
      tied_number (λ dimension_permutation.
      tied_skip_number (λ reserved_after_permutation.
      tied_number (λ dimension_1_size.
      tied_number (λ dimension_2_size.
      tied_number (λ dimension_3_size.
      tied_number (λ dimension_4_size.
      tied_done (eqb-true dimensionality 0 e)))))))))))))

  -- version 3, in a compound of 1 to 255 bytes: an offset of one byte
  member3_tied : 4095 ≤ longest → (size : ℕ) → 0 < size → size < 256 → TiedBut (LongName 4095) (λ _ _. Unit {0}) (ours.member3 size) (member3 longest size)
  unfolding ours.member3 member3
  member3_tied l size h u =
      rw (lt-ltb 0 size h, lt-ltb size 256 u) (
      name_tied 4095 l _ _ (λ x.
      tied_number (λ byte_offset_of_member.
      tied_done tt)))

  -- of the version that the compound's header has
  pub member_tied : 4095 ≤ longest → (h : DatatypeHeader) → (version h ≡ 1) ⊎ ((version h ≡ 3) × (0 < h.size)) → h.size < 256
      → TiedBut (LongName (name_limit (version h))) (λ _ m. ScalarMember m) (member_fields (version h) h.size) (member longest h)
  unfolding member_fields member marked
  member_tied l h (inl e) u = rw e (but_map version_1 (λ _ m d. d) (member1_tied (omega arith)))
  member_tied l h (inr e) u = rw e.0 (but_map version_3 (λ _ m d. d) (member3_tied l h.size e.1 u))
