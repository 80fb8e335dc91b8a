-- The test of the version, and what a superblock that is read has passed: the file's size, the tests of its widths, and that of its checksum.
-- Assumes nothing.
use Rattle.std.specs.Prelude.{ℕ, zero, suc, ◌+◌, ◌-◌, ◌≤◌, ◌≡◌, Bool, ◌&&◌, ◌||◌, List, length, leb, Result, Ok, Err}
use Rattle.std.proofs.Math.Path.{refl, ap}
use Rattle.std.proofs.Common.{sym, ◌∙◌, arith, leb-true, ne_eqb}
use Rattle.std.proofs.Math.Bool.{true, false}
use Rattle.std.proofs.Math.Dec.{eqb}
use Rattle.format.specs.Bools.{and_right}
use Rattle.format.specs.Bytes.{le}
use Rattle.format.specs.Covers.{forward, inside}
use Rattle.format.specs.Format.{Stands, Out, found, refused, pick, read}
use Rattle.format.specs.Laws.{sound, never}
use Rattle.format.specs.Standing.{stands_bind, stands_check}
use Rattle.helpers.specs.Answers.{out}
use Rattle.helpers.specs.Addresses.{address, defined_address}
use Rattle.records.specs.declared.Refusal.{Refusal}
use Rattle.lookup3.specs.Lookup3.{sum_matches}
use Rattle.parser.specs.States.{file_limit, width_allowed}
use Rattle.parser.specs.StateLaws.{widths_of}
use Rattle.super_block.specs.declared.SuperBlock.{SuperBlock}
use Rattle.super_block.specs.SuperBlocks.{addresses, format_signature_lem, super_block, summed, super_block_of}
use Rattle.super_block.specs.Answers.{WidthsRead}

-- the versions that are known are those from 2 to 3
pub version_other : (v : ℕ) → (v ≡ 2 → ⊥) → (v ≡ 3 → ⊥) → eqb v 2 || eqb v 3 ≡ false
version_other v a b = rw (ne_eqb v 2 a, ne_eqb v 3 b)

pub version_known : (v : ℕ) → 2 ≤ v → v ≤ 3 → eqb v 2 || eqb v 3 ≡ true
version_known zero l m = absurd (omega arith)
version_known (suc zero) l m = absurd (omega arith)
version_known (suc (suc zero)) l m = refl
version_known (suc (suc (suc zero))) l m = refl
version_known (suc (suc (suc (suc v)))) l m = absurd (omega arith)

module _ (s : List ℕ) where
  -- the file is small enough, the superblock stands at its start, and its checksum matches
  pub super_block_read : {b : SuperBlock} {q : ℕ} → super_block_of s ≡ found b q → (length s ≤ file_limit) × (read s super_block 0 ≡ found b q) × (sum_matches s 0 (q - 4) ≡ true)
  unfolding super_block_of
  super_block_read {b} {q} e = small (leb (length s) file_limit) refl e
    where
      matched : (b' : SuperBlock) (q' : ℕ) (t : Bool) → sum_matches s 0 (q' - 4) ≡ t → pick t (found b' q') (refused 28) ≡ found b q → (found b' q' ≡ found b q) × (sum_matches s 0 (q - 4) ≡ true)
      matched b' q' true m d = let k : q' ≡ q = cc in (d, rw k at m)
      matched b' q' false m d = never d

      fields : (o : Out SuperBlock) → summed s o ≡ found b q → (o ≡ found b q) × (sum_matches s 0 (q - 4) ≡ true)
      fields (found b' q') d = matched b' q' (sum_matches s 0 (q' - 4)) refl d
      fields (refused n) d = never d

      small : (t : Bool) → leb (length s) file_limit ≡ t → pick t (summed s (read s super_block 0)) (refused 2) ≡ found b q
          → (length s ≤ file_limit) × (read s super_block 0 ≡ found b q) × (sum_matches s 0 (q - 4) ≡ true)
      small true t d = let f = fields (read s super_block 0) d in (leb-true (length s) file_limit t, f.0, f.1)
      small false t d = never d

  -- the widths are handed on as they were read
  kept : (o l p q : ℕ) (b : SuperBlock) → Stands s (addresses o l) p q b → (o ≡ b.size_of_offsets) × (l ≡ b.size_of_lengths)
  unfolding addresses
  kept o l p q b h =
      let c = stands_check s (eqb (le s p o) 0) 27 _ (p + o) q b h.1 in
      let x = stands_bind s (address o) _ (p + o) q b c.1 in
      let f = stands_bind s (defined_address o 3) _ x.0 q b x.3 in
      let r = stands_bind s (defined_address o 3) _ f.0 q b f.3 in
      let e = r.3.1.1 in
      (ap (λ (x : SuperBlock). x.size_of_offsets) e, ap (λ (x : SuperBlock). x.size_of_lengths) e)

  -- the widths have passed their tests, and the addresses stand behind the flags
  behind : (q : ℕ) (b : SuperBlock) → Stands s super_block 0 q b
      → (width_allowed (le s 9 1) ≡ true) × (width_allowed (le s 10 1) ≡ true) × Stands s (addresses (le s 9 1) (le s 10 1)) 12 q b
  unfolding super_block
  behind q b h =
      let version = le s 8 1 in
      let c = stands_check s (eqb (le s 0 8) format_signature_lem) 25 _ 8 q b h.1 in
      let d = stands_check s (eqb version 2 || eqb version 3) 26 _ 9 q b c.1.1 in
      let e = stands_check s (width_allowed (le s 9 1)) 1 _ 10 q b d.1.1 in
      let f = stands_check s (width_allowed (le s 10 1)) 1 _ 11 q b e.1.1 in
      (e.0, f.0, f.1.1)

  -- so of those that are handed on
  stood_widths : (q : ℕ) (b : SuperBlock) → Stands s super_block 0 q b → width_allowed b.size_of_offsets && width_allowed b.size_of_lengths ≡ true
  stood_widths q b h =
      let w = behind q b h in
      let k = kept (le s 9 1) (le s 10 1) 12 q b w.2 in
      rw (← k.0, ← k.1, w.0, w.1)

  -- the fields end behind the flags, and in the file
  pub fields_inside : (b : SuperBlock) (q : ℕ) → read s super_block 0 ≡ found b q → (12 ≤ q) × (q ≤ length s)
  fields_inside b q e =
      let h = sound s super_block 0 q b e in
      (forward s (addresses (le s 9 1) (le s 10 1)) 12 q b (behind q b h).2, inside s super_block 0 q b h (omega arith))

  -- so of an answer that is the superblock's
  widths_read : (r : Result (SuperBlock × ℕ) Refusal) → out r ≡ super_block_of s → WidthsRead r
  widths_read (Ok (b, q)) e =
      let h = sound s super_block 0 q b (super_block_read (sym e)).1 in
      widths_of b.size_of_offsets b.size_of_lengths b.end_of_file_address (stood_widths q b h)
  widths_read (Err x) e = tt

  pub with_widths : (r : Result (SuperBlock × ℕ) Refusal) → out r ≡ super_block_of s → (out r ≡ super_block_of s) × WidthsRead r
  with_widths r e = (e, widths_read r e)

-- a width that has passed its test is at most 8
pub allowed_most : (w : ℕ) {t : Bool} → t ≡ width_allowed w → t ≡ true → w ≤ 8
allowed_most w e f = leb-true w 8 (and_right (leb 2 w) (leb w 8) (sym e ∙ f))
