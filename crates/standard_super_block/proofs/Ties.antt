-- The superblock that is read is the specification's, and a superblock of the specification is read. Entries are those of docs/DIFFERENCES.md,
-- part one. Assumes nothing.
use Rattle.std.specs.Prelude.{ℕ, ◌+◌, ◌-◌, ◌≡◌, refl, Bool, true, false, ◌||◌, List, length, eqb, leb}
use Rattle.std.proofs.Common.{sym, ap, ◌∙◌, arith, eq-eqb, ne_eqb, eqb-true, le-leb, leb-true}
use Rattle.format.specs.Bools.{and_left}
use Rattle.format.specs.Bytes.{le, all_ones}
use Rattle.format.specs.BytesLaws.{all_ones_positive}
use Rattle.format.specs.Format.{done, number, bind, pick, Stands, found}
use Rattle.format.specs.Laws.{complete}
use Rattle.format.specs.Standing.{stands_check}
use Rattle.lookup3.specs.Lookup3.{Matches}
use Rattle.lookup3.specs.Laws.{matches_is, is_matches}
use Rattle.records.specs.declared.Address.{Address}
use Rattle.helpers.specs.Addresses.{address_of, address, defined_address}
use Rattle.parser.specs.States.{file_limit, width_allowed}
use Rattle.super_block.specs.declared.SuperBlock.{SuperBlock}
use Rattle.super_block.specs.SuperBlocks.{addresses, super_block, super_block_of}
use Rattle.super_block.specs.Laws.{super_block_read}
use Rattle.standard.specs.Fields as standard
use Rattle.standard.specs.Fields.{defined}
use Rattle.standard.specs.Tie.{Tied, tied_done, tied_number, tied_check, tied_only, tied_bind}
use Rattle.standard.specs.Superblocks.{Superblock, signature, superblock23, ValidChecksum}
use Rattle.standard_messages.proofs.Addresses.{address_of_lem, address_tied, defined_address_tied}
use Rattle.standard_messages.specs.Same.{address_in}
use Rattle.standard_super_block.specs.Same.{SameSuperBlock}
use Rattle.standard_super_block.specs.ReadSuperblocks.{ReadSuperblock}

-- zero is no undefined address
zero_defined : (w n : ℕ) → width_allowed w ≡ true → n ≡ 0 → standard.address_of w n ≡ defined n
zero_defined w n a z = let l = leb-true 2 w (and_left (leb 2 w) (leb w 8) a) in rw (ne_eqb n (all_ones w) (λ e. all_ones_positive w (omega (arith, l)) (sym e ∙ z)))

-- the base address, which is read as a number
base_tied : (w : ℕ) → Tied (λ n theirs. theirs ≡ standard.address_of w n) (number w done) (standard.address w)
unfolding standard.address
base_tied w = tied_number (λ n. tied_done refl)

pub super_block_tied : Tied SameSuperBlock super_block superblock23
unfolding super_block addresses superblock23 bind
super_block_tied =
    tied_number (λ format_signature.
    tied_check (eqb format_signature signature) 25 (λ s.
    tied_only (eqb format_signature signature) s (
    tied_number (λ version_number.
    tied_check (eqb version_number 2 || eqb version_number 3) 26 (λ v.
    tied_only (eqb version_number 2 || eqb version_number 3) v (
    tied_number (λ size_of_offsets.
    tied_check (width_allowed size_of_offsets) 1 (λ o.
    tied_number (λ size_of_lengths.
    tied_check (width_allowed size_of_lengths) 1 (λ l.
    tied_number (λ file_consistency_flags.
    tied_bind (base_tied size_of_offsets) (λ base_address theirs d.
    tied_check (eqb base_address 0) 27 (λ b.
    tied_bind (address_tied size_of_offsets) (λ a superblock_extension_address x.
    tied_bind (defined_address_tied size_of_offsets 3) (λ m end_of_file_address e.
    tied_bind (defined_address_tied size_of_offsets 3) (λ n root_group_object_header_address r.
    tied_number (λ superblock_checksum.
    tied_done (record {
      size_of_offsets = refl;
      size_of_lengths = refl;
      base_address = d ∙ zero_defined size_of_offsets base_address o (eqb-true base_address 0 b);
      superblock_extension_address = x;
      end_of_file_address = e;
      root_group_object_header_address = r;
    }))))))))))))))))))

-- the superblock that is handed on of one of the specification
abbrev handed : Superblock → ℕ → ℕ → SuperBlock
handed x end_of_file root =
    record {
      size_of_offsets = x.size_of_offsets;
      size_of_lengths = x.size_of_lengths;
      base_address = 0;
      superblock_extension_address = address_in x.superblock_extension_address;
      end_of_file_address = end_of_file;
      root_group_object_header_address = root;
    }

-- the checksum is stored in the last four bytes of the superblock
checksum_field : (s : List ℕ) (q : ℕ) (x : Superblock) → Stands s superblock23 0 q x → le s (q - 4) 4 ≡ x.superblock_checksum
unfolding superblock23 bind standard.address
checksum_field s q x h =
    let a = stands_check s (eqb (le s 0 8) signature) 0 _ 8 q x h.1 in
    let b = stands_check s (eqb (le s 8 1) 2 || eqb (le s 8 1) 3) 0 _ 9 q x a.1.1 in
    let d = b.1.1.1.1.1.1.1.1.1 in
    let o = le s 9 1 in
    let k : q - 4 ≡ 12 + o + o + o + o = omega (arith, d.0) in
    ap (λ (p : ℕ). le s p 4) k ∙ ap (λ (y : Superblock). y.superblock_checksum) d.1

-- the number of an address that is not undefined
module _ (w n m : ℕ) where
  is_defined : standard.address_of w n ≡ defined m → (eqb n (all_ones w) ≡ false) × (n ≡ m)
  is_defined = go (eqb n (all_ones w)) refl
    where
      go : (t : Bool) → eqb n (all_ones w) ≡ t → pick t standard.undefined (defined n) ≡ defined m → (eqb n (all_ones w) ≡ false) × (n ≡ m)
      go true e d = let z : ◌≡◌ {A = ℕ} 0 1 = cc in absurd (omega arith)
      go false e d = (e, cc)

-- such a superblock stands in our format over the same bytes
stands : (s : List ℕ) (q : ℕ) (x : Superblock) (r : ReadSuperblock s q x) → Stands s superblock23 0 q x → Stands s super_block 0 q (handed x r.end_of_file r.root)
unfolding super_block addresses superblock23 bind address defined_address standard.address
stands s q x r h =
    let a = stands_check s (eqb (le s 0 8) signature) 0 _ 8 q x h.1 in
    let b = stands_check s (eqb (le s 8 1) 2 || eqb (le s 8 1) 3) 0 _ 9 q x a.1.1 in
    let w = b.1.1.1.1 in
    let e = w.1.1.1.1.1.1 in
    let size = le s 9 1 in
    let o = ap width_allowed (ap (λ (y : Superblock). y.size_of_offsets) e) ∙ r.offsets in
    let l = ap width_allowed (ap (λ (y : Superblock). y.size_of_lengths) e) ∙ r.lengths in
    let z = is_defined size (le s 12 size) 0 (ap (λ (y : Superblock). y.base_address) e ∙ r.base) in
    let f = is_defined size (le s (12 + size + size) size) r.end_of_file (ap (λ (y : Superblock). y.end_of_file_address) e ∙ r.end_of_file_defined) in
    let g = is_defined size (le s (12 + size + size + size) size) r.root (ap (λ (y : Superblock). y.root_group_object_header_address) e ∙ r.root_defined) in
    let t : address_of size (le s (12 + size) size) ≡ address_in x.superblock_extension_address = address_of_lem size (le s (12 + size) size) ∙ ap (λ (y : Superblock). address_in y.superblock_extension_address) e in
    let k = eq-eqb (le s 12 size) 0 z.1 in
    let d = w.1.1.1.1 in
    (h.0, rw a.0 (a.1.0, rw b.0 (b.1.0, rw o (b.1.1.0, rw l (b.1.1.1.0, (w.0, rw k (w.1.0, (w.1.1.0, rw f.0 (w.1.1.1.0, rw g.0 (d.0, (d.1.0, whole e z.1 t f.1 g.1)))))))))))
  where
    -- the fields of a superblock, one by one
    whole : {y : Superblock} {base eof root : ℕ} {extension : Address} → y ≡ x → base ≡ 0 → extension ≡ address_in x.superblock_extension_address → eof ≡ r.end_of_file → root ≡ r.root
        → ◌≡◌ {A = SuperBlock} (record {
          size_of_offsets = y.size_of_offsets;
          size_of_lengths = y.size_of_lengths;
          base_address = base;
          superblock_extension_address = extension;
          end_of_file_address = eof;
          root_group_object_header_address = root;
        }) (handed x r.end_of_file r.root)
    whole e b t f g =
        λ i. record {
          size_of_offsets = (e i).size_of_offsets;
          size_of_lengths = (e i).size_of_lengths;
          base_address = b i;
          superblock_extension_address = t i;
          end_of_file_address = f i;
          root_group_object_header_address = g i;
        }

-- a checksum is the one that the specification asks for exactly where it matches
valid_matches : (file : List ℕ) (q : ℕ) (x : Superblock) → Stands file superblock23 0 q x → ValidChecksum file q x → Matches file 0 (q - 4)
valid_matches file q x h v = let e : q - 4 - 0 ≡ q - 4 = omega arith in rw e (checksum_field file q x h ∙ v)

matches_valid : (file : List ℕ) (q : ℕ) (x : Superblock) → Stands file superblock23 0 q x → Matches file 0 (q - 4) → ValidChecksum file q x
matches_valid file q x h m = let e : q - 4 - 0 ≡ q - 4 = omega arith in sym (checksum_field file q x h) ∙ (rw e at m)

-- the checksum of a superblock that is read is the one that the specification asks for
pub super_block_checksum : (file : List ℕ) (b : SuperBlock) (q : ℕ) (x : Superblock) → super_block_of file ≡ found b q → Stands file superblock23 0 q x → ValidChecksum file q x
super_block_checksum file b q x e h = matches_valid file q x h (matches_is file 0 (q - 4) (super_block_read file e).2)

-- and so it is read, with its fields
pub superblock_is_read : (file : List ℕ) (q : ℕ) (x : Superblock) → Stands file superblock23 0 q x → ReadSuperblock file q x
    → (b : SuperBlock) × (super_block_of file ≡ found b q) × SameSuperBlock b x
unfolding super_block_of
superblock_is_read file q x h r = (
  handed x r.end_of_file r.root,
  rw (le-leb (length file) file_limit r.small, complete file super_block 0 q (handed x r.end_of_file r.root) (stands file q x r h), is_matches file 0 (q - 4) (valid_matches file q x h r.checksum)),
  record {
    size_of_offsets = refl;
    size_of_lengths = refl;
    base_address = r.base;
    superblock_extension_address = refl;
    end_of_file_address = r.end_of_file_defined;
    root_group_object_header_address = r.root_defined;
  },
)
