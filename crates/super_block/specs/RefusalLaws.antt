-- A superblock is refused with the numbers of its tests, none of which is 0 or 24. Assumes nothing.
use Rattle.std.specs.Prelude.{ℕ, ◌-◌, ◌≡◌, refl, Bool, false, ◌||◌, List, length, eqb, leb}
use Rattle.std.proofs.Math.Bool.{true}
use Rattle.format.specs.Format.{Out, found, refused, read, pick}
use Rattle.format.specs.Refusals.{RefusedWith, RefusesWith}
use Rattle.format.specs.RefusalLaws.{refused_otherwise, read_refused, bind_refuses, check_refuses}
use Rattle.records.specs.declared.Address.{Address}
use Rattle.records.specs.declared.Address.TheVariants as cases
use Rattle.helpers.specs.Addresses.{address, defined, defined_address}
use Rattle.lookup3.specs.Lookup3.{sum_matches}
use Rattle.parser.specs.States.{file_limit, width_allowed}
use Rattle.super_block.specs.declared.SuperBlock.{SuperBlock}
use Rattle.super_block.specs.SuperBlocks.{addresses, format_signature_lem, super_block, summed, super_block_of}
use Rattle.super_block.specs.Refusals.{of_block, of_file}

address_as : (w : ℕ) → RefusesWith of_block (address w)
unfolding address
address_as w = λ n. tt

defined_address_as : (w : ℕ) → RefusesWith of_block (defined_address w 3)
unfolding defined_address
defined_address_as w = bind_refuses of_block (address w) (defined 3) (address_as w) go
  where
    go : (a : Address) → RefusesWith of_block (defined 3 a)
    go cases.Undefined = refl
    go (cases.Number n) = tt

block_as : RefusesWith of_block super_block
unfolding super_block addresses
block_as =
    λ signature. check_refuses of_block (eqb signature format_signature_lem) 25 _ refl (
    λ version. check_refuses of_block (eqb version 2 || eqb version 3) 26 _ refl (
    λ o. check_refuses of_block (width_allowed o) 1 _ refl (
    λ l. check_refuses of_block (width_allowed l) 1 _ refl (
    λ flags base. check_refuses of_block (eqb base 0) 27 _ refl (
    bind_refuses of_block (address o) _ (address_as o) (λ _.
    bind_refuses of_block (defined_address o 3) _ (defined_address_as o) (λ _.
    bind_refuses of_block (defined_address o 3) _ (defined_address_as o) (λ _ _. tt))))))))

module _ (file : List ℕ) where
  -- behind its fields, the checksum
  pub summed_as : RefusedWith of_block (summed file (read file super_block 0))
  summed_as = go (read file super_block 0) (read_refused of_block refl file super_block 0 block_as)
    where
      tested : (t : Bool) (b : SuperBlock) (q : ℕ) → RefusedWith of_block (pick t (found b q) (refused 28))
      tested true b q = tt
      tested false b q = refl

      go : (o : Out SuperBlock) → RefusedWith of_block o → RefusedWith of_block (summed file o)
      go (found b q) s = tested (sum_matches file 0 (q - 4)) b q
      go (refused r) s = s

  -- and before them, the file's size
  superblock_as : RefusedWith of_file (super_block_of file)
  unfolding super_block_of
  superblock_as = go (leb (length file) file_limit) (summed file (read file super_block 0)) summed_as
    where
      wider : (r : ℕ) → of_block r ≡ true → of_file r ≡ true
      wider r e = rw e

      go : (t : Bool) (o : Out SuperBlock) → RefusedWith of_block o → RefusedWith of_file (pick t o (refused 2))
      go true (found b q) s = tt
      go true (refused r) s = wider r s
      go false o s = refl

  pub refusal_not_0 : super_block_of file ≡ refused 0 → ⊥
  refusal_not_0 = refused_otherwise of_file 0 (super_block_of file) refl superblock_as

  pub refusal_not_24 : super_block_of file ≡ refused 24 → ⊥
  refusal_not_24 = refused_otherwise of_file 24 (super_block_of file) refl superblock_as
