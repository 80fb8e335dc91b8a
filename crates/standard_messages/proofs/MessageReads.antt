-- Link info, group info, attribute info, fill values, layout and continuation of the specification are read, over the same bytes and with the same
-- fields, where the conditions of `ReadMessages` hold of them. Assumes nothing.
use Rattle.std.specs.Prelude.{ℕ, ◌+◌, ◌≤◌, ◌≡◌, ◌⊎◌, Bool, not, ◌&&◌, ◌||◌, List, length, ltb}
use Rattle.std.proofs.Math.Path.{refl, ap}
use Rattle.std.proofs.Common.{◌∙◌, inl, inr, arith, eqb-true, le-leb}
use Rattle.std.proofs.Math.Bool.{true, false}
use Rattle.std.proofs.Math.Dec.{eqb}
use Rattle.std.proofs.lemmas.Bool.{eqb-false}
use Rattle.format.specs.Bits.{bit}
use Rattle.format.specs.Bytes.{le}
use Rattle.format.specs.Format.{Format, done, refuse, number, bind, check, pick, nothing, Stands}
use Rattle.format.specs.Standing.{stands_bind, stands_check}
use Rattle.records.specs.declared.Address.{Address}
use Rattle.helpers.specs.Addresses.{address}
use Rattle.parser.specs.declared.State.{State}
use Rattle.ohdr_info.specs.Info.{cond, cond_address, link_info, group_info, attribute_info}
use Rattle.ohdr_storage.specs.Storage.{fill_value, fill12, fill3, fill}
use Rattle.standard.specs.Fields as standard
use Rattle.standard.specs.Fields.{Optional, only, optional}
use Rattle.standard.specs.Tie.{tied_done, tied_number, tied_check, tied_bind}
use Rattle.standard.specs.Converse.{Reads, ReadAs, read_tied, Met, met, tied_checked, tied_from_raw}
use Rattle.standard.specs.Versions.{by_version, marked}
use Rattle.standard.specs.Infos.{LinkInfoMessage, link_info_message, GroupInfoMessage, group_info_message, AttributeInfoMessage, attribute_info_message}
use Rattle.standard.specs.Storage.{FillValueOld, fill_value_old, SizeAndFillValue, size_and_fill_value_lem, FillFields12, fill_fields12, FillValue12, fill_value12, FillValue3, fill_value3, FillValue, versions_1_and_2, version_3, fill_value_message}
use Rattle.standard_messages.proofs.Infos.{link_info_tied, group_info_tied, attribute_info_tied}
use Rattle.standard_messages.specs.Same.{SameLinkInfo, SameGroupInfo, SameAttributeInfo}
use Rattle.standard_messages.specs.ReadMessages.{ReadFill12, ReadFill}

-- fields that a flag brings, and addresses
cond_met : (test : Bool) (w : ℕ) → Met (cond test w) (optional test w)
unfolding cond optional
cond_met true w = tied_number (λ n. tied_done tt)
cond_met false w = tied_done tt

address_met : (w : ℕ) → Met (address w) (standard.address w)
unfolding address standard.address
address_met w = tied_number (λ n. tied_done tt)

cond_address_met : (test : Bool) (w : ℕ) → Met (cond_address test w) (standard.optional_address test w)
unfolding bind cond_address address standard.address standard.optional_address
cond_address_met true w = tied_number (λ n. tied_done tt)
cond_address_met false w = tied_done tt

-- link info and attribute info
indexed_met : {A B : Type 0} (refusal w offsets : ℕ) (f : ℕ → ℕ → Address → Address → Address → A) (g : ℕ → ℕ → Optional ℕ → standard.Address → standard.Address → Optional standard.Address → B)
    → Met
    (number 1 (λ version. check (eqb version 0) refusal (number 1 (λ flags. bind (cond (bit flags 0) w) (λ n. bind (address offsets) (λ a. bind (address offsets) (λ b. bind (cond_address (bit flags 1) offsets) (λ c. done (f flags n a b c)))))))))
    (number 1 (λ version. only (eqb version 0) (number 1 (λ flags. bind (optional (bit flags 0) w) (λ index. bind (standard.address offsets) (λ heap. bind (standard.address offsets) (λ names. bind (standard.optional_address (bit flags 1) offsets) (λ order. done (g version flags index heap names order)))))))))
indexed_met refusal w offsets f g =
    tied_number (λ version.
    tied_check (eqb version 0) 0 (λ e.
    tied_checked (eqb version 0) refusal e (
    tied_number (λ flags.
    tied_bind (cond_met (bit flags 0) w) (λ index n _.
    tied_bind (address_met offsets) (λ heap a _.
    tied_bind (address_met offsets) (λ names b _.
    tied_bind (cond_address_met (bit flags 1) offsets) (λ order c _.
    tied_done tt))))))))

link_info_met : (s : State) → Met (link_info s) (link_info_message s.size_of_offsets)
unfolding link_info link_info_message
link_info_met s = indexed_met 10 8 s.size_of_offsets _ _

pub link_info_is_read : (file : List ℕ) (s : State) (p q : ℕ) (x : LinkInfoMessage) → Stands file (link_info_message s.size_of_offsets) p q x → ReadAs SameLinkInfo (link_info s) file p q x
link_info_is_read file s p q x h = read_tied (link_info_tied s) file p q x h q (met (link_info_met s) file p q x h)

attribute_info_met : (s : State) → Met (attribute_info s) (attribute_info_message s.size_of_offsets)
unfolding attribute_info attribute_info_message
attribute_info_met s = indexed_met 18 2 s.size_of_offsets _ _

pub attribute_info_is_read : (file : List ℕ) (s : State) (p q : ℕ) (x : AttributeInfoMessage) → Stands file (attribute_info_message s.size_of_offsets) p q x → ReadAs SameAttributeInfo (attribute_info s) file p q x
attribute_info_is_read file s p q x h = read_tied (attribute_info_tied s) file p q x h q (met (attribute_info_met s) file p q x h)

-- group info
group_info_met : Met group_info group_info_message
unfolding group_info group_info_message
group_info_met =
    tied_number (λ version.
    tied_check (eqb version 0) 0 (λ e.
    tied_checked (eqb version 0) 15 e (
    tied_number (λ flags.
    tied_bind (cond_met (bit flags 0) 2) (λ compact n _.
    tied_bind (cond_met (bit flags 0) 2) (λ dense n _.
    tied_bind (cond_met (bit flags 1) 2) (λ entries n _.
    tied_bind (cond_met (bit flags 1) 2) (λ names n _.
    tied_done tt))))))))

pub group_info_is_read : (file : List ℕ) (p q : ℕ) (x : GroupInfoMessage) → Stands file group_info_message p q x → ReadAs SameGroupInfo group_info file p q x
group_info_is_read file p q x h = read_tied group_info_tied file p q x h q (met group_info_met file p q x h)

-- a size and a fill value
value_met : (test : Bool) → Met (pick test fill_value nothing) (size_and_fill_value_lem test)
unfolding fill_value size_and_fill_value_lem
value_met true = tied_number (λ size. tied_from_raw (λ x. tied_done tt))
value_met false = tied_done tt

old_met : Met fill_value fill_value_old
unfolding fill_value fill_value_old
old_met = tied_number (λ size. tied_from_raw (λ x. tied_done tt))

pub fill_value_old_is_read : (file : List ℕ) (p q : ℕ) (x : FillValueOld) → Stands file fill_value_old p q x → Reads file fill_value p q
fill_value_old_is_read file p q x h = met old_met file p q x h

module _ (s : List ℕ) where
  -- in versions 1 and 2 the value is there where it is defined
  value_there : (v d : ℕ) → (eqb v 1 || eqb v 2) ≡ true → d ≤ 1 → (v ≡ 1 → d ≡ 1) → not (ltb 1 v && eqb d 0) ≡ eqb d 1
  value_there v d e l f = go (eqb v 1) (eqb v 2) refl refl e
    where
      one : d ≡ 1 → not (ltb 1 v && eqb d 0) ≡ eqb d 1
      one i = rw i (turn (ltb 1 v))
        where
          turn : (t : Bool) → not (t && false) ≡ true
          turn true = refl
          turn false = refl

      two : v ≡ 2 → (t : Bool) → eqb d 1 ≡ t → not (ltb 1 v && eqb d 0) ≡ eqb d 1
      two i true k = one (eqb-true d 1 k)
      two i false k = let z : d ≡ 0 = omega (arith, l, eqb-false d 1 k) in rw (i, z)

      go : (a b : Bool) → eqb v 1 ≡ a → eqb v 2 ≡ b → (a || b) ≡ true → not (ltb 1 v && eqb d 0) ≡ eqb d 1
      go true b i k h = one (f (eqb-true v 1 i))
      go false true i k h = two (eqb-true v 2 k) (eqb d 1) refl
      go false false i k h = let z : ◌≡◌ {A = ℕ} 0 1 = cc in absurd (omega arith)

  -- what ends elsewhere ends here, and a value by a test that is another
  upto : {A : Type 0} (F : Format A) (p m q : ℕ) → m ≡ q → Reads s F p m → Reads s F p q
  upto F p m q e r = rw e at r

  value_read : (a b : Bool) (p m q : ℕ) (x : SizeAndFillValue) → a ≡ b → m ≡ q → Stands s (size_and_fill_value_lem a) p m x → Reads s (pick b fill_value nothing) p q
  value_read a b p m q x e d h = let i : Stands s (size_and_fill_value_lem b) p m x = rw e at h in upto (pick b fill_value nothing) p m q d (met (value_met b) s p m x i)

  moved : (d d' p p' q : ℕ) → d' ≡ d → p' ≡ p → Reads s (pick (eqb d 1) fill_value nothing) p q → Reads s (pick (eqb d' 1) fill_value nothing) p' q
  moved d d' p p' q e f h = rw (e, f) h

  -- the fields of versions 1 and 2
  fields12_stand : (p q : ℕ) → p + 1 ≤ length s → p + 1 + 1 ≤ length s → p + 1 + 1 + 1 ≤ length s
      → (le s p 1 ≡ 2) ⊎ (le s p 1 ≡ 3) → le s (p + 1) 1 ≡ 2 → le s (p + 1 + 1) 1 ≤ 1
      → Reads s (pick (eqb (le s (p + 1 + 1) 1) 1) fill_value nothing) (p + 1 + 1 + 1) q → Reads s fill12 p q
  unfolding fill12
  fields12_stand p q a b c t w d h = (h.0, (a, rw (time (le s p 1) t) (b, rw w (c, rw (le-leb _ 1 d) h.1))))
    where
      time : (n : ℕ) → (n ≡ 2) ⊎ (n ≡ 3) → (eqb n 2 || eqb n 3) ≡ true
      time n (inl e) = rw e
      time n (inr e) = rw e

  fill12_read : (p q : ℕ) (x : FillValue12) → Stands s fill_value12 p q x → ReadFill12 x → Reads s fill12 (p + 1) q
  unfolding fill_value12 fill_fields12
  fill12_read p q x h r =
      let a = stands_bind s fill_fields12 _ p q x h in
      let c = stands_check s (eqb (le s p 1) 1 || eqb (le s p 1) 2) 0 _ (p + 1) a.0 a.1 a.2.1 in
      let b = stands_bind s (size_and_fill_value_lem (not (ltb 1 a.1.version && eqb a.1.fill_value_defined 0))) _ a.0 q x a.3 in
      let e = c.1.1.1.1.1 in
      let r' : ReadFill12 (record { fields = a.1; size_and_value = b.1 }) = rw (← b.3.1) at r in
      let v : (eqb a.1.version 1 || eqb a.1.version 2) ≡ true = rw (ap (λ (y : FillFields12). y.version) e) at c.0 in
      let t = value_there a.1.version a.1.fill_value_defined v r'.defined r'.in_version_1 in
      let k = value_read (not (ltb 1 a.1.version && eqb a.1.fill_value_defined 0)) (eqb a.1.fill_value_defined 1) a.0 b.0 q b.1 t b.3.0 b.2 in
      let m = moved a.1.fill_value_defined (le s (p + 1 + 1 + 1) 1) a.0 (p + 1 + 1 + 1 + 1) q (ap (λ (y : FillFields12). y.fill_value_defined) e) c.1.1.1.1.0 k in
      fields12_stand (p + 1) q c.1.0 c.1.1.0 c.1.1.1.0
      (rw (← ap (λ (y : FillFields12). y.space_allocation_time) e) at r'.allocation)
      (ap (λ (y : FillFields12). y.fill_value_write_time) e ∙ r'.write_time)
      (rw (← ap (λ (y : FillFields12). y.fill_value_defined) e) at r'.defined)
      m

  fill3_read : (p q : ℕ) (x : FillValue3) → Stands s fill_value3 p q x → Reads s fill3 (p + 1) q
  unfolding fill_value3 fill3
  fill3_read p q x h =
      let c = stands_check s (eqb (le s p 1) 3) 0 _ (p + 1) q x h.1 in
      let b = stands_bind s (size_and_fill_value_lem (bit (le s (p + 1) 1) 5)) _ (p + 1 + 1) q x c.1.1 in
      let k = value_read (bit (le s (p + 1) 1) 5) (bit (le s (p + 1) 1) 5) (p + 1 + 1) b.0 q b.1 refl b.3.0 b.2 in
      (k.0, (c.1.0, k.1))

  fill_read : (p q : ℕ) (x : FillValue) → Stands s fill_value_message p q x → ReadFill x → Reads s fill p q
  unfolding fill_value_message by_version marked fill
  fill_read p q x h r = go (eqb h.1 1 || eqb h.1 2) (eqb h.1 3) refl refl h.3
    where
      go : (one three : Bool) → (eqb h.1 1 || eqb h.1 2) ≡ one → eqb h.1 3 ≡ three
          → Stands s (pick one (marked versions_1_and_2 fill_value12) (pick three (marked version_3 fill_value3) (refuse 0))) p q x → Reads s fill p q
      go true three e f i =
          let c = stands_bind s fill_value12 (λ y. done (versions_1_and_2 y)) p q x i in
          let d = fill12_read p q c.1 (rw c.3.0 at c.2) (rw (← c.3.1) at r) in
          (d.0, (h.2.0, rw (h.2.1.1, e) d.1))
      go false true e f i =
          let c = stands_bind s fill_value3 (λ y. done (version_3 y)) p q x i in
          let d = fill3_read p q c.1 (rw c.3.0 at c.2) in
          (d.0, (h.2.0, rw (h.2.1.1, e, f) d.1))
      go false false e f i = absurd i

pub fill_value_is_read : (file : List ℕ) (p q : ℕ) (x : FillValue) → Stands file fill_value_message p q x → ReadFill x → Reads file fill p q
fill_value_is_read = fill_read
