-- A layout and a continuation of the specification are read, where the conditions of `ReadMessages` hold of them. Assumes nothing.
use Rattle.std.specs.Prelude.{ℕ, ◌+◌, ◌≤◌, ◌<◌, ◌≡◌, Bool, ◌&&◌, List, eqb, leb, ltb, Some}
use Rattle.std.proofs.Math.Path.{refl, ap}
use Rattle.std.proofs.Common.{sym, ◌∙◌, arith}
use Rattle.std.proofs.Math.Bool.{true, false}
use Rattle.std.proofs.Math.ListN.{length}
use borrow.Author.Tests.{lt-ltb, le-leb, ltb-true}
use Rattle.format.specs.Bools.{and_left, and_right}
use Rattle.format.specs.Bytes.{le, all_ones}
use Rattle.format.specs.Format.{done, refuse, bytes, there, bind, pick, nothing, Stands}
use Rattle.format.specs.Standing.{stands_bind, stands_check}
use Rattle.records.specs.declared.Address.{Address}
use Rattle.records.specs.declared.Address.TheVariants as addresses
use Rattle.records.specs.declared.DataLayout.{DataLayout}
use Rattle.records.specs.Defaults.{empty_part}
use Rattle.helpers.specs.Addresses.{address, address_of, defined_address}
use Rattle.parser.specs.declared.State.{State}
use Rattle.parser.specs.States.{address_valid}
use Rattle.ohdr_layout.specs.DataLayouts as ours
use Rattle.ohdr_layout.specs.DataLayouts.{contiguous_part, data_from, raw_data_lem, data_layout}
use Rattle.ohdr_entry.specs.Continuations.{continuation}
use Rattle.standard.specs.Fields as standard
use Rattle.standard.specs.Fields.{defined}
use Rattle.standard.specs.Tie.{tied_done, tied_number}
use Rattle.standard.specs.Converse.{Reads, ReadAs, read_tied, Met, met, tied_from_raw}
use Rattle.standard.specs.Versions.{marked}
use Rattle.standard.specs.Headers.{ContinuationMessage, continuation_message}
use Rattle.standard.specs.Storage.{compact_storage, ContiguousStorage, contiguous_storage, LayoutProperties, compact, contiguous, layout_properties, DataLayout3, data_layout3}
use Rattle.standard_messages.proofs.Addresses.{address_of_lem}
use Rattle.standard_messages.specs.Same.{address_in, SameContinuation, SameLayout}
use Rattle.standard_messages.proofs.Infos.{continuation_tied}
use Rattle.standard_messages.proofs.Layouts.{data_layout_tied}
use Rattle.standard_messages.specs.ReadMessages.{ReadContiguous, ReadLayout, ReadContinuation}

-- the specification's address of which ours is a number
number_in : (a : standard.Address) (n : ℕ) → address_in a ≡ addresses.Number n → a ≡ defined n
number_in standard.undefined n e = let z : ◌≡◌ {A = ℕ} 0 1 = cc in absurd (omega arith)
number_in (standard.defined m) n e = let d : m ≡ n = cc in ap defined d

-- the number of an address that is not undefined
is_defined : (w n m : ℕ) → standard.address_of w n ≡ defined m → (eqb n (all_ones w) ≡ false) × (n ≡ m)
is_defined w n m = go (eqb n (all_ones w)) refl
  where
    go : (t : Bool) → eqb n (all_ones w) ≡ t → pick t standard.undefined (defined n) ≡ defined m → (eqb n (all_ones w) ≡ false) × (n ≡ m)
    go true e d = let z : ◌≡◌ {A = ℕ} 0 1 = cc in absurd (omega arith)
    go false e d = (e, cc)

compact_met : Met ours.compact compact_storage
unfolding ours.compact compact_storage
compact_met = tied_number (λ size. tied_from_raw (λ x. tied_done tt))

module _ (s : List ℕ) (st : State) where
  abbrev w : ℕ
  w = st.size_of_offsets

  abbrev l : ℕ
  l = st.size_of_lengths

  -- the data at an address: there are some only where they lie in the bytes that are given
  raw_read : (size : ℕ) (a : Address) (p q : ℕ) → p ≡ q → ((n : ℕ) → a ≡ addresses.Number n → 0 < n → n < st.end_of_file_address → n + size ≤ length s)
      → Reads s (bind (raw_data_lem st size a) (λ raw_data. done {A = DataLayout} (record { address = Some a; «data» = raw_data }))) p q
  unfolding raw_data_lem data_from bind
  raw_read size addresses.Undefined p q e f = (record { address = Some addresses.Undefined; «data» = empty_part }, (e, refl))
  raw_read size (addresses.Number n) p q e f = go (address_valid st n) refl
    where
      go : (t : Bool) → address_valid st n ≡ t
          → Reads s (bind (pick t (there n (bytes size nothing) (λ _. done (contiguous_part n size))) (done empty_part)) (λ raw_data. done {A = DataLayout} (record { address = Some (addresses.Number n); «data» = raw_data }))) p q
      go true d =
          let a = ltb-true 0 n (and_left (ltb 0 n) (ltb n st.end_of_file_address) d) in
          let b = ltb-true n st.end_of_file_address (and_right (ltb 0 n) (ltb n st.end_of_file_address) d) in
          (record { address = Some (addresses.Number n); «data» = contiguous_part n size }, (n + size, tt, (f n refl a b, (refl, refl)), (e, refl)))
      go false d = (record { address = Some (addresses.Number n); «data» = empty_part }, (e, refl))

  contiguous_read : (p q : ℕ) (x : ContiguousStorage) → Stands s (contiguous_storage w l) p q x → ReadContiguous s st x → Reads s (ours.contiguous st) p q
  unfolding bind address standard.address ours.contiguous contiguous_storage
  contiguous_read p q x h r =
      let size = le s (p + w) l in
      let e = h.1.1.1 in
      let es : size ≡ x.size = ap (λ (y : ContiguousStorage). y.size) e in
      let ea : standard.address_of w (le s p w) ≡ x.address = ap (λ (y : ContiguousStorage). y.address) e in
      let y = raw_read size (address_of w (le s p w)) (p + w + l) q h.1.1.0 (λ n d a b. rw es (r.inside n (sym ea ∙ number_in (standard.address_of w (le s p w)) n (sym (address_of_lem w (le s p w)) ∙ d)) a b)) in
      (y.0, (h.0, (h.1.0, rw (lt-ltb size 268435456 (rw es r.small)) y.1)))

  properties_read : (class p q : ℕ) (x : LayoutProperties) → Stands s (layout_properties w l class) p q x → ReadLayout s st x
      → Reads s (pick (eqb class 0) ours.compact (pick (eqb class 1) (ours.contiguous st) (pick (eqb class 2) (refuse 14) (refuse 13)))) p q
  unfolding layout_properties marked
  properties_read class p q x h r = go (eqb class 0) (eqb class 1) h
    where
      go : (a b : Bool) → Stands s (pick a (bind compact_storage (λ y. done (compact y))) (pick b (bind (contiguous_storage w l) (λ y. done (contiguous y))) (refuse 0))) p q x
          → Reads s (pick a ours.compact (pick b (ours.contiguous st) (pick (eqb class 2) (refuse 14) (refuse 13)))) p q
      go true b i =
          let c = stands_bind s compact_storage (λ y. done (compact y)) p q x i in
          met compact_met s p q c.1 (rw c.3.0 at c.2)
      go false true i =
          let c = stands_bind s (contiguous_storage w l) (λ y. done (contiguous y)) p q x i in
          contiguous_read p q c.1 (rw c.3.0 at c.2) (rw (← c.3.1) at r)
      go false false i = absurd i

  layout_stands : (p q : ℕ) → p + 1 ≤ length s → eqb (le s p 1) 3 ≡ true → p + 1 + 1 ≤ length s
      → Reads s (pick (eqb (le s (p + 1) 1) 0) ours.compact (pick (eqb (le s (p + 1) 1) 1) (ours.contiguous st) (pick (eqb (le s (p + 1) 1) 2) (refuse 14) (refuse 13)))) (p + 1 + 1) q
      → Reads s (data_layout st) p q
  unfolding data_layout
  layout_stands p q a e b y = (y.0, (a, rw e (b, y.1)))

  layout_read : (p q : ℕ) (x : DataLayout3) → Stands s (data_layout3 w l) p q x → ReadLayout s st x.properties → Reads s (data_layout st) p q
  unfolding data_layout3
  layout_read p q x h r =
      let c = stands_check s (eqb (le s p 1) 3) 0 _ (p + 1) q x h.1 in
      let b = stands_bind s (layout_properties w l (le s (p + 1) 1)) _ (p + 1 + 1) q x c.1.1 in
      let r' = rw (← b.3.1) at r in
      let y = properties_read (le s (p + 1) 1) (p + 1 + 1) q b.1 (rw b.3.0 at b.2) r' in
      layout_stands p q h.0 c.0 c.1.0 y

  pub data_layout_is_read : (p q : ℕ) (x : DataLayout3) → Stands s (data_layout3 w l) p q x → ReadLayout s st x.properties → ReadAs (SameLayout st) (data_layout st) s p q x
  data_layout_is_read p q x h r = read_tied (data_layout_tied st) s p q x h q (layout_read p q x h r)

  -- the continuation
  in_range : (offset length : ℕ) → 0 < offset → 8 ≤ length → offset + length ≤ st.end_of_file_address
      → (address_valid st offset ≡ true) × ((leb 8 length && leb (offset + length) st.end_of_file_address) ≡ true)
  in_range o n a b c = (rw (lt-ltb 0 o a, lt-ltb o st.end_of_file_address (omega arith)), rw (le-leb 8 n b, le-leb (o + n) st.end_of_file_address c))

  continuation_read : (p q offset : ℕ) (x : ContinuationMessage) → Stands s (continuation_message w l) p q x → ReadContinuation st offset x → Reads s (continuation st) p q
  unfolding bind address standard.address defined_address continuation continuation_message
  continuation_read p q offset x h r =
      let n = le s p w in
      let e = h.1.1.1 in
      let el : le s (p + w) l ≡ x.length = ap (λ (y : ContinuationMessage). y.length) e in
      let d = is_defined w n offset (ap (λ (y : ContinuationMessage). y.offset) e ∙ r.offset_defined) in
      let t = in_range n (le s (p + w) l) (rw d.1 r.above) (rw el r.least) (rw (d.1, el) r.within) in
      (record { offset = n; length = le s (p + w) l }, (h.0, rw (d.0, t.0) (h.1.0, rw t.1 (h.1.1.0, refl))))

  pub continuation_is_read : (p q offset : ℕ) (x : ContinuationMessage) → Stands s (continuation_message w l) p q x → ReadContinuation st offset x → ReadAs SameContinuation (continuation st) s p q x
  continuation_is_read p q offset x h r = read_tied (continuation_tied st) s p q x h q (continuation_read p q offset x h r)
