-- Without a table a header is refused with 3 to 23 or 28, by the tests of its fields, its messages and the walk. Assumes nothing.
use Prim.Native.Nat.{ℕ, zero, suc, ◌+◌, ◌-◌, ◌%◌}
use Rattle.std.specs.Prelude.{◌≡◌, Bool, true, false, not, ◌&&◌, ◌||◌, List, ◌++◌, length, replicate, set, leb, ltb}
use Rattle.std.proofs.Math.Path.{refl}
use Rattle.std.specs.Int.Bits.{bit_and}
use Rattle.std.proofs.Math.Dec.{eqb}
use Rattle.format.specs.Bits.{bit}
use Rattle.format.specs.Bytes.{all_ones}
use Rattle.format.specs.Format.{Format, done, refuse, number, Out, found, refused, read, nothing, bind, check}
use Rattle.format.specs.Refusals.{RefusedWith, RefusesWith}
use Rattle.records.specs.declared.Address.{Address}
use Rattle.records.specs.declared.Address.TheVariants as addresses
use Rattle.helpers.specs.Addresses.{address, defined, defined_address}
use Rattle.parser.specs.declared.State.{State}
use Rattle.parser.specs.States.{address_valid}
use Rattle.ohdr_info.specs.Info.{cond, cond_address, link_info, group_info, attribute_info}
use Rattle.ohdr_storage.specs.Storage.{fill_value, fill12, fill3, fill, filter1, filter2, filter_of, reserved, filter_pipeline}
use Rattle.ohdr_layout.specs.DataLayouts.{compact, data_from, raw_data_lem, contiguous, data_layout}
use Rattle.ohdr_member.specs.Members.{member1, member3, member_fields}
use Rattle.ohdr_datatype.specs.declared.DataTypeHeader.{DataTypeHeader}
use Rattle.ohdr_datatype.specs.DataTypes.{class_of, version_of, known_type, ieee, data_type_header, fixed_properties, float_properties, float_format, member, plain, list_properties, properties, type_layer, data_type, type_levels}
use Rattle.records.specs.declared.DataType.{DataType}
use Rattle.ohdr_dataspace.specs.DataSpaces.{dimension, dimensions_from, dimensions, maximum_sizes, data_space1, data_space2, data_space}
use Rattle.ohdr_attribute.specs.Attributes.{name_and_value, encoding, attribute_fields, attribute}
use Rattle.grammar.specs.Message.{Held, message, continuation as continued}
use Rattle.grammar.specs.Grammar.{Source, Item, ochk, block_levels, block_end, header_end}
use Rattle.grammar.specs.Walk.{choose, Went, reached, stopped, and_then, begun, Count, counted, opened, without_table, start, hold, entry_by, run_by, block_by, entry_at, run_at, walk}
use Rattle.ohdr_entry.specs.Continuations.{continuation}
use Rattle.ohdr_entry.specs.declared.Prefix.{Prefix}
use Rattle.ohdr_entry.specs.Entries.{plain_body, layout_body, attribute_body, body, creation_order, prefix, message_held, continuation_held, closed, entry}
use Rattle.ohdr_walk.specs.Sources.{source}
use Rattle.data_object_header.specs.Headers.{ohdr, header_fields, header}
use Rattle.data_object_theorems.specs.Refusals.{of_header}
use Rattle.format.specs.RefusalLaws.{read_refused, bind_refuses, times_refuses, pick_refuses, check_refuses}

abbrev As : {A : Type 0} → Format A → Type 0
As F = RefusesWith of_header F

-- fields that several messages have
address_as : (w : ℕ) → As (address w)
unfolding address
address_as w = λ n. tt

cond_as : (t : Bool) (w : ℕ) → As (cond t w)
unfolding cond
cond_as t w = pick_refuses of_header t (number w done) (done 0) (λ v. tt) tt

cond_address_as : (t : Bool) (w : ℕ) → As (cond_address t w)
unfolding cond_address
cond_address_as t w = pick_refuses of_header t (address w) (done (addresses.Number 0)) (address_as w) tt

-- flags, an index of w bytes where bit 0 brings it, two addresses, and a third where bit 1 does: what link info and attribute info are made of
indexed_as : {A : Type 0} (n w offsets : ℕ) (f : ℕ → ℕ → Address → Address → Address → A) → of_header n ≡ true
    → As (number 1 (λ version. check (eqb version 0) n (number 1 (λ flags. bind (cond (bit flags 0) w) (λ i. bind (address offsets) (λ a. bind (address offsets) (λ b. bind (cond_address (bit flags 1) offsets) (λ c. done (f flags i a b c)))))))))
indexed_as n w offsets f e = λ version. check_refuses of_header (eqb version 0) n _ e (λ flags.
    bind_refuses of_header (cond (bit flags 0) w) _ (cond_as (bit flags 0) w) (λ _.
    bind_refuses of_header (address offsets) _ (address_as offsets) (λ _.
    bind_refuses of_header (address offsets) _ (address_as offsets) (λ _.
    bind_refuses of_header (cond_address (bit flags 1) offsets) _ (cond_address_as (bit flags 1) offsets) (λ _. tt)))))

-- each message
link_info_as : (s : State) → As (link_info s)
unfolding link_info
link_info_as s = indexed_as 10 8 s.size_of_offsets _ refl

group_info_as : As group_info
unfolding group_info
group_info_as = λ version. check_refuses of_header (eqb version 0) 15 _ refl (λ flags.
    bind_refuses of_header (cond (bit flags 0) 2) _ (cond_as (bit flags 0) 2) (λ _.
    bind_refuses of_header (cond (bit flags 0) 2) _ (cond_as (bit flags 0) 2) (λ _.
    bind_refuses of_header (cond (bit flags 1) 2) _ (cond_as (bit flags 1) 2) (λ _.
    bind_refuses of_header (cond (bit flags 1) 2) _ (cond_as (bit flags 1) 2) (λ _. tt)))))

attribute_info_as : (s : State) → As (attribute_info s)
unfolding attribute_info
attribute_info_as s = indexed_as 18 2 s.size_of_offsets _ refl

fill_value_as : As fill_value
unfolding fill_value
fill_value_as = λ size. tt

fill_12_as : As fill12
unfolding fill12
fill_12_as = λ allocation. check_refuses of_header (eqb allocation 2 || eqb allocation 3) 12 _ refl (λ write.
    check_refuses of_header (eqb write 2) 12 _ refl (λ defined.
    check_refuses of_header (leb defined 1) 12 _ refl (
    pick_refuses of_header (eqb defined 1) fill_value nothing fill_value_as tt)))

fill_3_as : As fill3
unfolding fill3
fill_3_as = λ flags. pick_refuses of_header (bit flags 5) fill_value nothing fill_value_as tt

fill_as : As fill
unfolding fill
fill_as = λ version. pick_refuses of_header (eqb version 1 || eqb version 2) fill12 _ fill_12_as (pick_refuses of_header (eqb version 3) fill3 _ fill_3_as refl)

filter_1_as : As filter1
unfolding filter1
filter_1_as = λ _ _ _ n. check_refuses of_header (leb n 4096) 16 _ refl tt

filter_2_as : As filter2
unfolding filter2
filter_2_as = λ _ _ n. check_refuses of_header (leb n 4096) 16 _ refl tt

filter_as : (version : ℕ) → As (filter_of version)
unfolding filter_of
filter_as version = pick_refuses of_header (eqb version 1) filter1 filter2 filter_1_as filter_2_as

reserved_as : (version : ℕ) → As (reserved version)
unfolding reserved
reserved_as version = pick_refuses of_header (eqb version 1) _ nothing (λ zeros. check_refuses of_header (eqb zeros 0) 16 nothing refl tt) tt

filters_as : As filter_pipeline
unfolding filter_pipeline
filters_as = λ version. check_refuses of_header (eqb version 1 || eqb version 2) 16 _ refl (λ n.
    check_refuses of_header (ltb n 32) 16 _ refl (
    bind_refuses of_header (reserved version) _ (reserved_as version) (λ _. times_refuses of_header n (filter_of version) nothing (filter_as version) tt)))

raw_data_as : (s : State) (size : ℕ) (a : Address) → As (raw_data_lem s size a)
unfolding raw_data_lem data_from
raw_data_as s size addresses.Undefined = tt
raw_data_as s size (addresses.Number n) = pick_refuses of_header (address_valid s n) _ _ (tt, λ _. tt) tt

contiguous_as : (s : State) → As (contiguous s)
unfolding contiguous
contiguous_as s = bind_refuses of_header (address s.size_of_offsets) _ (address_as s.size_of_offsets) (λ a size.
    check_refuses of_header (ltb size 268435456) 13 _ refl (
    bind_refuses of_header (raw_data_lem s size a) _ (raw_data_as s size a) (λ _. tt)))

layout_as : (s : State) → As (data_layout s)
unfolding data_layout compact
layout_as s = λ version. check_refuses of_header (eqb version 3) 13 _ refl (λ class.
    pick_refuses of_header (eqb class 0) compact _ (λ size. tt) (
    pick_refuses of_header (eqb class 1) (contiguous s) _ (contiguous_as s) (
    pick_refuses of_header (eqb class 2) (refuse 14) (refuse 13) refl refl)))

type_header_as : As data_type_header
unfolding data_type_header
type_header_as = λ cv. check_refuses of_header (known_type cv) 11 _ refl (λ bits size. check_refuses of_header (ltb size 64) 11 _ refl tt)

float_as : As float_format
unfolding float_format float_properties
float_as = bind_refuses of_header float_properties _ (λ _ _ _ _ _ _ _. tt) (λ f. check_refuses of_header (ieee f) 11 _ refl tt)

member_fields_as : (version size : ℕ) → As (member_fields version size)
unfolding member_fields member3 member1
member_fields_as version size = pick_refuses of_header (eqb version 3) (member3 size) member1 (λ _. pick_refuses of_header (ltb 0 size) _ nothing (λ _. tt) tt)
    (λ _ _ dimensionality. check_refuses of_header (eqb dimensionality 0) 11 _ refl (λ _ _ _ _ _. tt))

module _ (T : Format DataType) (inner : As T) where
  properties_as : (h : DataTypeHeader) → As (properties h T)
  unfolding properties fixed_properties plain member list_properties
  properties_as h =
      let class = class_of h.class_and_version in
      let version = version_of h.class_and_version in
      pick_refuses of_header (eqb class 0) fixed_properties _ (λ _ _. tt) (
      pick_refuses of_header (eqb class 1) float_format _ float_as (
      pick_refuses of_header (eqb class 3 || eqb class 7) plain _ tt (
      pick_refuses of_header (eqb class 6) _ _
      (times_refuses of_header (h.class_bit_field % 65536) (member version h.size T) plain
      (bind_refuses of_header (member_fields version h.size) _ (member_fields_as version h.size) (λ _. bind_refuses of_header T _ inner (λ _. tt))) tt) (
      pick_refuses of_header (eqb class 9) (list_properties T) (refuse 11) (bind_refuses of_header T _ inner (λ _. tt)) refl))))

  layer_as : As (type_layer T)
  unfolding type_layer
  layer_as = bind_refuses of_header data_type_header _ type_header_as (λ h. bind_refuses of_header (properties h T) _ (properties_as h) (λ _. tt))

type_as : (levels : ℕ) → As (data_type levels)
unfolding data_type
type_as zero = refl
type_as (suc levels) = layer_as (data_type levels) (type_as levels)

dimension_as : (w : ℕ) (maximum : Bool) → As (dimension w maximum)
unfolding dimension
dimension_as w maximum = λ size. check_refuses of_header (leb size 1000000 || (maximum && eqb size (all_ones w))) 9 _ refl tt

dimensions_from_as : (n w : ℕ) (maximum : Bool) (i : ℕ) (sizes : List ℕ) → As (dimensions_from n w maximum i sizes)
unfolding dimensions_from
dimensions_from_as zero w maximum i sizes = tt
dimensions_from_as (suc n) w maximum i sizes = bind_refuses of_header (dimension w maximum) _ (dimension_as w maximum) (λ size. dimensions_from_as n w maximum (i + 1) (set sizes i size))

dimensions_as : (n w : ℕ) (maximum : Bool) → As (dimensions n w maximum)
unfolding dimensions
dimensions_as n w maximum = bind_refuses of_header (dimensions_from n w maximum 0 (replicate 4 0)) _ (dimensions_from_as n w maximum 0 (replicate 4 0)) (λ _. tt)

maximum_sizes_as : (n w : ℕ) (present : Bool) → As (maximum_sizes n w present)
unfolding maximum_sizes
maximum_sizes_as n w present = pick_refuses of_header present (dimensions n w true) _ (dimensions_as n w true) tt

space_1_as : (w : ℕ) → As (data_space1 w)
unfolding data_space1
space_1_as w = λ n. check_refuses of_header (leb n 4) 9 _ refl (λ flags.
    check_refuses of_header (not (bit flags 1)) 9 _ refl (
    bind_refuses of_header (dimensions n w false) _ (dimensions_as n w false) (λ _.
    bind_refuses of_header (maximum_sizes n w (bit flags 0)) _ (maximum_sizes_as n w (bit flags 0)) (λ _. tt))))

space_2_as : (w : ℕ) → As (data_space2 w)
unfolding data_space2
space_2_as w = λ n. check_refuses of_header (leb n 4) 9 _ refl (λ flags type.
    bind_refuses of_header (dimensions n w false) _ (dimensions_as n w false) (λ _.
    bind_refuses of_header (maximum_sizes n w (bit flags 0)) _ (maximum_sizes_as n w (bit flags 0)) (λ _. tt)))

space_as : (s : State) → As (data_space s)
unfolding data_space
space_as s = λ version. pick_refuses of_header (eqb version 1) (data_space1 s.size_of_lengths) _ (space_1_as s.size_of_lengths) (
    pick_refuses of_header (eqb version 2) (data_space2 s.size_of_lengths) (refuse 9) (space_2_as s.size_of_lengths) refl)

attribute_fields_as : As attribute_fields
unfolding attribute_fields encoding
attribute_fields_as = λ version. check_refuses of_header (eqb version 1 || eqb version 3) 17 _ refl (λ flags size.
    check_refuses of_header (leb size 4096) 17 _ refl (λ _ _.
    bind_refuses of_header (encoding version) _ (pick_refuses of_header (eqb version 3) _ nothing (λ _. tt) tt) (λ _. tt)))

attribute_as : (s : State) → As (attribute s)
unfolding attribute name_and_value
attribute_as s = bind_refuses of_header attribute_fields _ attribute_fields_as (λ f _ _. (λ _. tt, tt))

continuation_as : (s : State) → As (continuation s)
unfolding continuation defined_address
continuation_as s = bind_refuses of_header (defined_address s.size_of_offsets 19) _ (bind_refuses of_header (address s.size_of_offsets) (defined 19) (address_as s.size_of_offsets) defined_as) (λ offset.
    check_refuses of_header (address_valid s offset) 19 _ refl (λ length.
    check_refuses of_header (leb 8 length && leb (offset + length) s.end_of_file_address) 19 _ refl tt))
  where
    defined_as : (a : Address) → As (defined 19 a)
    defined_as addresses.Undefined = refl
    defined_as (addresses.Number n) = tt

-- an entry by itself
plain_body_as : (s : State) (type : ℕ) → As (plain_body s type)
unfolding plain_body
plain_body_as s type =
    pick_refuses of_header (eqb type 1) _ _ (bind_refuses of_header (data_space s) _ (space_as s) (λ _. tt)) (
    pick_refuses of_header (eqb type 2) _ _ (bind_refuses of_header (link_info s) _ (link_info_as s) (λ _. tt)) (
    pick_refuses of_header (eqb type 3) _ _ (bind_refuses of_header (data_type type_levels) _ (type_as type_levels) (λ _. tt)) (
    pick_refuses of_header (eqb type 4) _ _ (bind_refuses of_header fill_value _ fill_value_as (λ _. tt)) (
    pick_refuses of_header (eqb type 5) _ _ (bind_refuses of_header fill _ fill_as (λ _. tt)) (
    pick_refuses of_header (eqb type 10) _ _ (bind_refuses of_header group_info _ group_info_as (λ _. tt)) (
    pick_refuses of_header (eqb type 11) _ _ (bind_refuses of_header filter_pipeline _ filters_as (λ _. tt)) (
    pick_refuses of_header (eqb type 21) _ _ (bind_refuses of_header (attribute_info s) _ (attribute_info_as s) (λ _. tt)) tt)))))))

body_as : (s : State) (type : ℕ) → As (body s type)
unfolding body layout_body attribute_body
body_as s type =
    pick_refuses of_header (eqb type 8) _ _ (bind_refuses of_header (data_layout s) _ (layout_as s) (λ _. tt)) (
    pick_refuses of_header (eqb type 12) _ _ (bind_refuses of_header (attribute s) _ (attribute_as s) (λ _. tt)) (
    plain_body_as s type))

closed_as : (F : State → Prefix → ℕ → Format Held) (s : State) (x : Prefix) (b : ℕ) → As (F s x b) → As (closed F s x b)
unfolding closed
closed_as F s x b h = bind_refuses of_header (F s x b) _ h (λ _ _. tt)

prefix_as : (flags : ℕ) → As (prefix flags)
unfolding prefix creation_order
prefix_as header-flags = λ _ _ flags. check_refuses of_header (eqb (bit_and flags 0b11111010) 0) 8 _ refl (
    bind_refuses of_header (creation_order header-flags) _ (pick_refuses of_header (bit header-flags 2) _ nothing (λ _. tt) tt) (λ _. tt))

entry_as : (s : State) (flags : ℕ) → As (entry s flags)
unfolding entry message_held continuation_held
entry_as s flags = bind_refuses of_header (prefix flags) _ (prefix_as flags) (λ x b.
    pick_refuses of_header (eqb x.kind 16) _ _
    (closed_as continuation_held s x b (bind_refuses of_header (continuation s) _ (continuation_as s) (λ _. tt)))
    (closed_as message_held s x b (bind_refuses of_header (body s x.kind) _ (body_as s x.kind) (λ _. tt))))

-- the same of what a walk gives
abbrev pub StopsWith : {A : Type 0} → Went A → Type 0
StopsWith (reached a q) = Unit {0}
StopsWith (stopped r n) = of_header r ≡ true

then_as : {A B : Type 0} (w : Went A) (k : A → ℕ → Went B) → StopsWith w → ((a : A) (q : ℕ) → StopsWith (k a q)) → StopsWith (and_then w k)
then_as (reached a q) k h g = g a q
then_as (stopped r n) k h g = h

begun_as : {A : Type 0} (n : ℕ) (o : Out A) → RefusedWith of_header o → StopsWith (begun n o)
begun_as n (found a q) h = tt
begun_as n (refused r) h = h

choose_as : {A : Type 0} (t : Bool) (a b : Unit {0} → Went A) → StopsWith (a tt) → StopsWith (b tt) → StopsWith (choose t a b)
choose_as true a b h g = h
choose_as false a b h g = g

-- a walk without a table
module _ (src : Source) (one : As src.entry) where
  reads : {A : Type 0} (n : ℕ) (F : Format A) (p : ℕ) → As F → StopsWith (begun n (read src.file F p))
  reads n F p h = begun_as n (read src.file F p) (read_refused of_header refl src.file F p h)

  hold_as : (block : Count → ℕ → ℕ → Went (List Item)) → ((s : Count) (o n : ℕ) → StopsWith (block s o n)) → (s : Count) (p : ℕ) (x : Held) (q : ℕ) → StopsWith (hold src without_table block s p x q)
  unfolding hold
  hold_as block b s p (message m) q = tt
  hold_as block b s p (continued o n) q = then_as (block (opened s) o n) _ (b (opened s) o n) (λ _ _. tt)

  entry_by_as : (block : Count → ℕ → ℕ → Went (List Item)) → ((s : Count) (o n : ℕ) → StopsWith (block s o n)) → (p : ℕ) (s : Count) → StopsWith (entry_by src without_table block p s)
  unfolding entry_by
  entry_by_as block b p s =
      choose_as (ltb s.entries 4096) _ _
      (then_as (begun (s.entries + 1) (read src.file src.entry p)) (hold src without_table block s p) (reads (s.entries + 1) src.entry p one) (hold_as block b s p))
      refl

  run_by_as : (by : ℕ → Count → Went (List Item)) → ((p : ℕ) (s : Count) → StopsWith (by p s)) → (turns e p : ℕ) (s : Count) → StopsWith (run_by src without_table by turns e p s)
  unfolding run_by
  run_by_as by h zero e p s = refl
  run_by_as by h (suc turns) e p s =
      choose_as (leb (p + src.prefix) e) _ _
      (then_as (by p s) (λ xs m. and_then (run_by src without_table by turns e m (counted s xs)) (λ ys q. reached (xs ++ ys) q)) (h p s) (λ xs m.
      then_as (run_by src without_table by turns e m (counted s xs)) (λ ys q. reached (xs ++ ys) q) (run_by_as by h turns e m (counted s xs)) (λ _ _. tt)))
      tt

  block_by_as : (by : ℕ → Count → Went (List Item)) → ((p : ℕ) (s : Count) → StopsWith (by p s)) → (s : Count) (o n : ℕ) → StopsWith (block_by src without_table by s o n)
  unfolding block_by ochk block_end
  block_by_as by h s o n =
      then_as (begun s.entries (read src.file ochk o)) _ (reads s.entries ochk o (λ v. check_refuses of_header (eqb v 0x4B48434F) 20 nothing refl tt)) (λ _ first.
      then_as (run_by src without_table by 4097 (o + n - 4) first s) _ (run_by_as by h 4097 (o + n - 4) first s) (λ xs q.
      then_as (begun (counted s xs).entries (read src.file (block_end src.sum o (o + n) q) q)) (λ _ m. reached xs m)
      (reads (counted s xs).entries (block_end src.sum o (o + n) q) q (check_refuses of_header (src.sum o (o + n - 4)) 28 nothing refl tt)) (λ _ _. tt)))

  entry_at_as : (levels p : ℕ) (s : Count) → StopsWith (entry_at src without_table levels p s)
  unfolding entry_at
  entry_at_as zero p s = entry_by_as (λ s o n. stopped 21 s.entries) (λ s o n. refl) p s
  entry_at_as (suc levels) p s = entry_by_as (block_by src without_table (entry_at src without_table levels)) (block_by_as (entry_at src without_table levels) (entry_at_as levels)) p s

  walk_as : (o e p : ℕ) → StopsWith (walk src without_table o e p)
  unfolding walk run_at header_end
  walk_as o e p =
      then_as (run_at src without_table block_levels e p start) _ (run_by_as (entry_at src without_table block_levels) (entry_at_as block_levels) 4097 e p start) (λ xs q.
      then_as (begun (length xs) (read src.file (header_end src.sum o e q) q)) (λ _ m. reached xs m)
      (reads (length xs) (header_end src.sum o e q) q (check_refuses of_header (src.sum o e) 28 nothing refl tt)) (λ _ _. tt))

fields_as : As header_fields
unfolding header_fields ohdr
fields_as = bind_refuses of_header ohdr _ (λ v. check_refuses of_header (eqb v 0x5244484F) 4 nothing refl tt) (λ _ version.
    check_refuses of_header (eqb version 2) 5 _ refl (λ flags.
    check_refuses of_header (not (bit flags 4)) 6 _ refl (λ size.
    check_refuses of_header (leb size 16777216) 7 _ refl tt)))

pub header_as : (file : List ℕ) (s : State) (at : ℕ) → StopsWith (header file s without_table at)
unfolding header
header_as file s at = then_as (begun 0 (read file header_fields at)) _ (begun_as 0 (read file header_fields at) (read_refused of_header refl file header_fields at fields_as)) (λ f start.
    walk_as (source file s f.flags) (entry_as s f.flags) at (start + f.size) start)
