-- A header of the specification of which the conditions of `ReadHeaders` hold has a reading, whose entries are its messages, one by one.
-- Assumes nothing.
use Rattle.std.specs.Prelude.{ℕ, suc, ◌+◌, ◌-◌, ◌%◌, ◌^◌, ◌≤◌, ◌<◌, Bool, List, [], ◌∷◌, ◌++◌, eqb}
use Rattle.std.proofs.Math.Path.{◌≡◌, refl, sym, ap}
use Rattle.std.proofs.Common.{◌∙◌}
use Rattle.std.proofs.Math.Bool.{true, false}
use native.Mathlib.Omega.{arith}
use Rattle.std.specs.Int.Bits.{bit_and}
use Rattle.std.proofs.Math.ListN.{length}
use borrow.Author.Tests.{eq-eqb, ne_eqb, le-leb}
use Rattle.format.specs.Bits.{bit}
use Rattle.format.specs.Bytes.{le}
use Rattle.format.specs.Covers.{forward}
use Rattle.format.specs.Format.{Format, done, skip, here, bind, pick, Stands}
use Rattle.format.specs.Standing.{stands_bind, stands_check, bind_stands}
use Rattle.records.specs.declared.Attribute as ours
use Rattle.records.specs.declared.Value.{Value}
use Rattle.parser.specs.declared.State.{State}
use Rattle.grammar.specs.Message.{Message, Held, Kept, message, continuation}
use Rattle.grammar.specs.Message as messages
use Rattle.grammar.specs.Grammar.{ochk, block_end, header_end, block_levels, Item, item, Run, Block, ends, goes, is_message, is_continuation, is_block}
use Rattle.lookup3.specs.Lookup3.{sum_matches}
use Rattle.lookup3.specs.Laws.{is_matches}
use Rattle.ohdr_datatype.specs.DataTypes.{data_type, type_levels}
use Rattle.ohdr_dataspace.specs.DataSpaces.{data_space}
use Rattle.ohdr_info.specs.Info.{link_info, group_info, attribute_info}
use Rattle.ohdr_storage.specs.Storage.{fill_old, fill, filter_pipeline}
use Rattle.ohdr_layout.specs.DataLayouts.{data_layout}
use Rattle.ohdr_entry.specs.declared.Prefix.{Prefix}
use Rattle.ohdr_entry.specs.declared.Continuation.{Continuation}
use Rattle.ohdr_entry.specs.Continuations as info
use Rattle.ohdr_entry.specs.Entries.{prefix_size, creation_order, prefix, plain_body, layout_body, attribute_body, body, message_held, continuation_held, closed, entry}
use Rattle.ohdr_walk.specs.Sources.{source}
use Rattle.data_object_header.specs.Headers.{ohdr, header_fields, HeaderReading}
use Rattle.standard.specs.Fields.{Optional, absent, present, raw, optional, defined}
use Rattle.standard.specs.Tie.{Every, tied_done, tied_number, tied_check, tied_pick}
use Rattle.standard.specs.Converse.{Reads, ReadAs, read_tied, Met, met, tied_checked}
use Rattle.standard.specs.Headers.{ObjectHeaderPrefix, size_of_size_of_chunk0, object_header_prefix, MessagePrefix, message_prefix, HeaderMessage, header_message, ContinuationMessage, continuation_message, continuation_signature}
use Rattle.standard.specs.Chunks.{ChecksumStands, Messages, gap, next, continued, block, ObjectHeader}
use Rattle.standard_messages.specs.ReadMessages.{ReadContinuation}
use Rattle.standard_messages.proofs.MessageReads.{link_info_is_read, group_info_is_read, attribute_info_is_read, fill_value_old_is_read, fill_value_is_read}
use Rattle.standard_messages.proofs.FilterReads.{filter_pipeline_is_read}
use Rattle.standard_messages.proofs.LayoutReads.{data_layout_is_read, continuation_is_read}
use Rattle.standard_datatype.proofs.TypeReads.{datatype_is_read}
use Rattle.standard_messages.proofs.SpaceReads.{dataspace_is_read}
use Rattle.standard_attribute.specs.Same.{SameName}
use Rattle.standard_attribute.proofs.Values.{fields1_read, fields3_read, attribute_is_read}
use Rattle.standard_attribute.proofs.Accepts.{attribute_accepted}
use Rattle.ohdr_attribute.specs.Attributes as attributes
use Rattle.ohdr_attribute.specs.Attributes.{padding, type_space_value, attribute_fields}
use Rattle.standard_header.specs.Same.{SameHeader, SamePrefix, SameContinued}
use Rattle.standard_header.specs.Is.{read_types}
use Rattle.standard_header.proofs.Prefixes.{header_tied, width_same, prefix_tied}
use Rattle.standard_header.specs.ReadHeaders.{ReadPrefix, ReadBody, dataspace, link_info_lem, datatype, fill_value_old_lem, fill_value, data_layout_lem, group_info_lem, attribute_info_lem, filter_pipeline_lem, attribute, attribute_of_version_1, attribute_of_version_3, not_read, ReadMessage, levels, block_levels_of, next_after}
use Rattle.standard_header.specs.AcceptedAs.{BodyAs, MessageAs, EntriesAs}
use Rattle.standard_header.proofs.AsLaws.{every_left, every_right, entries-append}

-- the prefix of an entry
creation_met : (header-flags : ℕ) → Met (creation_order header-flags) (optional (bit header-flags 2) 2)
unfolding creation_order optional
creation_met header-flags = tied_pick (bit header-flags 2) (λ _. tied_number (λ n. tied_done tt)) (λ _. tied_done tt)

module _ (file : List ℕ) (header-flags : ℕ) where
  prefix_reads : (p b : ℕ) (x : MessagePrefix) → Stands file (message_prefix header-flags) p b x → bit_and x.header_message_flags 0b11111010 ≡ 0 → Reads file (prefix header-flags) p b
  unfolding message_prefix prefix
  prefix_reads p b x h f =
      let c = stands_bind file (optional (bit header-flags 2) 2) _ (p + 1 + 2 + 1) b x h.1.1.1 in
      let k = met (creation_met header-flags) file (p + 1 + 2 + 1) c.0 c.1 c.2 in
      let e : bit_and (le file (p + 1 + 2) 1) 0b11111010 ≡ 0 = ap (λ (y : MessagePrefix). bit_and y.header_message_flags 0b11111010) c.3.1 ∙ f in
      let y : Prefix = record { kind = le file p 1; size = le file (p + 1) 2; flags = le file (p + 1 + 2) 1 } in
      (y, (h.0, (h.1.0, (h.1.1.0, rw (eq-eqb (bit_and (le file (p + 1 + 2) 1) 0b11111010) 0 e) (bind_stands file (creation_order header-flags) (λ _. done y) (p + 1 + 2 + 1) c.0 b k.0 y k.1 (c.3.0, refl))))))

  prefix_is_read : (p b : ℕ) (x : MessagePrefix) → Stands file (message_prefix header-flags) p b x → bit_and x.header_message_flags 0b11111010 ≡ 0 → ReadAs SamePrefix (prefix header-flags) file p b x
  prefix_is_read p b x h f = read_tied (prefix_tied header-flags) file p b x h b (prefix_reads p b x h f)

  -- a header message: its prefix up to b, and its data from there to its end
  record Data (p m : ℕ) (x : HeaderMessage) : Type 0 where
    b : ℕ
    prefix_stands : Stands file (message_prefix header-flags) p b x.prefix
    position : x.header_message_data.position ≡ b
    size : x.header_message_data.length ≡ x.prefix.size_of_header_message_data
    room : b + x.prefix.size_of_header_message_data ≤ length file
    end : b + x.prefix.size_of_header_message_data ≡ m

  data_of : (p m : ℕ) (x : HeaderMessage) → Stands file (header_message header-flags) p m x → Data p m x
  unfolding header_message raw bind
  data_of p m x h = go (stands_bind file (message_prefix header-flags) (λ y. bind (raw y.size_of_header_message_data) (λ d. done {A = HeaderMessage} (record { prefix = y; header_message_data = d }))) p m x h)
    where
      go : (b : ℕ) × (y : MessagePrefix) × Stands file (message_prefix header-flags) p b y × Stands file (bind (raw y.size_of_header_message_data) (λ d. done {A = HeaderMessage} (record { prefix = y; header_message_data = d }))) b m x → Data p m x
      go w =
          let e = w.3.1.1 in
          let y : Data p m (record { prefix = w.1; header_message_data = record { position = w.0; length = w.1.size_of_header_message_data } }) =
          record { b = w.0; prefix_stands = w.2; position = refl; size = refl; room = w.3.0; end = w.3.1.0 } in
          rw e at y

-- what is held, and the rest of the size
module _ (file : List ℕ) (s : State) where
  closed_stands : (F : State → Prefix → ℕ → Format Held) (x : Prefix) (b c m : ℕ) (v : Held) → Stands file (F s x b) b c v → c ≤ b + x.size → b + x.size ≤ length file → b + x.size ≡ m → Stands file (closed F s x b) b m v
  unfolding closed
  closed_stands F x b c m v h l r e = bind_stands file (F s x b) (λ h. here (λ c. skip (b + x.size - c) (done h))) b c m v v h (omega arith, (omega arith, refl))

  -- a body of ours within the data, and what is kept of it
  record BodyRead {b e type : ℕ} (r : ReadBody file s b e type) : Type 0 where
    c : ℕ
    k : Kept
    stands : Stands file (body s type) b c k
    within : c ≤ e
    related : BodyAs file s r k

  kept : {A : Type 0} (F : Format A) (con : A → Kept) (n b c e : ℕ) (r : ReadBody file s b e n) → body s n ≡ bind F (λ a. done (con a)) → c ≤ e → (w : Reads file F b c) → BodyAs file s r (con w.0) → BodyRead r
  kept F con n b c e r d l w x =
      let h : Stands file (bind F (λ a. done (con a))) b c (con w.0) = bind_stands file F (λ a. done (con a)) b c c w.0 (con w.0) w.1 (refl, refl) in
      record { c = c; k = con w.0; stands = rw d h; within = l; related = x }

  -- a type that is not read has no fields
  other : (type b e : ℕ) (h : Every (λ n. type ≡ n → ⊥) read_types) → b ≤ e → BodyRead {b = b} {e = e} {type = type} (not_read h)
  unfolding body plain_body
  other type b e h l =
      record {
        c = b;
        k = messages.nothing;
        stands = rw (ne_eqb type 8 h.1.1.1.1.1.0, ne_eqb type 12 h.1.1.1.1.1.1.1.1.0, ne_eqb type 1 h.0, ne_eqb type 2 h.1.0, ne_eqb type 3 h.1.1.0, ne_eqb type 4 h.1.1.1.0, ne_eqb type 5 h.1.1.1.1.0, ne_eqb type 10 h.1.1.1.1.1.1.0, ne_eqb type 11 h.1.1.1.1.1.1.1.0, ne_eqb type 21 h.1.1.1.1.1.1.1.1.1.0) (refl, refl);
        within = l;
        related = refl;
      }

  -- an attribute that is accepted by its name alone, with these fields before it
  named : (version n b m e : ℕ) (r : ReadBody file s b e 12) → Stands file attribute_fields b m (record { version = version; name_size = n }) → m + n + padding version n ≤ e → e ≤ length file
      → ((q : ℕ) (v : Value) → Stands file (type_space_value version s) (m + n + padding version n) q v → q ≤ e)
      → ((a : ours.Attribute) → SameName file a.name (record { position = m; length = n }) → BodyAs file s r (messages.attribute a)) → BodyRead r
  unfolding body attribute_body
  named version n b m e r h l i f g =
      let y = attribute_accepted file s version n b m e h l i f in
      kept (attributes.attribute s) messages.attribute 12 b y.c e r refl y.within (y.value, y.stands) (g y.value y.name)

  body_read : {b e type : ℕ} → b ≤ e → e ≤ length file → (r : ReadBody file s b e type) → BodyRead r
  unfolding body plain_body layout_body attribute_body
  body_read {b} {e} l r (dataspace c x h m u) = let y = dataspace_is_read file s b c x h u in kept (data_space s) messages.data_space 1 b c e (dataspace c x h m u) refl m (y.value, y.stands) (y.value, refl, y.related)
  body_read {b} {e} l r (link_info_lem c x h m) = let y = link_info_is_read file s b c x h in kept (link_info s) messages.link_info 2 b c e (link_info_lem c x h m) refl m (y.value, y.stands) (y.value, refl, y.related)
  body_read {b} {e} l r (datatype longest c x h m u) =
      let y = datatype_is_read file longest type_levels b c x h u in
      kept (data_type type_levels) messages.data_type 3 b c e (datatype longest c x h m u) refl m (y.value, y.stands) (y.value, refl, y.related)
  body_read {b} {e} l r (fill_value_old_lem c x h m) = kept fill_old (λ _. messages.nothing) 4 b c e (fill_value_old_lem c x h m) refl m (fill_value_old_is_read file b c x h) refl
  body_read {b} {e} l r (fill_value c x h m u) = kept fill (λ _. messages.nothing) 5 b c e (fill_value c x h m u) refl m (fill_value_is_read file b c x h u) refl
  body_read {b} {e} l r (data_layout_lem c x h m u) = let y = data_layout_is_read file s b c x h u in kept (data_layout s) messages.data_layout 8 b c e (data_layout_lem c x h m u) refl m (y.value, y.stands) (y.value, refl, y.related)
  body_read {b} {e} l r (group_info_lem c x h m) = let y = group_info_is_read file b c x h in kept group_info messages.group_info 10 b c e (group_info_lem c x h m) refl m (y.value, y.stands) (y.value, refl, y.related)
  body_read {b} {e} l r (attribute_info_lem c x h m) =
      let y = attribute_info_is_read file s b c x h in
      kept (attribute_info s) messages.attribute_info 21 b c e (attribute_info_lem c x h m) refl m (y.value, y.stands) (y.value, refl, y.related)
  body_read {b} {e} l r (filter_pipeline_lem c x h m u) = kept filter_pipeline (λ _. messages.nothing) 11 b c e (filter_pipeline_lem c x h m u) refl m (filter_pipeline_is_read file b c x h u) refl
  body_read {b} {e} l r (attribute longest c x h m u) =
      let y = attribute_is_read file s longest b c x h u in
      kept (attributes.attribute s) messages.attribute 12 b c e (attribute longest c x h m u) refl m (y.value, y.stands) (y.value, refl, y.related)
  body_read {b} {e} l r (attribute_of_version_1 m x h n k f) = named 1 x.name_size b m e (attribute_of_version_1 m x h n k f) (fields1_read file s b m x h n) k r f (λ a y. (a, refl, y))
  body_read {b} {e} l r (attribute_of_version_3 m x h n k f) = named 3 x.name_size b m e (attribute_of_version_3 m x h n k f) (fields3_read file s b m x h n) k r f (λ a y. (a, refl, y))
  body_read {b} {e} l r (not_read {type = type} h) = other type b e h l

module _ (file : List ℕ) (s : State) (header-flags : ℕ) where
  -- an entry whose prefix is read, and what it holds
  entry_stands : (p b m : ℕ) (y : Prefix) (v : Held) → Stands file (prefix header-flags) p b y
      → Stands file (pick (eqb y.kind 16) (closed continuation_held s y b) (closed message_held s y b)) b m v → Stands file (entry s header-flags) p m v
  unfolding entry
  entry_stands p b m y v h i = bind_stands file (prefix header-flags) (λ x. here (λ b. pick (eqb x.kind 16) (closed continuation_held s x b) (closed message_held s x b))) p b m y v h i

  -- a message of the specification is an entry of ours
  record MessageRead (p m : ℕ) (x : HeaderMessage) (r : ReadMessage file s x) : Type 0 where
    ours : Message
    stands : Stands file (entry s header-flags) p m (message ours)
    related : MessageAs file s x r ours

  -- the same body, by other names of its place and type
  moved : (type type' b b' c : ℕ) (k : Kept) → type ≡ type' → b ≡ b' → Stands file (body s type) b c k → Stands file (body s type') b' c k
  moved type type' b b' c k e d h = rw (← e, ← d) h

  message_from : (p b c m : ℕ) (x : HeaderMessage) (r : ReadMessage file s x) (y : Prefix) (k : Kept) → Stands file (prefix header-flags) p b y → SamePrefix y x.prefix → x.header_message_data.position ≡ b
      → b + y.size ≤ length file → b + y.size ≡ m → Stands file (body s y.kind) b c k → c ≤ b + y.size → (n : x.prefix.header_message_type ≡ 16 → ⊥) → BodyAs file s (r.body_read n) k → MessageRead p m x r
  unfolding message_held
  message_from p b c m x r y k h q e room u z l n w =
      let o : Message = record { type = y.kind; flags = y.flags; size = y.size; body = b; kept = k } in
      let i : Stands file (message_held s y b) b c (message o) = bind_stands file (body s y.kind) _ b c c k (message o) z (refl, refl) in
      let j = closed_stands file s message_held y b c m (message o) i l room u in
      record {
        ours = o;
        stands = entry_stands p b m y (message o) h (rw (ne_eqb y.kind 16 (λ e. n (sym q.header_message_type ∙ e))) j);
        related = record {
          same = record {
            header_message_type = q.header_message_type;
            size_of_header_message_data = q.size_of_header_message_data;
            header_message_flags = q.header_message_flags;
            header_message_data = sym e;
            no_continuation = n;
          };
          kept = w;
        };
      }

  message_is_read : (p m : ℕ) (x : HeaderMessage) → Stands file (header_message header-flags) p m x → (x.prefix.header_message_type ≡ 16 → ⊥) → (r : ReadMessage file s x) → MessageRead p m x r
  message_is_read p m x h n r =
      let d = data_of file header-flags p m x h in
      let y = prefix_is_read file header-flags p d.b x.prefix d.prefix_stands r.flags in
      let z = body_read file s (omega arith) (omega (arith, d.position, d.size, d.room)) (r.body_read n) in
      let l : z.c ≤ d.b + y.value.size = omega (arith, z.within, d.position, d.size, y.related.size_of_header_message_data) in
      message_from p d.b z.c m x r y.value z.k y.stands y.related d.position (omega (arith, d.room, y.related.size_of_header_message_data)) (omega (arith, d.end, y.related.size_of_header_message_data)) (moved x.prefix.header_message_type y.value.kind x.header_message_data.position d.b z.c z.k (sym y.related.header_message_type) d.position z.stands) l n z.related

  -- a continuation of the specification is one of ours
  record ContinuationRead (p m offset : ℕ) (c : ContinuationMessage) (x : HeaderMessage) : Type 0 where
    stands : Stands file (entry s header-flags) p m (continuation offset c.length)
    same : SameContinued file s offset c.length x

  continuation_from : (p b q m : ℕ) (y : Prefix) (v : Continuation) → Stands file (prefix header-flags) p b y → y.kind ≡ 16 → Stands file (info.continuation s) b q v → q ≤ b + y.size → b + y.size ≤ length file → b + y.size ≡ m
      → Stands file (entry s header-flags) p m (continuation v.offset v.length)
  unfolding continuation_held
  continuation_from p b q m y v h k i l r u =
      let j : Stands file (continuation_held s y b) b q (continuation v.offset v.length) = bind_stands file (info.continuation s) _ b q q v (continuation v.offset v.length) i (refl, refl) in
      entry_stands p b m y (continuation v.offset v.length) h (rw (eq-eqb y.kind 16 k) (closed_stands file s continuation_held y b q m (continuation v.offset v.length) j l r u))

  same_defined : {m n : ℕ} → defined m ≡ defined n → m ≡ n
  same_defined e = cc

  continuation_entry_is_read : (p m q offset : ℕ) (x : HeaderMessage) (c : ContinuationMessage) → Stands file (header_message header-flags) p m x → x.prefix.header_message_type ≡ 16
      → Stands file (continuation_message s.size_of_offsets s.size_of_lengths) x.header_message_data.position q c → c.offset ≡ defined offset → 8 ≤ c.length → ReadMessage file s x
      → ContinuationRead p m offset c x
  continuation_entry_is_read p m q offset x c h n i e l r =
      let d = data_of file header-flags p m x h in
      let y = prefix_is_read file header-flags p d.b x.prefix d.prefix_stands r.flags in
      let w = r.block_read q c offset n i e in
      let f : ReadContinuation s offset c = record { offset_defined = e; above = w.1; least = l; within = w.2 } in
      let a : Stands file (continuation_message s.size_of_offsets s.size_of_lengths) d.b q c = rw d.position at i in
      let v = continuation_is_read file s d.b q offset c a f in
      let eo : v.value.offset ≡ offset = same_defined (sym v.related.offset ∙ e) in
      let k = continuation_from p d.b q m y.value v.value y.stands (y.related.header_message_type ∙ n) v.stands (omega (arith, w.0, d.position, d.size, y.related.size_of_header_message_data)) (omega (arith, d.room, y.related.size_of_header_message_data)) (omega (arith, d.end, y.related.size_of_header_message_data)) in
      record {
        stands = renamed v.value.offset v.value.length offset c.length eo v.related.length k;
        same = record { header_message_type = n; upto = q; header_message_data = record { value = c; stands = i; related = record { offset = e; length = refl } } };
      }
    where
      renamed : (a b o n : ℕ) → a ≡ o → b ≡ n → Stands file (entry s header-flags) p m (continuation a b) → Stands file (entry s header-flags) p m (continuation o n)
      renamed a b o n e f h = rw (← e, ← f) h

-- a block's signature
ochk_met : Met ochk continuation_signature
unfolding ochk continuation_signature
ochk_met = tied_number (λ v. tied_check (eqb v 0x4B48434F) 0 (λ e. tied_checked (eqb v 0x4B48434F) 20 e (tied_done tt)))

signature_reads : (file : List ℕ) (p q n : ℕ) → Stands file continuation_signature p q n → Stands file ochk p q tt
signature_reads file p q n h = (met ochk_met file p q n h).1

signature_size : (file : List ℕ) (p q n : ℕ) → Stands file continuation_signature p q n → q ≡ p + 4
unfolding continuation_signature
signature_size file p q n h = sym (stands_check file (eqb (le file p 4) 0x4B48434F) 0 (done (le file p 4)) (p + 4) q n h.1).1.0

-- what closes a block, and a header
module _ (file : List ℕ) where
  block_closes : (o w q : ℕ) → 4 ≤ w → q ≤ w - 4 → ChecksumStands file o (w - 4) → Stands file (block_end (sum_matches file) o w q) q w tt
  unfolding block_end
  block_closes o w q l k c = (omega (arith, c.0), rw (is_matches file o (w - 4) c.1) (omega arith, refl))

  header_closes : (o e q : ℕ) → q ≤ e → ChecksumStands file o e → Stands file (header_end (sum_matches file) o e q) q (e + 4) tt
  unfolding header_end
  header_closes o e q k c = (omega (arith, c.0), (omega (arith, c.0), rw (is_matches file o e c.1) (omega arith, refl)))

-- the messages of a chunk, and of the blocks under it
module _ (file : List ℕ) (s : State) (header-flags : ℕ) where
  -- what is made of the messages of a chunk from p to e, at a level
  record RunRead (level p e : ℕ) (xs : List HeaderMessage) (r : Every (ReadMessage file s) xs) : Type 0 where
    last : ℕ
    within : last ≤ e
    items : List Item
    run : Run (source file s header-flags) level p e last items
    related : EntriesAs file s xs r items

  record BlockRead (level offset size : ℕ) (xs : List HeaderMessage) (r : Every (ReadMessage file s) xs) : Type 0 where
    items : List Item
    block_of : Block (source file s header-flags) level offset size items
    related : EntriesAs file s xs r items

  -- an entry's prefix lies before its end
  prefix_room : (p m : ℕ) (x : HeaderMessage) → Stands file (header_message header-flags) p m x → p + prefix_size header-flags ≤ m
  unfolding message_prefix optional
  prefix_room p m x h = let d = data_of file header-flags p m x h in go d.b d.prefix_stands (omega (arith, d.end))
    where
      order : (t : Bool) (p q : ℕ) (o : Optional ℕ) → Stands file (optional t 2) p q o → p + pick t 2 0 ≤ q
      order true p q o h = omega (arith, h.1.0)
      order false p q o h = omega (arith, h.0)

      sum : (t : Bool) (p : ℕ) → p + 1 + 2 + 1 + pick t 2 0 ≡ p + pick t 6 4
      sum true p = omega arith
      sum false p = omega arith

      go : (b : ℕ) → Stands file (message_prefix header-flags) p b x.prefix → b ≤ m → p + prefix_size header-flags ≤ m
      go b h l =
          let c = stands_bind file (optional (bit header-flags 2) 2) _ (p + 1 + 2 + 1) b x.prefix h.1.1.1 in
          let a = order (bit header-flags 2) (p + 1 + 2 + 1) c.0 c.1 c.2 in
          omega (arith, a, l, c.3.0, sum (bit header-flags 2) p)

  -- the messages of a chunk end in it
  chunk_forward : {p e : ℕ} {xs : List HeaderMessage} → Messages file s.size_of_offsets s.size_of_lengths header-flags p e xs → p ≤ e
  chunk_forward h = elim h as (λ p e xs y. p ≤ e) (λ o n xs y. Unit {0}) [
    | gap a b ↦ a
    | next {p = p} {m = m} {e = e} {x = x} i n (r → l) ↦ (let f = forward file (header_message header-flags) p m x i in omega arith)
    | continued {p = p} {m = m} {e = e} {x = x} q c o i t k d (b → j) (r → l) ↦ (let f = forward file (header_message header-flags) p m x i in omega arith)
    | block start signature i (r → l) t ↦ tt
  ]

  -- the last of a run is a gap
  gap_read : (level p e : ℕ) → p ≤ e → e < p + 4 → RunRead level p e [] tt
  gap_read level p e a b = record { last = p; within = a; items = []; run = ends (short (bit header-flags 2)); related = tt }
    where
      short : (t : Bool) → e < p + pick t 6 4
      short true = omega arith
      short false = omega arith

  -- one message more
  next_read : (level p m e : ℕ) (x : HeaderMessage) (xs : List HeaderMessage) → Stands file (header_message header-flags) p m x → (x.prefix.header_message_type ≡ 16 → ⊥) → m ≤ e
      → (r : Every (ReadMessage file s) (x ∷ xs)) → RunRead level m e xs r.1 → RunRead level p e (x ∷ xs) r
  next_read level p m e x xs h n l r y =
      let z = message_is_read file s header-flags p m x h n r.0 in
      let k = prefix_room p m x h in
      let a : p + prefix_size header-flags ≤ e = omega arith in
      record {
        last = y.last;
        within = y.within;
        items = item p m (message z.ours) ∷ y.items;
        run = goes a (is_message z.stands) y.run;
        related = (z.related, y.related);
      }

  -- one continuation more, and its block
  continued_read : (level p m e q offset : ℕ) (x : HeaderMessage) (c : ContinuationMessage) (xs ys : List HeaderMessage) → Stands file (header_message header-flags) p m x → x.prefix.header_message_type ≡ 16
      → Stands file (continuation_message s.size_of_offsets s.size_of_lengths) x.header_message_data.position q c → c.offset ≡ defined offset → 8 ≤ c.length → m ≤ e → suc level ≤ block_levels
      → (r : Every (ReadMessage file s) (x ∷ (ys ++ xs))) → BlockRead (suc level) offset c.length ys (every_left (ReadMessage file s) ys xs r.1) → RunRead level m e xs (every_right (ReadMessage file s) ys xs r.1)
      → RunRead level p e (x ∷ (ys ++ xs)) r
  continued_read level p m e q offset x c xs ys h n i d l k v r b y =
      let z = continuation_entry_is_read file s header-flags p m q offset x c h n i d l r.0 in
      let u = prefix_room p m x h in
      let a : p + prefix_size header-flags ≤ e = omega arith in
      record {
        last = y.last;
        within = y.within;
        items = (item p m (continuation offset c.length) ∷ b.items) ++ y.items;
        run = goes a (is_continuation z.stands v b.block_of) y.run;
        related = (z.same, entries-append file s ys xs r.1 b.items y.items b.related y.related);
      }

  -- a block
  block_read : (level offset size start signature : ℕ) (xs : List HeaderMessage) (r : Every (ReadMessage file s) xs) → 8 ≤ size → Stands file continuation_signature offset start signature → ChecksumStands file offset (offset + size - 4)
      → RunRead level start (offset + size - 4) xs r → BlockRead level offset size xs r
  block_read level offset size start signature xs r l h c y =
      record {
        items = y.items;
        block_of = is_block (offset + size) (signature_reads file offset start signature h) y.run (block_closes file offset (offset + size) y.last (omega arith) y.within c);
        related = y.related;
      }

  abbrev theirs : ℕ → ℕ → List HeaderMessage → Type 0
  theirs p e xs = Messages file s.size_of_offsets s.size_of_lengths header-flags p e xs

  messages_are_read : {p e : ℕ} {xs : List HeaderMessage} (h : theirs p e xs) (level : ℕ) → level + levels file s.size_of_offsets s.size_of_lengths h ≤ block_levels → (r : Every (ReadMessage file s) xs) → RunRead level p e xs r
  unfolding levels block_levels_of
  messages_are_read h = elim h as
      (λ p e xs y. (level : ℕ) → level + levels file s.size_of_offsets s.size_of_lengths y ≤ block_levels → (r : Every (ReadMessage file s) xs) → RunRead level p e xs r)
      (λ o n xs y. (level : ℕ) → level + block_levels_of file s.size_of_offsets s.size_of_lengths y ≤ block_levels → (r : Every (ReadMessage file s) xs) → (8 ≤ n) × BlockRead level o n xs r) [
        | gap {p = p} {e = e} a b ↦ λ level l r. gap_read level p e a b
        | next {p = p} {m = m} {e = e} {x = x} {xs = xs} i n (t → f) ↦ λ level l r. next_read level p m e x xs i n (chunk_forward t) r (f level l r.1)
        | continued {p = p} {m = m} {e = e} {x = x} {xs = xs} {ys = ys} q c o i n k d (b → g) (t → f) ↦ λ level l r.
            let w = g (suc level) (omega arith) (every_left (ReadMessage file s) ys xs r.1) in
            continued_read level p m e q o x c xs ys i n k d w.0 (chunk_forward t) (omega arith) r w.1 (f level (omega arith) (every_right (ReadMessage file s) ys xs r.1))
        | block {offset = o} {size = z} {xs = xs} start signature i (t → f) c ↦ λ level l r.
            let a = chunk_forward t in
            let b = signature_size file o start signature i in
            let k : 8 ≤ z = omega arith in
            (k, block_read level o z start signature xs r k i c (f level l r))
      ]

-- the fields of a header
module _ (file : List ℕ) where
  -- the four times
  times_pass : {B : Type 0} (t : Bool) (g : Optional ℕ → Optional ℕ → Optional ℕ → Optional ℕ → Format B) (p q : ℕ) (x : B) → p ≤ length file
      → Stands file (bind (optional t 4) (λ a. bind (optional t 4) (λ m. bind (optional t 4) (λ c. bind (optional t 4) (λ b. g a m c b))))) p q x
      → (a : Optional ℕ) × (m : Optional ℕ) × (c : Optional ℕ) × (b : Optional ℕ) × (p + pick t 16 0 ≤ length file) × Stands file (g a m c b) (p + pick t 16 0) q x
  unfolding optional bind
  times_pass true g p q x r h =
      let e : p + 4 + 4 + 4 + 4 ≡ p + 16 = omega arith in
      (present (le file p 4), present (le file (p + 4) 4), present (le file (p + 4 + 4) 4), present (le file (p + 4 + 4 + 4) 4), omega (arith, h.1.1.1.0), rw e at h.1.1.1.1)
  times_pass false g p q x r h = let e : p ≡ p + 0 = omega arith in (absent, absent, absent, absent, omega arith, rw e at h)

  -- a field that is not there
  none_at : (t : Bool) (w p q : ℕ) (o : Optional ℕ) → t ≡ false → Stands file (optional t w) p q o → p ≡ q
  unfolding optional
  none_at true w p q o e h = let z : ◌≡◌ {A = ℕ} 0 1 = cc in absurd (omega arith)
  none_at false w p q o e h = h.0

  header_stands : (p b q : ℕ) → p + 4 ≤ length file → eqb (le file p 4) 0x5244484F ≡ true → p + 4 + 1 ≤ length file → eqb (le file (p + 4) 1) 2 ≡ true → p + 4 + 1 + 1 ≤ length file
      → bit (le file (p + 4 + 1) 1) 4 ≡ false → p + 4 + 1 + 1 + pick (bit (le file (p + 4 + 1) 1) 5) 16 0 ≡ b → b ≤ length file
      → b + 2 ^ (le file (p + 4 + 1) 1 % 4) ≤ length file → le file b (2 ^ (le file (p + 4 + 1) 1 % 4)) ≤ 16777216 → b + 2 ^ (le file (p + 4 + 1) 1 % 4) ≡ q
      → Stands file header_fields p q (record { flags = le file (p + 4 + 1) 1; size = le file b (2 ^ (le file (p + 4 + 1) 1 % 4)) })
  unfolding header_fields ohdr bind
  header_stands p b q a s c v d f e r n l u = (a, rw s (c, rw v (d, rw (f, e) (r, (n, rw (le-leb _ 16777216 l) (u, refl))))))

  header_reads : (p q : ℕ) (x : ObjectHeaderPrefix) → Stands file object_header_prefix p q x → ReadPrefix x → Reads file header_fields p q
  unfolding object_header_prefix
  header_reads p q x h r =
      let f = le file (p + 4 + 1) 1 in
      let a = stands_check file (eqb (le file p 4) 0x5244484F) 0 _ (p + 4) q x h.1 in
      let b = stands_check file (eqb (le file (p + 4) 1) 2) 0 _ (p + 4 + 1) q x a.1.1 in
      let t = times_pass (bit f 5) _ (p + 4 + 1 + 1) q x b.1.0 b.1.1 in
      let c = p + 4 + 1 + 1 + pick (bit f 5) 16 0 in
      let u = stands_bind file (optional (bit f 4) 2) _ c q x t.5 in
      let v = stands_bind file (optional (bit f 4) 2) _ u.0 q x u.3 in
      let e = v.3.1.1 in
      let n : bit f 4 ≡ false = ap (λ (y : ObjectHeaderPrefix). bit y.flags 4) e ∙ r.no_attribute_numbers in
      let m : c ≡ v.0 = none_at (bit f 4) 2 c u.0 u.1 n u.2 ∙ none_at (bit f 4) 2 u.0 v.0 v.1 n v.2 in
      let k = width_same (f % 4) (omega arith) in
      let l : le file v.0 (size_of_size_of_chunk0 f) ≤ 16777216 = rw (ap (λ (y : ObjectHeaderPrefix). y.size_of_chunk_0) e) r.small in
      (record { flags = f; size = le file v.0 (2 ^ (f % 4)) }, header_stands p v.0 q h.0 a.0 a.1.0 b.0 b.1.0 n m (omega (arith, t.4, m)) (rw k v.3.0) (rw k l) (rw k v.3.1.0))

  header_is_read : (p q : ℕ) (x : ObjectHeaderPrefix) → Stands file object_header_prefix p q x → ReadPrefix x → ReadAs SameHeader header_fields file p q x
  header_is_read p q x h r = read_tied header_tied file p q x h q (header_reads p q x h r)

-- A header of the specification has a reading, which ends behind its checksum, and its entries are the header's messages, one by one.
module _ (file : List ℕ) (s : State) (at : ℕ) (xs : List HeaderMessage) (h : ObjectHeader file s.size_of_offsets s.size_of_lengths at xs) (m : Every (ReadMessage file s) xs) where
  pub record HeaderRead : Type 0 where
    pub items : List Item
    pub reading : HeaderReading file s at (next_after h) items
    pub related : EntriesAs file s xs m items

  run_flags : (f g n k level p e : ℕ) → f ≡ g → n ≡ k → RunRead file s g level p (e + k) xs m → RunRead file s f level p (e + n) xs m
  run_flags f g n k level p e a b r = rw (a, b) r

  ends_at : (n k : ℕ) (is : List Item) → n ≡ k → HeaderReading file s at (h.start + n + 4) is → HeaderReading file s at (h.start + k + 4) is
  ends_at n k is e r = rw e at r

  pub header_has_reading : ReadPrefix h.prefix → levels file s.size_of_offsets s.size_of_lengths h.chunk ≤ block_levels → HeaderRead
  header_has_reading r l =
      let y = header_is_read file at h.start h.prefix h.prefix_stands r in
      let u = messages_are_read file s h.prefix.flags h.chunk 0 (omega arith) m in
      let v = run_flags y.value.flags h.prefix.flags y.value.size h.prefix.size_of_chunk_0 0 h.start h.start y.related.flags y.related.size_of_chunk_0 u in
      let c : ChecksumStands file at (h.start + y.value.size) = rw y.related.size_of_chunk_0 h.checksum_stands in
      record {
        items = v.items;
        reading = ends_at y.value.size h.prefix.size_of_chunk_0 v.items y.related.size_of_chunk_0
            (record { fields = y.value; start = h.start; head = y.stands; rest = record { last = v.last; run = v.run; close = header_closes file at (h.start + y.value.size) v.last v.within c } });
        related = v.related;
      }
