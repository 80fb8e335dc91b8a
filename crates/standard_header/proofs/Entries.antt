-- An entry that is read is a header message of the specification, unless its fields use more bytes than its size. Assumes nothing.
use Rattle.std.specs.Prelude.{ℕ, ◌+◌, ◌-◌, ◌≤◌, ◌≡◌, ◌⊎◌, Bool, List}
use Rattle.std.proofs.Math.Path.{refl}
use Rattle.std.proofs.Common.{sym, arith, eqb-true}
use Rattle.std.proofs.Math.Logic.{inl, inr}
use Rattle.std.proofs.Math.Bool.{true, false}
use Rattle.std.proofs.Math.ListN.{length}
use Rattle.std.proofs.Math.Dec.{eqb}
use Rattle.std.proofs.lemmas.Bool.{eqb-false}
use Rattle.format.specs.Format.{pick, Stands}
use Rattle.format.specs.Standing.{stands_bind, bind_stands}
use Rattle.parser.specs.declared.State.{State}
use Rattle.grammar.specs.Message.{Message, Held, message, continuation}
use Rattle.ohdr_entry.specs.Continuations as info
use Rattle.ohdr_entry.specs.declared.Prefix.{Prefix}
use Rattle.ohdr_entry.specs.Entries.{prefix, body, message_held, continuation_held, closed, entry}
use Rattle.standard.specs.Fields.{Bytes, raw}
use Rattle.standard.specs.Headers.{MessagePrefix, message_prefix, HeaderMessage, header_message}
use Rattle.standard_messages.proofs.Infos.{continuation_tied}
use Rattle.standard_header.proofs.Prefixes.{prefix_tied}
use Rattle.standard_header.specs.Is.{EntryIs, MessageEntry, ContinuationEntry}

module _ (file : List ℕ) (s : State) (header-flags : ℕ) where
  -- what an entry from p to q is made of: a prefix up to b, fields up to c, and the rest of its size
  record Parts (p q : ℕ) (v : Held) : Type 0 where
    ours : Prefix
    b : ℕ
    prefix_stands : Stands file (prefix header-flags) p b ours
    c : ℕ
    held : ((ours.kind ≡ 16) × Stands file (continuation_held s ours b) b c v) ⊎ ((ours.kind ≡ 16 → ⊥) × Stands file (message_held s ours b) b c v)
    room : c + (b + ours.size - c) ≤ length file
    close : c + (b + ours.size - c) ≡ q

  parts_of : (p q : ℕ) (v : Held) → Stands file (entry s header-flags) p q v → Parts p q v
  unfolding entry closed
  parts_of p q v h = let w = stands_bind file (prefix header-flags) _ p q v h in go w.1 w.0 w.2 (eqb w.1.kind 16) refl w.3
    where
      go : (x : Prefix) (b : ℕ) → Stands file (prefix header-flags) p b x → (t : Bool) → eqb x.kind 16 ≡ t
          → Stands file (pick t (closed continuation_held s x b) (closed message_held s x b)) b q v → Parts p q v
      go x b i true e h =
          let w = stands_bind file (continuation_held s x b) _ b q v h in
          let k : Stands file (continuation_held s x b) b w.0 v = rw w.3.1.1 at w.2 in
          record { ours = x; b = b; prefix_stands = i; c = w.0; held = inl (eqb-true x.kind 16 e, k); room = w.3.0; close = w.3.1.0 }
      go x b i false e h =
          let w = stands_bind file (message_held s x b) _ b q v h in
          let k : Stands file (message_held s x b) b w.0 v = rw w.3.1.1 at w.2 in
          record { ours = x; b = b; prefix_stands = i; c = w.0; held = inr (eqb-false x.kind 16 e, k); room = w.3.0; close = w.3.1.0 }

  message_stands : (p b size : ℕ) (x : MessagePrefix) → Stands file (message_prefix header-flags) p b x → size ≡ x.size_of_header_message_data → b + size ≤ length file
      → Stands file (header_message header-flags) p (b + size) (record { prefix = x; header_message_data = record { position = b; length = size } })
  unfolding header_message raw
  message_stands p b size x h e r =
      let d : Bytes = record { position = b; length = size } in
      let i : Stands file (raw size) b (b + size) d = (r, (refl, refl)) in
      let j : Stands file (raw x.size_of_header_message_data) b (b + size) d = rw (← e) i in
      let v : HeaderMessage = record { prefix = x; header_message_data = d } in
      bind_stands file (message_prefix header-flags) _ p b (b + size) x v h (bind_stands file (raw x.size_of_header_message_data) _ b (b + size) (b + size) d v j (refl, refl))

  entry_of : (p q b c : ℕ) (x : Prefix) → Stands file (prefix header-flags) p b x → c + (b + x.size - c) ≤ length file → c + (b + x.size - c) ≡ q → EntryIs file s header-flags p q b c x.kind x.size x.flags
  entry_of p q b c x h r e =
      let y = (prefix_tied header-flags).ties file p b x h in
      record {
        prefix_of = y.value;
        prefix_stands = y.stands;
        header_message_type = y.related.header_message_type;
        size_of_header_message_data = y.related.size_of_header_message_data;
        header_message_flags = y.related.header_message_flags;
        within = λ l.
            let d : b + x.size ≡ q = omega arith in
            let k : b + x.size ≤ length file = omega arith in
            rw (← d) (message_stands p b x.size y.value y.stands y.related.size_of_header_message_data k);
        beyond = λ l. omega arith;
      }

  -- no entry is both
  neither_both : {P : Type 0} {m : Message} {o l : ℕ} → message m ≡ continuation o l → P
  neither_both e = let z : ◌≡◌ {A = ℕ} 0 1 = cc in absurd (omega arith)

  pub message_entry : (p q : ℕ) (m : Message) → Stands file (entry s header-flags) p q (message m) → MessageEntry file s header-flags p q m
  unfolding message_held continuation_held
  message_entry p q m h = let w = parts_of p q (message m) h in go w w.held
    where
      go : (w : Parts p q (message m)) → ((w.ours.kind ≡ 16) × Stands file (continuation_held s w.ours w.b) w.b w.c (message m)) ⊎ ((w.ours.kind ≡ 16 → ⊥) × Stands file (message_held s w.ours w.b) w.b w.c (message m)) → MessageEntry file s header-flags p q m
      go w (inl x) = let u = stands_bind file (info.continuation s) _ w.b w.c (message m) x.1 in neither_both (sym u.3.1)
      go w (inr x) =
          let u = stands_bind file (body s w.ours.kind) _ w.b w.c (message m) x.1 in
          let n : Message = record { type = w.ours.kind; flags = w.ours.flags; size = w.ours.size; body = w.b; kept = u.1 } in
          let f : Stands file (body s w.ours.kind) w.b w.c u.1 = rw u.3.0 at u.2 in
          let r : MessageEntry file s header-flags p q n = record { fields_end = w.c; entry_is = entry_of p q w.b w.c w.ours w.prefix_stands w.room w.close; fields_stand = f; no_continuation = x.0 } in
          let e : n ≡ m = cc u.3.1 in
          rw (← e) r

  renamed : {p q : ℕ} (i k o l : ℕ) → i ≡ o → k ≡ l → ContinuationEntry file s header-flags p q i k → ContinuationEntry file s header-flags p q o l
  renamed i k o l e d x = rw (← e, ← d) x

  pub continuation_entry : (p q o l : ℕ) → Stands file (entry s header-flags) p q (continuation o l) → ContinuationEntry file s header-flags p q o l
  unfolding message_held continuation_held
  continuation_entry p q o l h = let w = parts_of p q (continuation o l) h in go w w.held
    where
      go : (w : Parts p q (continuation o l)) → ((w.ours.kind ≡ 16) × Stands file (continuation_held s w.ours w.b) w.b w.c (continuation o l)) ⊎ ((w.ours.kind ≡ 16 → ⊥) × Stands file (message_held s w.ours w.b) w.b w.c (continuation o l)) → ContinuationEntry file s header-flags p q o l
      go w (inr x) = let u = stands_bind file (body s w.ours.kind) _ w.b w.c (continuation o l) x.1 in neither_both u.3.1
      go w (inl x) =
          let u = stands_bind file (info.continuation s) _ w.b w.c (continuation o l) x.1 in
          let f : Stands file (info.continuation s) w.b w.c u.1 = rw u.3.0 at u.2 in
          let eo : u.1.offset ≡ o = cc u.3.1 in
          let el : u.1.length ≡ l = cc u.3.1 in
          let y : EntryIs file s header-flags p q w.b w.c 16 w.ours.size w.ours.flags = rw x.0 at (entry_of p q w.b w.c w.ours w.prefix_stands w.room w.close) in
          renamed u.1.offset u.1.length o l eo el (record { at = w.b; size = w.ours.size; flags = w.ours.flags; fields_end = w.c; entry_is = y; fields_stand = (continuation_tied s).ties file w.b w.c u.1 f })
