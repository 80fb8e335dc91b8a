-- The chunks of a header as they are read are those of the specification, each by itself, or a listed difference applies in it. Assumes nothing.
use Rattle.std.specs.Prelude.{ℕ, ◌+◌, ◌-◌, ◌≤◌, ◌<◌, ◌≡◌, refl, ◌⊎◌, Bool, true, false, List, [], ◌∷◌, ◌++◌, eqb}
use Rattle.std.proofs.Math.Path.{sym}
use Rattle.std.proofs.Common.{◌∙◌, inl, inr, arith}
use Rattle.format.specs.Bits.{bit}
use Rattle.format.specs.Bytes.{le}
use Rattle.format.specs.BytesLaws.{by_le}
use Rattle.format.specs.Format.{pick, nothing, Stands}
use Rattle.format.specs.Standing.{stands_check}
use Rattle.parser.specs.declared.State.{State}
use Rattle.grammar.specs.Message.{Message, message, continuation}
use Rattle.grammar.specs.Grammar.{ochk, block_end, Item, item, Run, ends, goes, is_message, is_continuation, is_block}
use Rattle.ohdr_entry.specs.Entries.{prefix_size}
use Rattle.ohdr_entry.specs.Entered.{continued}
use Rattle.lookup3.specs.Lookup3.{sum_matches}
use Rattle.lookup3.specs.Laws.{matches_is}
use Rattle.ohdr_walk.specs.Sources.{source}
use Rattle.standard.specs.Headers.{HeaderMessage, header_message}
use Rattle.standard.specs.Chunks.{ChecksumStands}
use Rattle.standard_header.proofs.Prefixes.{block_signature_tied}
use Rattle.standard_header.specs.Same.{SameHeld}
use Rattle.standard_header.specs.Is.{MessageEntry, ContinuationEntry}
use Rattle.standard_header.proofs.Entries.{message_entry, continuation_entry}
use Rattle.standard_header.proofs.Bodies.{body_is}
use Rattle.standard_header.specs.Differences.{ChunkDiffers, wide_gap, message_past_its_size, continuation_past_its_size, past_the_chunk, later, BlockDiffers}
use Rattle.standard_header.specs.HeaderIs.{ChunkIs, BlockIs, MessageIs, EntriesAre, none, a_message, a_continuation}

-- over a file, the widths, and the flags of the header
module _ (file : List ℕ) (s : State) (header-flags : ℕ) where
  -- an entry as a header message of the specification
  record EntryStands (p q : ℕ) (i : Item) : Type 0 where
    theirs : HeaderMessage
    stands : Stands file (header_message header-flags) p q theirs
    same : SameHeld file s i.held theirs

  -- what an entry from p to q makes of the chunk that it stands in
  abbrev Head : ℕ → ℕ → Item → Type 0
  Head p q i = ((e : ℕ) → p + 4 ≤ e → ChunkDiffers file s header-flags p e) ⊎ EntryStands p q i

  message_head : (p q : ℕ) (m : Message) → MessageEntry file s header-flags p q m → Head p q (item p q (message m))
  message_head p q m x = by_le x.fields_end (m.body + m.size) (λ l. inr (whole l)) (λ l. inl (λ e d. message_past_its_size d q m x l))
    where
      whole : x.fields_end ≤ m.body + m.size → EntryStands p q (item p q (message m))
      whole l =
          let y = x.entry_is in
          record {
            theirs = record { prefix = y.prefix_of; header_message_data = record { position = m.body; length = m.size } };
            stands = y.within l;
            same = record {
              header_message_type = y.header_message_type;
              size_of_header_message_data = y.size_of_header_message_data;
              header_message_flags = y.header_message_flags;
              header_message_data = refl;
              no_continuation = λ d. x.no_continuation (y.header_message_type ∙ d);
            };
          }

  continuation_head : (p q o l : ℕ) → ContinuationEntry file s header-flags p q o l → Head p q (item p q (continuation o l))
  continuation_head p q o l x = by_le x.fields_end (x.at + x.size) (λ h. inr (whole h)) (λ h. inl (λ e d. continuation_past_its_size d q o l x h))
    where
      whole : x.fields_end ≤ x.at + x.size → EntryStands p q (item p q (continuation o l))
      whole h =
          let y = x.entry_is in
          record {
            theirs = record { prefix = y.prefix_of; header_message_data = record { position = x.at; length = x.size } };
            stands = y.within h;
            same = record { header_message_type = sym y.header_message_type; upto = x.fields_end; header_message_data = x.fields_stand };
          }

  -- a chunk from p to e that is read up to q
  abbrev pub ReadUpTo : ℕ → ℕ → ℕ → List Item → Type 0
  ReadUpTo p e q own = ChunkDiffers file s header-flags p e ⊎ ((q ≤ e) × ChunkIs file s header-flags p e own)

  -- the end of a run
  at_end : (p e : ℕ) → e < p + prefix_size header-flags → p ≤ e → ReadUpTo p e p []
  at_end p e h i = go (bit header-flags 2) refl h
    where
      short : e < p + 4 → ReadUpTo p e p []
      short l = inr (i, record { messages = []; stand = (i, l); same = tt })

      go : (t : Bool) → bit header-flags 2 ≡ t → e < p + pick t 6 4 → ReadUpTo p e p []
      go true d l = by_le (p + 4) e (λ k. inl (wide_gap d k l)) short
      go false d l = short l

  -- where an entry is due a message is
  due : (p e : ℕ) → p + prefix_size header-flags ≤ e → p + 4 ≤ e
  due p e h = go (bit header-flags 2) h
    where
      go : (t : Bool) → p + pick t 6 4 ≤ e → p + 4 ≤ e
      go true h = omega arith
      go false h = h

  -- one entry more
  one_more : (p m e q : ℕ) (i : Item) (own : List Item) → p + 4 ≤ e → Head p m i → (m ≤ e → ReadUpTo m e q own) → ReadUpTo p e q (i ∷ own)
  one_more p m e q i own k (inl f) j = inl (f e k)
  one_more p m e q i own k (inr x) j = by_le m e (λ l. go (j l)) (λ l. inl (past_the_chunk k m x.theirs x.stands l))
    where
      go : ReadUpTo m e q own → ReadUpTo p e q (i ∷ own)
      go (inl d) = inl (later k m x.theirs x.stands d)
      go (inr r) = inr (r.0, record { messages = x.theirs ∷ r.1.messages; stand = (m, x.stands, r.1.stand); same = (x.same, r.1.same) })

  signature_end : (p q : ℕ) → Stands file ochk p q tt → q ≡ p + 4
  unfolding ochk
  signature_end p q h = sym (stands_check file (eqb (le file p 4) 0x4B48434F) 20 nothing (p + 4) q tt h.1).1.0

  -- the checksum that closes a block is the specification's
  block_checksum : (offset w q m : ℕ) → 4 ≤ w → Stands file (block_end (sum_matches file) offset w q) q m tt → ChecksumStands file offset (w - 4)
  unfolding block_end
  block_checksum offset w q m l h =
      let c = stands_check file (sum_matches file offset (w - 4)) 28 nothing (q + (w - q)) m tt h.1 in
      (omega (arith, h.0), matches_is file offset (w - 4) c.0)

  -- a block
  block_of : (offset size start q : ℕ) (own : List Item) → Stands file ochk offset start tt → (start ≤ offset + size - 4 → ReadUpTo start (offset + size - 4) q own)
      → ChecksumStands file offset (offset + size - 4) → 8 ≤ size → BlockDiffers file s header-flags offset size ⊎ BlockIs file s header-flags offset size own
  block_of offset size start q own h j t l = let e = signature_end offset start h in go (j (omega arith))
    where
      go : ReadUpTo start (offset + size - 4) q own → BlockDiffers file s header-flags offset size ⊎ BlockIs file s header-flags offset size own
      go (inl d) =
          let y = block_signature_tied.ties file offset start tt h in
          inl (record { start = start; signature = y.value; signature_stands = y.stands; chunk = d; checksum_stands = t })
      go (inr r) =
          let y = block_signature_tied.ties file offset start tt h in
          inr (record { start = start; signature = y.value; signature_stands = y.stands; chunk = r.1; checksum_stands = t })

-- and the longest name of a member that the specification's formats are asked for
module _ (file : List ℕ) (s : State) (longest header-flags : ℕ) where
  -- what is known of a run, of an entry and of a block that are read
  pub record ReadRun (p e q : ℕ) (all : List Item) : Type 0 where
    pub own : List Item
    pub chunk : p ≤ e → ReadUpTo file s header-flags p e q own
    pub entries : EntriesAre file s longest header-flags own all

  record ReadEntry (p q : ℕ) (all : List Item) : Type 0 where
    first : Item
    head : Head file s header-flags p q first
    before : (own more : List Item) → EntriesAre file s longest header-flags own more → EntriesAre file s longest header-flags (first ∷ own) (all ++ more)

  record ReadBlock (offset size : ℕ) (all : List Item) : Type 0 where
    own : List Item
    chunk : 8 ≤ size → BlockDiffers file s header-flags offset size ⊎ BlockIs file s header-flags offset size own
    entries : EntriesAre file s longest header-flags own all

  module _ (enough : 4095 ≤ longest) where
    message_is : (p q : ℕ) (m : Message) → MessageEntry file s header-flags p q m → MessageIs file s longest header-flags p q m
    message_is p q m x = record { in_entry = x; body_of = body_is file s longest enough m.type m.body x.fields_end m.kept x.fields_stand }

    pub run_is : {level p e q : ℕ} {is : List Item} → Run (source file s header-flags) level p e q is → ReadRun p e q is
    run_is r = elim r as (λ level p e q is y. ReadRun p e q is) (λ level p q is y. ReadEntry p q is) (λ level o l is y. ReadBlock o l is) [
      | ends {p = p} {e = e} h ↦ (record { own = []; chunk = at_end file s header-flags p e h; entries = none })
      | goes {p = p} {e = e} {m = m} {q = q} {xs = xs} {ys = ys} h (a → i) (r → j) ↦ (
          record { own = i.first ∷ j.own; chunk = λ l. one_more file s header-flags p m e q i.first j.own (due file s header-flags p e h) i.head j.chunk; entries = i.before j.own ys j.entries })
      | is_message {p = p} {q = q} {m = m} h ↦ (
          let x = message_entry file s header-flags p q m h in
          record { first = item p q (message m); head = message_head file s header-flags p q m x; before = λ own more k. a_message (message_is p q m x) k })
      | is_continuation {p = p} {q = q} {offset = o} {length = l} {xs = xs} h n (b → i) ↦ (
          let x = continuation_entry file s header-flags p q o l h in
          let k = i.chunk (continued file s header-flags p q o l h).least in
          record { first = item p q (continuation o l); head = continuation_head file s header-flags p q o l x; before = λ own more j. a_continuation x k i.entries j })
      | is_block {offset = o} {size = z} {start = a} {q = q} {xs = xs} n h (r → j) t ↦ (
          record { own = j.own; chunk = λ l. block_of file s header-flags o z a q j.own h j.chunk (block_checksum file s header-flags o (o + z) q n (omega arith) t) l; entries = j.entries })
    ]
