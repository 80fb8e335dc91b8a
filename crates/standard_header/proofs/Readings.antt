-- A header that has a reading is the specification's, message by message; or a listed difference applies. Assumes nothing.
use Rattle.std.specs.Prelude.{ℕ, ◌+◌, ◌-◌, ◌≤◌, max, ◌≡◌, ◌⊎◌, List, length}
use Rattle.std.proofs.Common.{sym, subst, inl, inr, arith}
use Rattle.format.specs.Format.{nothing, Stands}
use Rattle.format.specs.Standing.{stands_check}
use Rattle.parser.specs.declared.State.{State}
use Rattle.grammar.specs.Grammar.{Item, header_end}
use Rattle.grammar.specs.Table.{messages_of, messages}
use Rattle.grammar.specs.TableLaws.{messages_of-append}
use Rattle.grammar.specs.Each.{All, all-append}
use Rattle.lookup3.specs.Lookup3.{sum_matches}
use Rattle.lookup3.specs.Laws.{matches_is}
use Rattle.data_object_header.specs.declared.HeaderFields.{HeaderFields}
use Rattle.data_object_header.specs.Headers.{HeaderReading}
use Rattle.standard.specs.Headers.{ObjectHeaderPrefix, object_header_prefix, HeaderMessage}
use Rattle.standard.specs.Chunks.{ChecksumStands}
use Rattle.standard_header.specs.Same.{SameHeader, SameMessage, no_continuations, SameHeld}
use Rattle.standard_header.proofs.Prefixes.{header_tied}
use Rattle.standard_header.proofs.SameLaws.{as_many, same_messages}
use Rattle.standard_header.proofs.Bodies.{value_row}
use Rattle.standard_header.specs.Differences.{ChunkDiffers, InBlocks}
use Rattle.standard_header.specs.HeaderIs.{EntriesAre, none, a_message, a_continuation, FirstChunkIs, WholeIs, HeaderIs, RowIs}
use Rattle.standard_header.proofs.Chunks.{ReadUpTo, run_is}
use Rattle.standard_header.proofs.Whole.{WholeChunk, whole_chunk}

module _ (file : List ℕ) (s : State) (longest : ℕ) where
  pub each_message : {header-flags : ℕ} {own all : List Item} → EntriesAre file s longest header-flags own all → All (RowIs file s longest header-flags) (messages_of all)
  each_message {header-flags} h = elim h as (λ own all y. All (RowIs file s longest header-flags) (messages_of all)) [
    | none ↦ tt
    | a_message {p = p} {q = q} x (r → f) ↦ (record { from = p; upto = q; is = x; text = λ e. (value_row file s longest x.body_of e).0; number = λ e. (value_row file s longest x.body_of e).1 }, f)
    | a_continuation {all = all} {block-all = is} x b (r → g) (t → f) ↦
        subst (All (RowIs file s longest header-flags)) (sym (messages_of-append is all)) (all-append (RowIs file s longest header-flags) (messages_of is) (messages_of all) g f)
  ]

  -- as a whole, where the first chunk is the specification's
  whole_of : (at start after : ℕ) (own xs : List Item) (x : ObjectHeaderPrefix) → Stands file object_header_prefix at start x
      → ChecksumStands file at (start + x.size_of_chunk_0) → FirstChunkIs file s x.flags start (start + x.size_of_chunk_0) after own → EntriesAre file s longest x.flags own xs
      → InBlocks file s x.flags xs ⊎ WholeIs file s at after (length xs) (messages xs) xs
  whole_of at start after own xs x h k c r = go (whole_chunk file s x.flags r start (start + x.size_of_chunk_0) c.chunk.messages c.chunk.stand c.chunk.same)
    where
      go : InBlocks file s x.flags xs ⊎ WholeChunk file s x.flags start (start + x.size_of_chunk_0) xs → InBlocks file s x.flags xs ⊎ WholeIs file s at after (length xs) (messages xs) xs
      go (inl d) = inl d
      go (inr w) =
          let r = same_messages file s xs w.messages w.same in
          inr (record {
            messages = w.messages;
            header = record { prefix = x; start = start; prefix_stands = h; chunk = w.chunk; checksum_stands = k };
            entries = w.same;
            entry_count = as_many (λ (i : Item) (y : HeaderMessage). SameHeld file s i.held y) xs w.messages w.same;
            with_rows = r;
            row_count = as_many SameMessage (messages_of xs) (no_continuations w.messages) r;
            end = c.end;
          })

  -- what is read, in the specification's words
  header_of : (at start after last : ℕ) (own xs : List Item) (f : HeaderFields) (x : ObjectHeaderPrefix) → Stands file object_header_prefix at start x → SameHeader f x
      → after ≡ max last (start + f.size) + 4 → ChecksumStands file at (start + f.size) → ReadUpTo file s f.flags start (start + f.size) last own → EntriesAre file s longest f.flags own xs
      → HeaderIs file s longest at after (length xs) (messages xs) f xs
  header_of at start after last own xs f x h r e i c m = go (rw r.size_of_chunk_0 at e) (rw r.size_of_chunk_0 at i) (rw (r.flags, r.size_of_chunk_0) at c) (rw r.flags at m)
    where
      go : after ≡ max last (start + x.size_of_chunk_0) + 4 → ChecksumStands file at (start + x.size_of_chunk_0) → ReadUpTo file s x.flags start (start + x.size_of_chunk_0) last own
          → EntriesAre file s longest x.flags own xs → HeaderIs file s longest at after (length xs) (messages xs) f xs
      go e k (inl d) m = record { prefix = x; start = start; prefix_stands = h; prefix_same = r; checksum_stands = k; own = own; first_chunk = inl d; entries = m; whole = inl (inl d) }
      go e k (inr y) m =
          let c : FirstChunkIs file s x.flags start (start + x.size_of_chunk_0) after own = record { chunk = y.1; end = omega (arith, y.0) } in
          record { prefix = x; start = start; prefix_stands = h; prefix_same = r; checksum_stands = k; own = own; first_chunk = inr c; entries = m; whole = blocks (whole_of at start after own xs x h k c m) }
        where
          blocks : InBlocks file s x.flags xs ⊎ WholeIs file s at after (length xs) (messages xs) xs
              → (ChunkDiffers file s x.flags start (start + x.size_of_chunk_0) ⊎ InBlocks file s x.flags xs) ⊎ WholeIs file s at after (length xs) (messages xs) xs
          blocks (inl d) = inl (inr d)
          blocks (inr w) = inr w

  -- what closes the header ends 4 bytes behind the chunk or behind the run, and the checksum is the specification's
  closing : (o e last next : ℕ) → Stands file (header_end (sum_matches file) o e last) last next tt → (next ≡ max last e + 4) × ChecksumStands file o e
  unfolding header_end
  closing o e last next h =
      let c = stands_check file (sum_matches file o e) 28 nothing (last + (e - last) + 4) next tt h.1.1 in
      (omega (arith, c.1.0), (omega (arith, h.1.0), matches_is file o e c.0))

  module _ (enough : 4095 ≤ longest) where
    pub reading_is : {at after : ℕ} {xs : List Item} (h : HeaderReading file s at after xs) → HeaderIs file s longest at after (length xs) (messages xs) h.fields xs
    reading_is {at} {after} {xs} h =
        let y = header_tied.ties file at h.start h.fields h.head in
        let c = closing at (h.start + h.fields.size) h.rest.last after h.rest.close in
        let r = run_is file s longest h.fields.flags enough h.rest.run in
        header_of at h.start after h.rest.last r.own xs h.fields y.value y.stands y.related c.0 c.1 (r.chunk (omega arith)) r.entries
