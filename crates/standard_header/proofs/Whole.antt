-- A header whose chunks are the specification's, each by itself, is the specification's as a whole: the messages of a block come just after
-- its continuation, in the specification as in a reading. Assumes nothing.
use Rattle.std.specs.Prelude.{ℕ, ◌+◌, ◌-◌, ◌⊎◌, List, [], ◌∷◌, ◌++◌}
use Rattle.std.proofs.Common.{inl, inr}
use Rattle.parser.specs.declared.State.{State}
use Rattle.grammar.specs.Message.{Message, message, continuation}
use Rattle.grammar.specs.Grammar.{Item, item}
use Rattle.standard.specs.Headers.{HeaderMessage}
use Rattle.standard.specs.Chunks.{Messages, gap, next, continued, ContinuationBlock, block}
use Rattle.standard_header.specs.Same.{SameEntries}
use Rattle.standard_header.proofs.SameLaws.{same-append}
use Rattle.standard_header.specs.HeaderIs.{OwnMessages, BlockIs, EntriesAre, none, a_message, a_continuation}
use Rattle.standard_header.specs.Differences.{BlockDiffers, InBlocks}

module _ (file : List ℕ) (s : State) (header-flags : ℕ) where
  in_first : (is js : List Item) → InBlocks file s header-flags is → InBlocks file s header-flags (is ++ js)
  in_first [] js d = absurd d
  in_first (i ∷ is) js (inl d) = inl d
  in_first (i ∷ is) js (inr d) = inr (in_first is js d)

  in_second : (is js : List Item) → InBlocks file s header-flags js → InBlocks file s header-flags (is ++ js)
  in_second [] js d = d
  in_second (i ∷ is) js d = inr (in_second is js d)

  -- the specification's messages from p to e, with those of its blocks, are these entries, one by one
  pub record WholeChunk (p e : ℕ) (all : List Item) : Type 0 where
    pub messages : List HeaderMessage
    pub chunk : Messages file s.size_of_offsets s.size_of_lengths header-flags p e messages
    pub same : SameEntries file s all messages

  -- and so the messages of a block
  pub record WholeBlock (offset size : ℕ) (all : List Item) : Type 0 where
    pub messages : List HeaderMessage
    pub stands : ContinuationBlock file s.size_of_offsets s.size_of_lengths header-flags offset size messages
    pub same : SameEntries file s all messages

  -- what makes a chunk that is the specification's by itself the specification's as a whole, unless a difference applies in a block under it
  abbrev pub WholeFrom : List Item → List Item → Type 0
  WholeFrom own all = (p e : ℕ) (xs : List HeaderMessage) → OwnMessages file header-flags p e xs → SameEntries file s own xs → InBlocks file s header-flags all ⊎ WholeChunk p e all

  no_entry : WholeFrom [] []
  no_entry p e [] h k = inr (record { messages = []; chunk = gap h.0 h.1; same = tt })
  no_entry p e (x ∷ xs) h k = absurd k

  one_message : (p q : ℕ) (m : Message) (own all : List Item) → WholeFrom own all → WholeFrom (item p q (message m) ∷ own) (item p q (message m) ∷ all)
  one_message p q m own all f p₀ e [] h k = absurd k
  one_message p q m own all f p₀ e (x ∷ xs) h k = go (f h.0 e xs h.2 k.1)
    where
      go : InBlocks file s header-flags all ⊎ WholeChunk h.0 e all → InBlocks file s header-flags (item p q (message m) ∷ all) ⊎ WholeChunk p₀ e (item p q (message m) ∷ all)
      go (inl d) = inl (inr d)
      go (inr w) = inr (record { messages = x ∷ w.messages; chunk = next h.1 k.0.no_continuation w.chunk; same = (k.0, w.same) })

  -- a block that is the specification's by itself
  one_block : (o l : ℕ) (own all : List Item) → BlockIs file s header-flags o l own → WholeFrom own all → InBlocks file s header-flags all ⊎ WholeBlock o l all
  one_block o l own all b f = go (f b.start (o + l - 4) b.chunk.messages b.chunk.stand b.chunk.same)
    where
      go : InBlocks file s header-flags all ⊎ WholeChunk b.start (o + l - 4) all → InBlocks file s header-flags all ⊎ WholeBlock o l all
      go (inl d) = inl d
      go (inr w) = inr (record { messages = w.messages; stands = block b.start b.signature b.signature_stands w.chunk b.checksum_stands; same = w.same })

  one_continuation : (p q o l : ℕ) (own all block-own block-all : List Item) → BlockDiffers file s header-flags o l ⊎ BlockIs file s header-flags o l block-own → WholeFrom block-own block-all → WholeFrom own all
      → WholeFrom (item p q (continuation o l) ∷ own) (item p q (continuation o l) ∷ (block-all ++ all))
  one_continuation p q o l own all block-own block-all b g f p₀ e [] h k = absurd k
  one_continuation p q o l own all block-own block-all (inl d) g f p₀ e (x ∷ xs) h k = inl (inl d)
  one_continuation p q o l own all block-own block-all (inr b) g f p₀ e (x ∷ xs) h k = go (one_block o l block-own block-all b g) (f h.0 e xs h.2 k.1)
    where
      go : InBlocks file s header-flags block-all ⊎ WholeBlock o l block-all → InBlocks file s header-flags all ⊎ WholeChunk h.0 e all
          → InBlocks file s header-flags (item p q (continuation o l) ∷ (block-all ++ all)) ⊎ WholeChunk p₀ e (item p q (continuation o l) ∷ (block-all ++ all))
      go (inl d) w = inl (inr (in_first block-all all d))
      go (inr y) (inl d) = inl (inr (in_second block-all all d))
      go (inr y) (inr w) =
          let c = k.0.header_message_data in
          let z = rw c.related.length at y.stands in
          inr (record {
            messages = x ∷ (y.messages ++ w.messages);
            chunk = continued k.0.upto c.value o h.1 k.0.header_message_type c.stands c.related.offset z w.chunk;
            same = (k.0, same-append file s block-all all y.messages w.messages y.same w.same);
          })

  pub whole_chunk : {longest : ℕ} {own all : List Item} → EntriesAre file s longest header-flags own all → WholeFrom own all
  whole_chunk h = elim h as (λ own all y. WholeFrom own all) [
    | none ↦ no_entry
    | a_message {p = p} {q = q} {m = m} {own = own} {all = all} x (r → f) ↦ one_message p q m own all f
    | a_continuation {p = p} {q = q} {o = o} {l = l} {own = own} {all = all} {block-own = bo} {block-all = ba} x b (r → g) (t → f) ↦ one_continuation p q o l own all bo ba b g f
  ]

  pub whole_block : {longest o l : ℕ} {own all : List Item} → BlockIs file s header-flags o l own → EntriesAre file s longest header-flags own all → InBlocks file s header-flags all ⊎ WholeBlock o l all
  whole_block {o = o} {l = l} {own = own} {all = all} b h = one_block o l own all b (whole_chunk h)
