-- What the definition gives with a table and without: exactly the readings of at most 4,096 entries, with a table those that have no more messages
-- than rows. What it gives with n rows beside what it gives without a table. Assumes nothing.
use Rattle.std.specs.Prelude.{ℕ, ◌+◌, ◌≤◌, ◌≡◌, ◌&&◌, ◌↔◌, List, length, leb}
use Rattle.std.proofs.Common.{arith}
use borrow.Author.Tests.{leb-true}
use Rattle.format.specs.Format.{read}
use Rattle.parser.specs.States.{file_limit, width_allowed, state_for}
use Rattle.parser.specs.StateLaws.{widths_of}
use Rattle.grammar.specs.Grammar.{Item}
use Rattle.grammar.specs.Table.{messages}
use Rattle.grammar.specs.Walk.{reached, Limits, entry_limit, lent, without_table, start, Fit}
use Rattle.grammar.specs.WalkLaws.{passed, fit_lent, fit_without}
use Rattle.grammar.proofs.Beside.{Beside, both_stop, chosen, after_read, walk_beside}
use Rattle.ohdr_walk.specs.Sources.{source}
use Rattle.data_object_header.specs.Headers.{header_fields, header, decode, Checkable}
use Rattle.data_object_header.specs.HeaderLaws.{header_accepts, decode_complete}

module _ (file : List ℕ) (offsets lengths end at : ℕ) where
  -- what is reached has a reading, and fits the limits
  reads : (l : Limits) (next : ℕ) (xs : List Item) → (Fit l start xs → length xs ≤ entry_limit) → decode file offsets lengths end at l ≡ reached xs next
      → Checkable file offsets lengths end at next xs × Fit l start xs
  unfolding decode
  reads l next xs few e =
      let a = passed (width_allowed offsets && width_allowed lengths) _ _ _ e in
      let b = passed (leb (length file) file_limit) _ _ _ a.1 in
      let r = (header_accepts file (state_for offsets lengths end) l at next xs).0 b.1 in
      (record { widths = widths_of offsets lengths end a.0; small = leb-true _ _ b.0; reading = r.0; few = few r.1 }, r.1)

  reaches : (l : Limits) (next : ℕ) (xs : List Item) → Checkable file offsets lengths end at next xs → Fit l start xs → decode file offsets lengths end at l ≡ reached xs next
  reaches l next xs c f = decode_complete offsets lengths end file at l next xs c.widths c.small c.reading f

  pub passes_without : (next : ℕ) (xs : List Item) → (decode file offsets lengths end at without_table ≡ reached xs next) ↔ Checkable file offsets lengths end at next xs
  passes_without next xs = (λ e. (reads without_table next xs (fit_without xs).0 e).0, λ c. reaches without_table next xs c ((fit_without xs).1 c.few))

  pub passes_lent : (n next : ℕ) (xs : List Item) → (decode file offsets lengths end at (lent n) ≡ reached xs next) ↔ (Checkable file offsets lengths end at next xs × (messages xs ≤ n))
  passes_lent n next xs = (
    λ e. let r = reads (lent n) next xs (λ f. ((fit_lent n xs).0 f).0) e in (r.0, ((fit_lent n xs).0 r.1).1),
    λ c. reaches (lent n) next xs c.0 ((fit_lent n xs).1 (c.0.few, c.1)),
  )

  pub decode_beside : Beside entry_limit 0 0 (decode file offsets lengths end at without_table) (λ n. decode file offsets lengths end at (lent n))
  unfolding decode header
  decode_beside =
      chosen (width_allowed offsets && width_allowed lengths) _ _ _ _
      (λ _. chosen (leb (length file) file_limit) _ _ _ _
      (λ _. after_read 0 (read file header_fields at) _ _ (omega arith) (λ f from. walk_beside (source file (state_for offsets lengths end) f.flags) entry_limit 23 at (from + f.size) from))
      (both_stop (omega arith)))
      (both_stop (omega arith))
