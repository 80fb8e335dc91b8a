-- An entry opens a block one level below, so the calls end; a block's run is walked, turn by turn.
use Rattle.std.specs.Prelude.{ℕ, ◌≡◌, Result, Ok}
use Rattle.records.specs.declared.Refusal.{Refusal}
use Rattle.ohdr_entry.specs.declared.Entry.{Entry}
use Rattle.ohdr_walk.specs.Loop.{ends, stops, goes, falls as shrinks}
use Rattle.ohdr_walk.specs.Entering.{prefix_small, many, unread, row_taken_lem, ranged, deep, unsigned, starts_inside, unrun, block_closed_lem}
use Rattle.ohdr_closing.specs.Taking.{lends_on}
use Rattle.ohdr_closing.specs.Stopping.{was_value, was_refused, stopped_on}
use native.Mathlib.Omega.{arith}
use mathlib.Core.Path.{refl, sym}
use Prim.Native.Nat.{◌+◌}
use Rattle.ohdr_walk.proofs.+blocks.Goals as goal

-- an entry that was read, by its kind
found : {r : Result (Entry × ℕ) Refusal} {f e : Entry} {n : ℕ} → r ≡ Ok (f, n) → f ≡ e → r ≡ Ok (e, n)
found h i = rw (← i) h

pub message_block-loop-progress-init : goal.message_block-loop-progress-init
message_block-loop-progress-init t c = record { same = refl; few = c.requires.4; fewer = c.requires.2; inside = c.requires.5; long = refl }

pub message_block-overflow_add-progress : goal.message_block-overflow_add-progress
message_block-overflow_add-progress t c = omega (arith, prefix_small c.args.header.flags, c.message_prefix_size-prefix.ensures, c.loop-progress.invariant.inside)

pub message_block-message_entry-requires : goal.message_block-message_entry-requires
message_block-message_entry-requires t c = let p = c.requires in (omega (arith, c.decreases), (p.0, p.1, c.loop-progress.invariant.fewer, lends_on c.loop-progress.invariant.long p.3))

pub message_block-returns-in_err-progress : goal.message_block-returns-in_err-progress
message_block-returns-in_err-progress t c = rw (stopped_on c.from_residual.result c.in_err-progress.field-0.0 c.from_residual.ensures.1) (sym (stops c.loop-progress.invariant (rw c.message_prefix_size-prefix.ensures at c.loop-progress-test.true) c.message_entry.new.table c.message_entry.ensures c.in_err-progress.was))

pub message_block-loop-progress-smaller : goal.message_block-loop-progress-smaller
message_block-loop-progress-smaller t c = shrinks c.loop-progress.invariant (rw c.message_prefix_size-prefix.ensures at c.loop-progress-test.true) c.message_entry.new.table c.requires.1 c.message_entry.ensures c.in_ok-progress.was

pub message_block-loop-progress-preserved : goal.message_block-loop-progress-preserved
message_block-loop-progress-preserved t c = goes c.loop-progress.invariant (rw c.message_prefix_size-prefix.ensures at c.loop-progress-test.true) c.message_entry.new.table c.requires.1 c.message_entry.ensures c.in_ok-progress.was c.message_entry.auto.table

pub message_block-returns : goal.message_block-returns
message_block-returns t c = sym (ends c.loop-progress.invariant (rw c.message_prefix_size-prefix.ensures at c.loop-progress-test.false))

pub message_entry-returns-then-limits-from : goal.message_entry-returns-then-limits-from
message_entry-returns-then-limits-from t c = let a = c.args in rw c.with_entries.ensures (many a.file.now a.header a.limits a.levels a.from a.table.now c.if-limits-from.true)

pub message_entry-entry_alone-requires : goal.message_entry-entry_alone-requires
message_entry-entry_alone-requires t c = c.requires.0

pub message_entry-returns-in-Err : goal.message_entry-returns-in-Err
message_entry-returns-in-Err t c = let a = c.args in rw c.with_entries-in-Err.ensures (unread a.file.now a.header a.limits a.levels a.from a.table.now c.if-limits-from.false c.entry_alone.ensures c.in-Err.is)

pub message_entry-take_row-requires : goal.message_entry-take_row-requires
message_entry-take_row-requires t c = let p = c.requires in (p.3, p.2, c.if-limits-from.false)

pub message_entry-returns-in-Ok-Message-default : goal.message_entry-returns-in-Ok-Message-default
message_entry-returns-in-Ok-Message-default t c =
    let a = c.args in
    row_taken_lem a.file.now a.header a.limits a.levels a.from a.table.now c.if-limits-from.false c.entry_alone.ensures (found c.in-Ok-Message-default.is c.in-Ok-Message-default.field-0-0-is) c.take_row.new.table c.take_row.result c.take_row.ensures

pub message_entry-returns-then-levels-eq0 : goal.message_entry-returns-then-levels-eq0
message_entry-returns-then-levels-eq0 t c = let a = c.args in rw c.with_entries-then-levels-eq0.ensures (deep a.file.now a.header a.limits a.levels a.from a.table.now c.if-limits-from.false c.entry_alone.ensures (found c.in-Ok-Continuation-default.is c.in-Ok-Continuation-default.field-0-0-is) c.if-levels-eq0.true)

pub message_entry-overflow_add-whole : goal.message_entry-overflow_add-whole
message_entry-overflow_add-whole t c =
    let a = c.args in
    let k = ranged a.file.now a.header a.limits a.levels a.from a.table.now c.if-limits-from.false c.entry_alone.ensures (found c.in-Ok-Continuation-default.is c.in-Ok-Continuation-default.field-0-0-is) in
    omega (arith, k.within)

pub message_entry-returns-in_err-with_entries-in-Ok-Continuation-default : goal.message_entry-returns-in_err-with_entries-in-Ok-Continuation-default
message_entry-returns-in_err-with_entries-in-Ok-Continuation-default t c =
    let a = c.args in
    let f = c.from_residual in
    let k = was_refused (a.from.entries + 1) c.signature-mark.result f.result c.with_entries-in-Ok-Continuation-default.ensures c.in_err-with_entries-in-Ok-Continuation-default.was f.ensures.1 in
    rw k.on (unsigned a.file.now a.header a.limits a.levels a.from a.table.now c.if-limits-from.false c.entry_alone.ensures (found c.in-Ok-Continuation-default.is c.in-Ok-Continuation-default.field-0-0-is) c.if-levels-eq0.false c.signature-mark.ensures k.was)

pub message_entry-overflow_sub-whole : goal.message_entry-overflow_sub-whole
message_entry-overflow_sub-whole t c =
    let a = c.args in
    let k = ranged a.file.now a.header a.limits a.levels a.from a.table.now c.if-limits-from.false c.entry_alone.ensures (found c.in-Ok-Continuation-default.is c.in-Ok-Continuation-default.field-0-0-is) in
    omega (arith, k.least)

pub message_entry-message_block-requires : goal.message_entry-message_block-requires
message_entry-message_block-requires t c =
    let a = c.args in
    let p = c.requires in
    let s = starts_inside a.file.now a.header a.limits a.levels a.from a.table.now c.if-limits-from.false c.entry_alone.ensures (found c.in-Ok-Continuation-default.is c.in-Ok-Continuation-default.field-0-0-is) c.if-levels-eq0.false c.signature-mark.ensures (was_value (a.from.entries + 1) c.signature-mark.result c.with_entries-in-Ok-Continuation-default.ensures c.in_ok-with_entries-in-Ok-Continuation-default.was) in
    (omega (arith, c.decreases, c.if-levels-eq0.false), (p.0, omega (arith, p.1), omega (arith, p.2), p.3, omega (arith, c.if-limits-from.false), s))

pub message_entry-returns-in_err-last-in-Ok-Continuation-default : goal.message_entry-returns-in_err-last-in-Ok-Continuation-default
message_entry-returns-in_err-last-in-Ok-Continuation-default t c =
    let a = c.args in
    let f = c.from_residual-in_err-last-in-Ok-Continuation-default in
    rw (stopped_on f.result c.in_err-last-in-Ok-Continuation-default.field-0.0 f.ensures.1) (
    unrun a.file.now a.header a.limits a.levels a.from a.table.now c.if-limits-from.false c.entry_alone.ensures (found c.in-Ok-Continuation-default.is c.in-Ok-Continuation-default.field-0-0-is) c.if-levels-eq0.false c.signature-mark.ensures (was_value (a.from.entries + 1) c.signature-mark.result c.with_entries-in-Ok-Continuation-default.ensures c.in_ok-with_entries-in-Ok-Continuation-default.was) c.message_block.new.table c.message_block.ensures c.in_err-last-in-Ok-Continuation-default.was)

pub message_entry-close_block-requires : goal.message_entry-close_block-requires
message_entry-close_block-requires t c =
    let a = c.args in
    let k = ranged a.file.now a.header a.limits a.levels a.from a.table.now c.if-limits-from.false c.entry_alone.ensures (found c.in-Ok-Continuation-default.is c.in-Ok-Continuation-default.field-0-0-is) in
    omega (arith, k.least)

pub message_entry-returns-in_ok-last-in-Ok-Continuation-default : goal.message_entry-returns-in_ok-last-in-Ok-Continuation-default
message_entry-returns-in_ok-last-in-Ok-Continuation-default t c =
    let a = c.args in
    block_closed_lem a.file.now a.header a.limits a.levels a.from a.table.now c.if-limits-from.false c.entry_alone.ensures (found c.in-Ok-Continuation-default.is c.in-Ok-Continuation-default.field-0-0-is) c.if-levels-eq0.false c.signature-mark.ensures (was_value (a.from.entries + 1) c.signature-mark.result c.with_entries-in-Ok-Continuation-default.ensures c.in_ok-with_entries-in-Ok-Continuation-default.was) c.message_block.new.table c.message_block.ensures c.in_ok-last-in-Ok-Continuation-default.was c.close_block.result c.close_block.ensures
