-- A refusal clears the whole table; otherwise the rows are the walk's, and what is behind them is cleared.
use Prim.Native.Nat.{ℕ}
use mathlib.Core.Path.{◌≡◌, refl, sym, ap, ◌∙◌}
use native.Mathlib.Omega.{arith}
use lib.ListN.{length, replicate}
use Rattle.helpers.specs.Facts.{met}
use Rattle.row.specs.Clearing.{cleared_all}
use Rattle.data_object_messages.specs.Messages.{messages_out}
use Rattle.data_object.specs.DecodedLaws.{rows_fit, rejected_decoded, built_decoded}
use Rattle.data_object.proofs.data_object.Goals as goal

pub data_object_messages-read-requires : goal.data_object_messages-read-requires
data_object_messages-read-requires c =
    record {
      room = λ n e. let same : c.rows_in.result ≡ n = cc e in omega (arith, c.rows_in.ensures);
      none = λ e. let z : ◌≡◌ {A = ℕ} 0 1 = cc e in absurd (omega arith);
    }

pub clear_behind-requires-in-Ok : goal.clear_behind-requires-in-Ok
clear_behind-requires-in-Ok c =
    let a = c.args in
    let r = c.data_object_messages-read in
    let w = rw c.rows_in.ensures at (sym (met (λ m. messages_out m r.new.table) r.ensures.table_after c.in-Ok.is)) in
    omega (arith, r.auto.table, (rows_fit a.file.now a.offset_width a.length_width a.end_of_file a.position (length a.table.now) a.table.now refl c.in-Ok.progress r.new.table w).0)

pub build_data_object_from_messages-requires : goal.build_data_object_from_messages-requires
build_data_object_from_messages-requires c =
    let a = c.args in
    let r = c.data_object_messages-read in
    let w = rw c.rows_in.ensures at (sym (met (λ m. messages_out m r.new.table) r.ensures.table_after c.in-Ok.is)) in
    let s = rw c.in-Ok.is at r.ensures.state_read in
    (s.1, omega (arith, c.clear_behind-in-Ok.auto.table, r.auto.table, (rows_fit a.file.now a.offset_width a.length_width a.end_of_file a.position (length a.table.now) a.table.now refl c.in-Ok.progress r.new.table w).1))

pub returns-in-Err-clause-decoded : goal.returns-in-Err-clause-decoded
returns-in-Err-clause-decoded c =
    let a = c.args in
    let r = c.data_object_messages-read in
    let w = rw c.rows_in.ensures at (sym (met (λ m. messages_out m r.new.table) r.ensures.table_after c.in-Err.is)) in
    let z : c.clear_behind.new.table ≡ replicate (length a.table.now) 0 = c.clear_behind.ensures ∙ cleared_all r.new.table ∙ ap (λ (m : ℕ). replicate m 0) r.auto.table in
    rejected_decoded a.file.now a.offset_width a.length_width a.end_of_file a.position (length a.table.now) c.in-Err.stopped.refusal _ a.table.now _ c.in-Err.stopped.entries w c.rejected.ensures.rejected_as z

pub returns-in-Ok-clause-decoded : goal.returns-in-Ok-clause-decoded
returns-in-Ok-clause-decoded c =
    let a = c.args in
    let r = c.data_object_messages-read in
    let w = rw c.rows_in.ensures at (sym (met (λ m. messages_out m r.new.table) r.ensures.table_after c.in-Ok.is)) in
    let s = rw c.in-Ok.is at r.ensures.state_read in
    built_decoded a.file.now a.offset_width a.length_width a.end_of_file a.position (length a.table.now) a.table.now refl c.in-Ok.progress r.new.table w s.0 _ r.auto.table c.clear_behind-in-Ok.ensures _ c.build_data_object_from_messages.ensures.built
