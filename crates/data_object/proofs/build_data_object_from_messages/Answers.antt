-- Each record is read from the last row of its type, which the one pass over the rows has found.
use mathlib.Core.Path.{refl}
use native.Mathlib.Omega.{arith}
use Rattle.data_object_winners.specs.LastRows.{last_within, last_at}
use Rattle.data_object.proofs.build_data_object_from_messages.Goals as goal

pub winning_data_type-requires : goal.winning_data_type-requires
winning_data_type-requires c = last_within c.args.table.now _ 3 c.args.progress.rows (omega arith) c.last_rows.ensures c.requires.1

pub winning_data_space-requires : goal.winning_data_space-requires
winning_data_space-requires c = (c.requires.0, last_within c.args.table.now _ 1 c.args.progress.rows (omega arith) c.last_rows.ensures c.requires.1)

pub winning_link_info-requires : goal.winning_link_info-requires
winning_link_info-requires c = (c.requires.0, last_within c.args.table.now _ 2 c.args.progress.rows (omega arith) c.last_rows.ensures c.requires.1)

pub winning_attribute_info-requires : goal.winning_attribute_info-requires
winning_attribute_info-requires c = (c.requires.0, last_within c.args.table.now _ 21 c.args.progress.rows (omega arith) c.last_rows.ensures c.requires.1)

pub winning_group_info-requires : goal.winning_group_info-requires
winning_group_info-requires c = last_within c.args.table.now _ 10 c.args.progress.rows (omega arith) c.last_rows.ensures c.requires.1

pub winning_data_layout-requires : goal.winning_data_layout-requires
winning_data_layout-requires c = (c.requires.0, last_within c.args.table.now _ 8 c.args.progress.rows (omega arith) c.last_rows.ensures c.requires.1)

pub returns-clause-built : goal.returns-clause-built
returns-clause-built c =
    let t = c.args.table.now in
    let n = c.args.progress.rows in
    let last = c.last_rows.ensures in
    record {
      answer = refl;
      rows = refl;
      ds = rw (← last_at t _ 1 n (omega arith) last) c.winning_data_space.ensures.value;
      dt = rw (← last_at t _ 3 n (omega arith) last) c.winning_data_type.ensures;
      li = rw (← last_at t _ 2 n (omega arith) last) c.winning_link_info.ensures;
      gi = rw (← last_at t _ 10 n (omega arith) last) c.winning_group_info.ensures;
      ai = rw (← last_at t _ 21 n (omega arith) last) c.winning_attribute_info.ensures;
      layout = rw (← last_at t _ 8 n (omega arith) last) c.winning_data_layout.ensures;
    }
