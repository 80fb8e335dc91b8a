-- Widths and size are tested first, as in the definition; then the header is walked.
use mathlib.Core.Path.{sym, ◌∙◌}
use Rattle.helpers.specs.Facts.{met}
use Rattle.parser.specs.StateLaws.{made, made_widths}
use Rattle.ohdr_closing.specs.Answers.{limits_of, walk_out}
use Rattle.ohdr_closing.specs.Stopping.{was_value, was_refused, stopped_on}
use Rattle.data_object_messages.specs.Laws.{not_made, not_small, goes_in}
use Rattle.data_object_messages.proofs.data_object_messages.Goals as goal

pub returns-in_err-state-clause-table_after : goal.returns-in_err-state-clause-table_after
returns-in_err-state-clause-table_after c =
    let a = c.args in
    let k = was_refused 0 c.new-made.result c.from_residual.result c.with_entries.ensures c.in_err-state.was c.from_residual.ensures.1 in
    rw k.on (not_made a.file.now a.offset_width a.length_width a.end_of_file a.position (limits_of a.limits) a.table.now (sym c.new-made.ensures ∙ k.was))

pub returns-then-file-gt-FILE_LIMIT-clause-table_after : goal.returns-then-file-gt-FILE_LIMIT-clause-table_after
returns-then-file-gt-FILE_LIMIT-clause-table_after c =
    let a = c.args in
    let m = sym c.new-made.ensures ∙ was_value 0 c.new-made.result c.with_entries.ensures c.in_ok-state.was in
    not_small a.file.now a.offset_width a.length_width a.end_of_file a.position (limits_of a.limits) a.table.now m c.if-file-gt-FILE_LIMIT.true

pub header_messages-requires : goal.header_messages-requires
header_messages-requires c =
    let a = c.args in
    let m = sym c.new-made.ensures ∙ was_value 0 c.new-made.result c.with_entries.ensures c.in_ok-state.was in
    (made_widths a.offset_width a.length_width a.end_of_file c.in_ok-state.state m, c.if-file-gt-FILE_LIMIT.false, c.requires)

pub returns-in_err-progress-clause-table_after : goal.returns-in_err-progress-clause-table_after
returns-in_err-progress-clause-table_after c =
    let a = c.args in
    let m = sym c.new-made.ensures ∙ was_value 0 c.new-made.result c.with_entries.ensures c.in_ok-state.was in
    let f = c.from_residual-in_err-progress in
    let refused = sym (met (λ w. walk_out w c.header_messages.new.table) c.header_messages.ensures c.in_err-progress.was) in
    rw (stopped_on f.result c.in_err-progress.field-0.0 f.ensures.1) (
    refused ∙ goes_in a.file.now a.offset_width a.length_width a.end_of_file a.position (limits_of a.limits) a.table.now m c.if-file-gt-FILE_LIMIT.false)

pub returns-clause-table_after : goal.returns-clause-table_after
returns-clause-table_after c =
    let a = c.args in
    let m = sym c.new-made.ensures ∙ was_value 0 c.new-made.result c.with_entries.ensures c.in_ok-state.was in
    let reached = sym (met (λ w. walk_out w c.header_messages.new.table) c.header_messages.ensures c.in_ok-progress.was) in
    reached ∙ goes_in a.file.now a.offset_width a.length_width a.end_of_file a.position (limits_of a.limits) a.table.now m c.if-file-gt-FILE_LIMIT.false

pub returns-clause-state_read : goal.returns-clause-state_read
returns-clause-state_read c =
    let a = c.args in
    let m = sym c.new-made.ensures ∙ was_value 0 c.new-made.result c.with_entries.ensures c.in_ok-state.was in
    ((made a.offset_width a.length_width a.end_of_file m).1, made_widths a.offset_width a.length_width a.end_of_file c.in_ok-state.state m)
