-- The definition reads the header's fields and then walks its messages, and so do the two calls.
use mathlib.Core.Path.{◌∙◌}
use native.Mathlib.Omega.{arith}
use Rattle.ohdr_closing.specs.Answers.{limits_of}
use Rattle.ohdr_closing.specs.Stopping.{was_value, was_refused}
use Rattle.data_object_messages.specs.Laws.{fields_refused, fields_read, fields_bound}
use Rattle.data_object_messages.proofs.header_messages.Goals as goal

pub overflow_add-end : goal.overflow_add-end
overflow_add-end c =
    let a = c.args in
    omega (arith, c.requires, fields_bound a.file.now a.state a.position (limits_of a.limits) a.table.now c.header_fields.ensures (was_value 0 c.header_fields.result c.with_entries.ensures c.in_ok-fields.was))

pub collect_all_messages-requires : goal.collect_all_messages-requires
collect_all_messages-requires c =
    let a = c.args in
    let b = fields_bound a.file.now a.state a.position (limits_of a.limits) a.table.now c.header_fields.ensures (was_value 0 c.header_fields.result c.with_entries.ensures c.in_ok-fields.was) in
    (c.requires.0, c.requires.2, b.1, omega (arith, b.0))

pub returns-in_err-fields : goal.returns-in_err-fields
returns-in_err-fields c =
    let a = c.args in
    let k = was_refused 0 c.header_fields.result c.from_residual.result c.with_entries.ensures c.in_err-fields.was c.from_residual.ensures.1 in
    rw k.on (fields_refused a.file.now a.state a.position (limits_of a.limits) a.table.now c.header_fields.ensures k.was)

pub returns : goal.returns
returns c =
    let a = c.args in
    c.collect_all_messages.ensures ∙ fields_read a.file.now a.state a.position (limits_of a.limits) a.table.now c.header_fields.ensures (was_value 0 c.header_fields.result c.with_entries.ensures c.in_ok-fields.was)
