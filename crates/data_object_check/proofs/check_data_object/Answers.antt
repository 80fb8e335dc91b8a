-- The walk without a table says what the definition gives without one.
use mathlib.Core.Path.{sym}
use Rattle.helpers.specs.Facts.{met}
use Rattle.data_object_messages.specs.Messages.{messages_out}
use Rattle.data_object_check.specs.CheckedLaws.{refused_checked, passed_checked}
use Rattle.data_object_check.proofs.check_data_object.Goals as goal

pub returns-in-Err : goal.returns-in-Err
returns-in-Err c =
    let a = c.args in
    let u = c.data_object_messages-read.new.table in
    let s = c.in-Err.stopped in
    refused_checked a.file.now a.offset_width a.length_width a.end_of_file a.position _ s.refusal s.entries (sym (met (λ m. messages_out m u) c.data_object_messages-read.ensures.table_after c.in-Err.is))

pub returns-in-Ok : goal.returns-in-Ok
returns-in-Ok c =
    let a = c.args in
    let u = c.data_object_messages-read.new.table in
    passed_checked a.file.now a.offset_width a.length_width a.end_of_file a.position _ c.in-Ok.progress u (sym (met (λ m. messages_out m u) c.data_object_messages-read.ensures.table_after c.in-Ok.is))
