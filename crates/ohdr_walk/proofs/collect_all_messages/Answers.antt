-- The header's run of entries is what the call walks, and then its end refuses or closes it.
use Rattle.ohdr_closing.specs.Stopping.{was_value, was_refused, stopped_on}
use Rattle.ohdr_walk.specs.Heading.{unwalked, ajar, shut}
use Rattle.ohdr_walk.proofs.collect_all_messages.Goals as goal

pub returns-in_err-last : goal.returns-in_err-last
returns-in_err-last c =
    let a = c.args in
    rw (stopped_on c.from_residual.result c.in_err-last.field-0.0 c.from_residual.ensures.1) (unwalked a.file.now a.header a.limits a.from a.end a.at a.table.now c.message_block.new.table c.message_block.ensures c.in_err-last.was)

pub returns-in_err-next : goal.returns-in_err-next
returns-in_err-next c =
    let a = c.args in
    let f = c.from_residual-in_err-next in
    let k = was_refused c.in_ok-last.last.entries c.header_end.result f.result c.with_entries.ensures c.in_err-next.was f.ensures.1 in
    rw k.on (ajar a.file.now a.header a.limits a.from a.end a.at a.table.now c.message_block.new.table c.message_block.ensures c.in_ok-last.was c.header_end.ensures k.was)

pub returns : goal.returns
returns c =
    let a = c.args in
    let k = was_value c.in_ok-last.last.entries c.header_end.result c.with_entries.ensures c.in_ok-next.was in
    shut a.file.now a.header a.limits a.from a.end a.at a.table.now c.message_block.new.table c.message_block.ensures c.in_ok-last.was c.header_end.ensures k
