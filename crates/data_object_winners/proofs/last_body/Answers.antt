-- Row 0 stands for none; any other is read from the table, and its body is taken.
use Rattle.std.specs.Prelude.{Some}
use Rattle.data_object_winners.specs.Facts.{body_some}
use Rattle.row.specs.declared.Row.{Row}
use mathlib.Core.Path.{sym, ap, ◌∙◌}
use Rattle.data_object_winners.proofs.last_body.Goals as goal

pub returns-then-row-eq0 : goal.returns-then-row-eq0
returns-then-row-eq0 c = rw c.if-row-eq0.true

pub returns : goal.returns
returns c = let a = c.args in ap (λ (x : Row). Some x.body) c.row_at.ensures ∙ sym (body_some a.table.now a.row c.if-row-eq0.false)
