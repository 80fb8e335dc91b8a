-- After each turn the array is right for the rows passed so far, and at the end those are all of them.
use Rattle.data_object_winners.specs.Winners.{last_rows}
use mathlib.Core.Path.{◌≡◌}
use Rattle.data_object_winners.proofs.last_rows.Given as goal

abbrev pub invariant-loop-row : goal.invariant-loop-row
invariant-loop-row l = l.last ≡ last_rows l.initial.last l.table l.row
