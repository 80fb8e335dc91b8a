-- Both tests together say that the name lies in the text; then the answer is the single lookup's.
use native.Mathlib.Omega.{arith}
use Rattle.std.specs.Prelude.{Some, None, Ok, Err}
use Rattle.lookup_names.specs.Facts.{leaving, looked_up, row_below}
use Rattle.lookup_names.proofs.lookup_name.Goals as goal

pub returns-then-text-position : goal.returns-then-text-position
returns-then-text-position c = leaving (omega arith)

pub returns-then-room-size : goal.returns-then-room-size
returns-then-room-size c = leaving (omega arith)

pub overflow_add-result : goal.overflow_add-result
overflow_add-result c = omega (arith, row_below _ _ _ _ c.lookup.result c.in-Ok-Some.row (cc) c.lookup.ensures)

pub returns-in-Ok-Some : goal.returns-in-Ok-Some
returns-in-Ok-Some c = looked_up (omega arith) c.lookup.result (Ok (Some c.in-Ok-Some.row)) (cc) c.lookup.ensures

pub returns-in-Ok-None : goal.returns-in-Ok-None
returns-in-Ok-None c = looked_up (omega arith) c.lookup.result (Ok None) (cc) c.lookup.ensures

pub returns-in-Err : goal.returns-in-Err
returns-in-Err c = looked_up (omega arith) c.lookup.result (Err c.in-Err.field-0) c.in-Err.is c.lookup.ensures
