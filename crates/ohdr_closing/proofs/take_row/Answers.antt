-- A message takes the next row of the table; beyond the last it is counted alone, or refused, and so by the definition.
use native.Mathlib.Omega.{arith}
use Rattle.ohdr_closing.specs.Taking.{stored, counted, no_row}
use Rattle.ohdr_closing.proofs.take_row.Goals as goal

pub put_row-requires : goal.put_row-requires
put_row-requires c = omega (arith, c.if-from-rows.true, c.requires.0.room c.in-Some.rows c.in-Some.is)

pub returns-in-Some : goal.returns-in-Some
returns-in-Some c = let a = c.args in stored a.limits a.from a.row a.next a.table.now _ c.in-Some.is c.if-from-rows.true c.put_row.ensures

pub returns-in-None : goal.returns-in-None
returns-in-None c = let a = c.args in counted a.limits a.from a.row a.next a.table.now c.requires.0 c.in-None.is

pub returns-in-Some-2 : goal.returns-in-Some-2
returns-in-Some-2 c = let a = c.args in no_row a.limits a.from a.row a.next a.table.now c.in-Some.is c.if-from-rows.false
