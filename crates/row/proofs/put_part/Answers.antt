-- In either case the three words are set in their places.
use lib.ListN.{length-set}
use native.Mathlib.Numerals.{towards_suc}
use native.Mathlib.Omega.{arith}
use Rattle.row.proofs.put_part.Goals as goal

pub bounds-table-at-in-None : goal.bounds-table-at-in-None
bounds-table-at-in-None c = simp length-set (omega arith)

pub bounds-table-at-in-None-2 : goal.bounds-table-at-in-None-2
bounds-table-at-in-None-2 c = simp length-set (omega arith)

pub bounds-table-at-in-Some-2 : goal.bounds-table-at-in-Some-2
bounds-table-at-in-Some-2 c = simp length-set (omega arith)

pub bounds-table-at-in-Some-3 : goal.bounds-table-at-in-Some-3
bounds-table-at-in-Some-3 c = simp length-set (omega arith)

pub returns-in-None : goal.returns-in-None
returns-in-None c = rw c.in-None.is (simp towards_suc)

pub returns-in-Some : goal.returns-in-Some
returns-in-Some c = rw c.in-Some.is (simp towards_suc)
