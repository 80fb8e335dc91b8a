-- In either case the three words are set in their places, a refusal by its number.
use lib.ListN.{length-set}
use native.Mathlib.Omega.{arith}
use Rattle.data_object_words.proofs.put_answer.Goals as goal

pub bounds-words-1 : goal.bounds-words-1
bounds-words-1 c = simp length-set (omega arith)

pub bounds-words-1-in-Err : goal.bounds-words-1-in-Err
bounds-words-1-in-Err c = simp length-set (omega arith)

pub returns-in-Ok : goal.returns-in-Ok
returns-in-Ok c = rw c.in-Ok.is

pub returns-in-Err : goal.returns-in-Err
returns-in-Err c = rw (c.in-Err.is, c.number.ensures)
