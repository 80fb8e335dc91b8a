-- Class by class.
use native.Mathlib.Omega.{arith}
use borrow.Author.Tests.{ne_eqb}
use Rattle.ohdr_datatype.specs.DataTypes.{known_class}
use Rattle.ohdr_datatype.proofs.known_class.Goals as goal

pub returns-in-0 : goal.returns-in-0
unfolding known_class
returns-in-0 c = rw c.in-0.is

pub returns-in-1 : goal.returns-in-1
unfolding known_class
returns-in-1 c = rw c.in-1.is

pub returns-in-3 : goal.returns-in-3
unfolding known_class
returns-in-3 c = rw c.in-3.is

pub returns-in-6 : goal.returns-in-6
unfolding known_class
returns-in-6 c = rw c.in-6.is

pub returns-in-7 : goal.returns-in-7
unfolding known_class
returns-in-7 c = rw c.in-7.is

pub returns-in-9 : goal.returns-in-9
unfolding known_class
returns-in-9 c = rw c.in-9.is

pub returns-in_default : goal.returns-in_default
unfolding known_class
returns-in_default c = rw (ne_eqb c.args.class 0 (omega arith), ne_eqb c.args.class 1 (omega arith), ne_eqb c.args.class 3 (omega arith), ne_eqb c.args.class 6 (omega arith), ne_eqb c.args.class 7 (omega arith), ne_eqb c.args.class 9 (omega arith))
