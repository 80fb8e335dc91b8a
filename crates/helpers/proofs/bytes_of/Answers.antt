-- Size by size: either one call reads the number, or it is four bytes plus the rest, shifted.
use Rattle.format.specs.BytesLaws.{le_none, le_split}
use native.Mathlib.Omega.{arith}
use Rattle.helpers.proofs.bytes_of.Goals as goal

pub returns-in-0 : goal.returns-in-0
returns-in-0 c = rw c.in-0.is (le_none c.args.file.now c.args.at)

pub returns-in-1 : goal.returns-in-1
returns-in-1 c = rw c.in-1.is c.bytes_1.ensures.0

pub returns-in-2 : goal.returns-in-2
returns-in-2 c = rw c.in-2.is c.bytes_2.ensures.0

pub returns-in-3 : goal.returns-in-3
returns-in-3 c = rw c.in-3.is c.bytes_3.ensures.0

pub returns-in-4 : goal.returns-in-4
returns-in-4 c = rw c.in-4.is c.bytes_4.ensures.0

pub returns-in-5 : goal.returns-in-5
returns-in-5 c = rw c.in-5.is (omega (arith, le_split c.args.file.now c.args.at 4 1))

pub returns-in-6 : goal.returns-in-6
returns-in-6 c = rw c.in-6.is (omega (arith, le_split c.args.file.now c.args.at 4 2))

pub returns-in-7 : goal.returns-in-7
returns-in-7 c = rw c.in-7.is (omega (arith, le_split c.args.file.now c.args.at 4 3))
