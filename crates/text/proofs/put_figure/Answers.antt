-- A figure of 64 bits has at most 20 digits.
use Rattle.std.proofs.Common.{arith, rules, ◌≤◌, length}
use Rattle.text.proofs.Laws.{decimal_20}
use Rattle.text.specs.Text.{decimal}
use Rattle.text.proofs.put_figure.Goals.{In-Some}
use Rattle.text.proofs.put_figure.Goals as goal

few : (c : In-Some) → length (decimal c.in-Some.n) ≤ 20
few c = decimal_20 c.in-Some.n (search (rules, c.well_formed))

pub put_decimal-requires : goal.put_decimal-requires
put_decimal-requires c = omega (arith, few (goal.at.put_decimal-requires c).In-Some)

pub returns-in-Some-clause-upper_bound : goal.returns-in-Some-clause-upper_bound
returns-in-Some-clause-upper_bound c = omega (arith, few (goal.at.returns-in-Some-clause-upper_bound c).In-Some, c.put_decimal.ensures.next)
