-- The length is read from four bytes, and then that many must be left.
use Rattle.std.proofs.Common.{arith, ◌∙◌, sym, ◌≡◌, ◌+◌, ◌≤◌, length}
use Rattle.test_runner.specs.Laws.{length-read, length-short}
use Rattle.test_runner.specs.Cases.{part_end}
use Rattle.test_runner.proofs.part_end.Goals.{In_ok-length}
use Rattle.test_runner.proofs.part_end.Goals as goal

length-is : (c : In_ok-length) → (c.in_ok-length.start + c.in_ok-length.length ≡ part_end c.args.cases.now c.args.at) × (c.in_ok-length.start ≤ length c.args.cases.now)
length-is c = length-read _ _ _ _ _ c.le_u32.ensures (sym c.ok.ensures.value ∙ c.in_ok-length.was)

pub returns-in_err-length : goal.returns-in_err-length
returns-in_err-length c = rw c.from_residual.ensures (length-short _ _ _ c.le_u32.ensures (sym c.ok.ensures.value ∙ c.in_err-length.was))

pub overflow_sub-cases : goal.overflow_sub-cases
overflow_sub-cases c = (length-is (goal.at.overflow_sub-cases c).In_ok-length).1

pub returns-then-cases-start : goal.returns-then-cases-start
returns-then-cases-start c = omega (arith, length-is (goal.at.returns-then-cases-start c).In_ok-length)

pub returns : goal.returns
returns c = let h = length-is (goal.at.returns c).In_ok-length in (h.0, omega (arith, h))
