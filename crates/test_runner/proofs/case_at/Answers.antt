-- A case is its three parts, one after another, and it is damaged where one of them is.
use Rattle.test_runner.specs.Laws.{cut_name, cut_input, case_is, case_order}
use Rattle.test_runner.proofs.case_at.Goals as goal

pub returns-in_err-name_end : goal.returns-in_err-name_end
returns-in_err-name_end c = rw c.from_residual.ensures (record { case_out = cut_name _ _ c.in_err-name_end.ensures; in_order = tt })

pub returns-in_err-input_end : goal.returns-in_err-input_end
returns-in_err-input_end c = rw c.from_residual-in_err-input_end.ensures (record { case_out = cut_input _ _ _ c.in_ok-name_end.ensures.0 c.in_err-input_end.ensures; in_order = tt })

pub returns-clause-in_order : goal.returns-clause-in_order
returns-clause-in_order c = case_order (case_is _ _ _ c.in_ok-name_end.ensures.0 _ c.in_ok-input_end.ensures.0 _ c.in_ok-end.ensures.0 c.in_ok-end.ensures.1)
