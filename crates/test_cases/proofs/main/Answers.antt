-- The buffer that is lent has the length that it was made with.
use Rattle.std.proofs.Common.{ℕ, sym}
use Rattle.std.proofs.lemmas.List.{length-replicate}
use Rattle.test_cases.proofs.main.Goals as goal

pub slice_bounds-run_files-end : goal.slice_bounds-run_files-end
slice_bounds-run_files-end c = sym (length-replicate {A = ℕ} 4194304 0)
