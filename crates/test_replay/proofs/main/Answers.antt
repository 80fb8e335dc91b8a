-- The buffer that is lent has the length that it was made with.
use Rattle.std.proofs.Common.{ℕ, sym}
use Rattle.std.proofs.lemmas.List.{length-replicate}
use Rattle.test_replay.proofs.main.Goals as goal

pub slice_bounds-replay_answers-end : goal.slice_bounds-replay_answers-end
slice_bounds-replay_answers-end c = sym (length-replicate {A = ℕ} 4194304 0)
