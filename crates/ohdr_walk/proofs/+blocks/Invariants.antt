-- An entry opens a block one level below, so the calls end; a block's run is walked, turn by turn.
use Prim.Native.Nat.{◌+◌, ◌-◌, ◌*◌}
use Rattle.ohdr_walk.specs.Loop.{Along}
use Rattle.ohdr_walk.specs.Code.{run_of}
use Rattle.ohdr_closing.specs.Answers.{walked_of}
use Rattle.ohdr_walk.proofs.+blocks.Given as goal

abbrev pub invariant-message_block-loop-progress : goal.invariant-message_block-loop-progress
invariant-message_block-loop-progress l =
    Along l.file l.header l.limits l.levels l.end (run_of l.file l.header l.limits l.levels l.end l.initial.progress.at (walked_of l.initial.progress l.initial.table)) l.initial.table l.progress l.table

abbrev pub decreases-message_block-loop-progress : goal.decreases-message_block-loop-progress
decreases-message_block-loop-progress l = l.limits.entries - l.progress.entries

abbrev pub decreases-message_block : goal.decreases-message_block
decreases-message_block l = l.levels * 2 + 1

abbrev pub decreases-message_entry : goal.decreases-message_entry
decreases-message_entry l = l.levels * 2
