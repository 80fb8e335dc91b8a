-- The words are those of the answer, which is the superblock's reading.
use Rattle.firmware.proofs.dowringaf_super_block.Goals as goal

pub returns : goal.returns
returns c = rw (← c.super_block-answer.ensures.result_value) c.from.ensures
