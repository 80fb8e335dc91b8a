-- By the superblock: its refusal is the answer, or the check of the header that it leads to.
use mathlib.Core.Path.{refl}
use Rattle.helpers.specs.Facts.{handed_on}
use Rattle.data_object_root.proofs.check_root.Goals as goal

pub returns-in_err-block : goal.returns-in_err-block
returns-in_err-block c = rw (← c.super_block.ensures.result_value, c.in_err-block.was, handed_on c.from_residual.result c.in_err-block.field-0.0 c.from_residual.ensures.1) refl

pub returns : goal.returns
returns c = rw (← c.super_block.ensures.result_value, c.in_ok-block.was) c.check_data_object.ensures
