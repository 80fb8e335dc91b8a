-- Both tests together say that the part lies in the file; if one fails, the part leaves it.
use Rattle.firmware.specs.Laws.{part_lies, part_leaves}
use native.Mathlib.Omega.{arith}
use Rattle.firmware.proofs.dowringaf_layout_data.Goals as goal

pub returns-then-file-position : goal.returns-then-file-position
returns-then-file-position c = part_leaves c.args.file.now _ (omega arith)

pub returns-then-file-position-2 : goal.returns-then-file-position-2
returns-then-file-position-2 c = part_leaves c.args.file.now _ (omega arith)

pub returns : goal.returns
returns c = part_lies c.args.file.now _ (omega arith)
