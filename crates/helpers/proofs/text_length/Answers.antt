-- A zero at the end does not count, so the text's length stays the same, turn by turn.
use Rattle.format.specs.BytesLaws.{text_none, text_step, text_full}
use native.Mathlib.Omega.{arith}
use Prim.Native.Nat.{◌-◌}
use Rattle.helpers.proofs.text_length.Goals as goal

pub returns-then-file-at-ne0 : goal.returns-then-file-at-ne0
returns-then-file-at-ne0 c = (omega (arith, text_full c.args.file.now c.args.at c.loop-n.n (c.loop-n.n - 1) c.if-file-at-ne0.true (omega arith)), omega arith)

pub loop-n-preserved : goal.loop-n-preserved
loop-n-preserved c = (omega arith, omega (arith, text_step c.args.file.now c.args.at c.loop-n.n (c.loop-n.n - 1) c.if-file-at-ne0.false (omega arith)))

pub returns : goal.returns
returns c = (omega (arith, text_none c.args.file.now c.args.at c.loop-n.n (omega arith)), omega arith)
