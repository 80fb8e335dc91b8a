-- The name's length is the bytes passed so far plus the length from here on, turn by turn.
use Rattle.format.specs.BytesLaws.{name_none, name_zero, name_past, name_step}
use native.Mathlib.Omega.{arith}
use mathlib.Core.Path.{◌≡◌}
use Prim.Native.Nat.{◌+◌, ◌-◌}
use Rattle.helpers.proofs.name_length.Goals as goal
use Rattle.helpers.proofs.name_length.Goals.{then-room-limit, else-room-limit}

pub loop-n-init : goal.loop-n-init
loop-n-init c = let p : c.args.at + 0 ≡ c.args.at = omega arith in let l : c.args.limit - 0 ≡ c.args.limit = omega arith in rw (p, l) (omega arith)

pub returns-then-file-at-eq0 : goal.returns-then-file-at-eq0
returns-then-file-at-eq0 c = (omega (arith, name_zero c.args.file.now (c.args.at + c.loop-n.n) (c.args.limit - c.loop-n.n) c.if-file-at-eq0.true), omega arith)

pub loop-n-preserved : goal.loop-n-preserved
loop-n-preserved c = omega (arith, name_step c.args.file.now (c.args.at + c.loop-n.n) (c.args.at + (c.loop-n.n + 1)) (c.args.limit - c.loop-n.n) (c.args.limit - (c.loop-n.n + 1)) c.if-file-at-eq0.false (omega arith) (omega arith))

pub returns : goal.returns
returns c =
    elim c.if-room-limit.branch [
      | then-room-limit w ↦ (omega (arith, name_past c.args.file.now (c.args.at + c.loop-n.n) (c.args.limit - c.loop-n.n) (omega arith)), omega arith)
      | else-room-limit w ↦ (omega (arith, name_none c.args.file.now (c.args.at + c.loop-n.n) (c.args.limit - c.loop-n.n) (omega arith)), omega arith)
    ]
