-- Both tests together say that the part lies in the file; then its bytes are the first of what follows.
use lib.ListN.{length, take, drop, length-drop}
use lib.Seq.{take_all}
use borrow.Author.Tests.{le-leb, lt-leb}
use native.Mathlib.Omega.{arith}
use mathlib.Core.Path.{ap, ◌∙◌}
use Prim.Native.Nat.{◌+◌, ◌-◌}
use Rattle.data_object.proofs.layout_data.Goals as goal

pub returns-then-file-position : goal.returns-then-file-position
returns-then-file-position c = rw (lt-leb (c.args.part.position + c.args.part.length) (length c.args.file.now) (omega arith))

pub returns-then-file-position-2 : goal.returns-then-file-position-2
returns-then-file-position-2 c = rw (lt-leb (c.args.part.position + c.args.part.length) (length c.args.file.now) (omega arith))

pub returns : goal.returns
returns c = rw (le-leb (c.args.part.position + c.args.part.length) (length c.args.file.now) (omega arith)) (c.contiguous_bytes.ensures ∙ ap (take c.args.part.length) (take_all (length c.args.file.now - c.args.part.position) (drop c.args.part.position c.args.file.now) (omega (arith, length-drop c.args.part.position c.args.file.now))))
