-- The two tests together compare the end with the file's length, and no sum can wrap.
use borrow.Author.Tests.{le-leb, lt-leb}
use native.Mathlib.Omega.{arith}
use lib.ListN.{length}
use mathlib.Core.Path.{sym}
use Prim.Native.Nat.{◌+◌}
use Rattle.helpers.proofs.has.Goals as goal

pub returns-then-file-at : goal.returns-then-file-at
returns-then-file-at c = sym (lt-leb (c.args.at + c.args.count) (length c.args.file.now) (omega arith))

pub returns-then-file-at-2 : goal.returns-then-file-at-2
returns-then-file-at-2 c = sym (lt-leb (c.args.at + c.args.count) (length c.args.file.now) (omega arith))

pub returns : goal.returns
returns c = sym (le-leb (c.args.at + c.args.count) (length c.args.file.now) (omega arith))
