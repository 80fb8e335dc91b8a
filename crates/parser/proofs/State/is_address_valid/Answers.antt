-- The two tests are those of the definition: above zero, and below the end-of-file address.
use native.Mathlib.Omega.{arith}
use borrow.Author.Tests.{lt-ltb}
use Rattle.parser.proofs.State.is_address_valid.Goals as goal

pub returns-then-address-eq0 : goal.returns-then-address-eq0
returns-then-address-eq0 c = rw c.if-address-eq0.true

pub returns : goal.returns
returns c = rw (lt-ltb 0 c.args.address (omega arith))
