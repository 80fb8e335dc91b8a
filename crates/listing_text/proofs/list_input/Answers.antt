-- The bytes that are counted, or all where the count is beyond them: then those are the first so many too.
use lib.Seq.{take_all}
use Rattle.std.proofs.Common.{arith}
use Rattle.listing_text.proofs.list_input.Goals as goal

pub returns-then-n-gt65537-clause-out_after : goal.returns-then-n-gt65537-clause-out_after
returns-then-n-gt65537-clause-out_after c = rw (take_all c.args.n c.args.input.now (omega (arith, c.if-n-gt65537.true, c.told-input))) c.list.ensures.out_after

pub returns-clause-out_after : goal.returns-clause-out_after
returns-clause-out_after c = c.list-2.ensures.out_after
