-- What is written into the small buffer is the field, and the call looks for it.
use mathlib.Core.Path.{ap}
use lib.ListN.{length}
use native.Mathlib.Omega.{arith}
use Rattle.test_report.proofs.expect_field.Goals as goal

pub slice_bounds-expect_bytes-end : goal.slice_bounds-expect_bytes-end
slice_bounds-expect_bytes-end c = omega (arith, ap length c.put_field-k.ensures.wrote.same, c.put_field-k.ensures.wrote.next)

pub returns : goal.returns
returns c = rw c.put_field-k.ensures.wrote.same at c.expect_bytes.ensures
