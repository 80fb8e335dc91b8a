-- The reading of all filters from the start is the reading of those left from here, turn by turn.
use Rattle.helpers.specs.Facts.{handed_on}
use Rattle.format.specs.Steps.{read_bind, read_done, times_more, times_none}
use native.Mathlib.Omega.{arith}
use mathlib.Core.Path.{◌≡◌}
use Prim.Native.Nat.{◌+◌, ◌-◌, ◌<◌}
use Rattle.ohdr_storage.proofs.all_filters.Goals as goal

pub returns-in_err-place : goal.returns-in_err-place
returns-in_err-place c =
    let h : 0 < c.args.count - c.loop.counter = omega arith in
    rw (c.loop.invariant, times_more h, read_bind, ← c.filter.ensures, c.in_err-place.was, handed_on c.from_residual.result c.in_err-place.field-0.0 c.from_residual.ensures.1)

pub loop-preserved : goal.loop-preserved
loop-preserved c =
    let h : 0 < c.args.count - c.loop.counter = omega arith in
    let e : c.args.count - c.loop.counter - 1 ≡ c.args.count - (c.loop.counter + 1) = omega arith in
    rw (c.loop.invariant, times_more h, read_bind, ← c.filter.ensures, c.in_ok-place.was, e)

pub returns : goal.returns
returns c =
    let z : c.args.count - c.loop.counter ≡ 0 = omega arith in
    rw (c.loop.invariant, times_none z, read_done)
