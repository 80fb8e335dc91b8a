-- The sum from the start is the sum from block i on, of the blocks that are left and with the words mixed so far.
use mathlib.Core.Path.{◌≡◌}
use Prim.Native.Nat.{◌-◌, ◌*◌}
use Rattle.lookup3.specs.Lookup3.{sum_of, blocks}
use Rattle.lookup3.proofs.lookup3.Given as goal

abbrev pub invariant-loop-i : goal.invariant-loop-i
invariant-loop-i l = sum_of l.part l.length ≡ blocks l.part (12 * l.i) (l.whole - l.i) l.w
