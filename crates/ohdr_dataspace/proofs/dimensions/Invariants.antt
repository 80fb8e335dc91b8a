-- The reading of the sizes from the start is the reading of those left from here, turn by turn.
use Rattle.ohdr_dataspace.specs.DataSpaces.{dimensions_from}
use Rattle.format.specs.Format.{read}
use lib.ListN.{length, replicate}
use mathlib.Core.Path.{◌≡◌}
use Prim.Native.Nat.{◌-◌}
use Rattle.ohdr_dataspace.proofs.dimensions.Given as goal

abbrev pub invariant-loop-i : goal.invariant-loop-i
invariant-loop-i l = (4 ≡ length l.sizes)
    × (read l.fn.file (dimensions_from l.count l.width l.maximum 0 (replicate 4 0)) l.at ≡ read l.file (dimensions_from (l.count - l.i) l.width l.maximum l.i l.sizes) l.place)
