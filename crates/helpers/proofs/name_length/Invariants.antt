-- The name's length is the bytes passed so far plus the length from here on, turn by turn.
use Rattle.format.specs.Bytes.{name_length}
use mathlib.Core.Path.{◌≡◌}
use Prim.Native.Nat.{◌+◌, ◌-◌}
use Rattle.helpers.proofs.name_length.Given as goal

abbrev pub invariant-loop-n : goal.invariant-loop-n
invariant-loop-n l = name_length l.file l.at l.limit ≡ l.n + name_length l.file (l.at + l.n) (l.limit - l.n)
