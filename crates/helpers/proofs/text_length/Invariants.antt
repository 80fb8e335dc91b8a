-- A zero at the end does not count, so the text's length stays the same, turn by turn.
use Rattle.format.specs.Bytes.{text_length}
use mathlib.Core.Path.{◌≡◌}
use Prim.Native.Nat.{◌≤◌}
use Rattle.helpers.proofs.text_length.Given as goal

abbrev pub invariant-loop-n : goal.invariant-loop-n
invariant-loop-n l = (l.n ≤ l.count) × (text_length l.file l.at l.count ≡ text_length l.file l.at l.n)
