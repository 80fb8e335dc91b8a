-- A number past the end is zero, and one that the end cuts is that of the bytes before the end.
use lib.ListN.{length, get_or}
use Prim.Native.Nat.{ℕ, ◌-◌, ◌<◌}
use mathlib.Core.Path.{sym, ◌∙◌}
use Rattle.format.specs.BytesLaws.{le_below}
use Rattle.lookup3.specs.Laws.{le_past, le_cut}
use native.Mathlib.Omega.{arith}
use Rattle.lookup3.proofs.word.Goals as goal

pub returns-then-part-at : goal.returns-then-part-at
returns-then-part-at c = rw (le_past c.args.part.now c.args.at 4 (omega arith))

pub overflow_cast-result : goal.overflow_cast-result
overflow_cast-result c = let b : (i : ℕ) → get_or c.args.part.now i 0 < 256 = λ i. omega (arith, c.type_inv.part i) in
    omega (arith, le_below c.args.part.now b c.args.at 4, le_cut c.args.part.now c.args.at (length c.args.part.now - c.args.at) 4 (omega arith) (omega arith))

pub returns-then-part-at-lt4 : goal.returns-then-part-at-lt4
returns-then-part-at-lt4 c = c.bytes_of.ensures ∙ sym (le_cut c.args.part.now c.args.at (length c.args.part.now - c.args.at) 4 (omega arith) (omega arith))
