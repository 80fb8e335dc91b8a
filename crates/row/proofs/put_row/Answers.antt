-- Each word is set in its place, and the places are the row's.
use native.Mathlib.Omega.{arith}
use lib.Seq.{sets}
use lib.ListN.{set, length-set}
use Prim.Native.Nat.{ℕ, ◌+◌, ◌*◌}
use mathlib.Core.Path.{ap, ◌∙◌}
use mathlib.Core.List.{List}
use Rattle.row.specs.RowLaws.{row_stored}
use Rattle.row.specs.Rows.{put_row, part_words}
use Rattle.row.proofs.put_row.Goals as goal

pub bounds-table-first-2 : goal.bounds-table-first-2
bounds-table-first-2 c = simp length-set (omega arith)

pub bounds-table-first-3 : goal.bounds-table-first-3
bounds-table-first-3 c = simp length-set (omega arith)

pub bounds-table-first-4 : goal.bounds-table-first-4
bounds-table-first-4 c = simp length-set (omega arith)

pub put_part-requires : goal.put_part-requires
put_part-requires c = simp length-set (omega arith)

pub put_part-requires-2 : goal.put_part-requires-2
put_part-requires-2 c = omega (arith, simp length-set at c.put_part.auto.table)

pub bounds-table-first-5 : goal.bounds-table-first-5
bounds-table-first-5 c = omega (arith, c.put_part-2.auto.table, simp length-set at c.put_part.auto.table)

pub bounds-table-first-6 : goal.bounds-table-first-6
bounds-table-first-6 c = simp length-set (omega (arith, c.put_part-2.auto.table, simp length-set at c.put_part.auto.table))

pub returns : goal.returns
unfolding put_row
returns c = let a = c.args in let r = a.row in let at = a.i * 12 in
    ap (λ (x : List ℕ). set (set x (at + 10) r.number_case) (at + 11) r.number_bits)
    (c.put_part-2.ensures ∙ ap (λ (x : List ℕ). sets x (at + 7) (part_words r.part)) c.put_part.ensures)
    ∙ row_stored a.table.now at r.kind r.flags r.size r.body r.number_case r.number_bits r.name r.part
