-- After each turn the lines of the rows so far are written, each in at most 189 bytes.
use Rattle.std.proofs.Common.{◌≡◌, refl, rules}
use Rattle.text.proofs.Laws.{then, wrote_none}
use Rattle.listing_text.proofs.Laws.{lines_more}
use Rattle.listing_text.proofs.put_lines.Goals as goal

pub loop-i-init : goal.loop-i-init
loop-i-init c = record { room = search rules; long = refl; wrote = wrote_none _ 0 }

pub loop-i-preserved : goal.loop-i-preserved
loop-i-preserved c = record { room = search rules; long = search rules; wrote = rw (lines_more, ← c.row_at.ensures) (then c.loop-i.invariant.wrote c.put_line-at.ensures.wrote) }

pub returns-clause-wrote : goal.returns-clause-wrote
returns-clause-wrote c = let e : c.loop-i.i ≡ c.args.rows = search rules in rw e at c.loop-i.invariant.wrote
