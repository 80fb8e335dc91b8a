-- Without a lead nothing passes, by whichever text; with one, the file is what is left behind it.
use native.Mathlib.Omega.{arith}
use Rattle.test_replayer.specs.Laws.{lead_inside, part_rest}
use Rattle.test_replayer.proofs.passes_header.Goals as goal

pub returns-in_default : goal.returns-in_default
returns-in_default c = rw (← c.read_lead.ensures, c.in_default.is)

pub slice_bounds-file-count : goal.slice_bounds-file-count
slice_bounds-file-count c = omega (arith, lead_inside _ c.read_lead.ensures c.in-Ok.is)

pub returns-in-Listing : goal.returns-in-Listing
returns-in-Listing c = rw (c.in-Listing.is, ← c.read_lead.ensures, c.in-Ok.is, ← part_rest _ c.args.input.now) c.lists_header.ensures

pub returns-in-Decoded : goal.returns-in-Decoded
returns-in-Decoded c = rw (c.in-Decoded.is, ← c.read_lead.ensures, c.in-Ok.is, ← part_rest _ c.args.input.now) c.replays.ensures

pub slice_bounds-file-start : goal.slice_bounds-file-start
slice_bounds-file-start c = omega (arith, lead_inside _ c.read_lead.ensures c.in-Ok.is)
