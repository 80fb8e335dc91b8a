-- The check's refusal is written, or what the filling gives; which of them is the listing says the definition's own check.
use mathlib.Core.Path.{◌∙◌}
use Rattle.listing_text.proofs.Laws.{wrote_counts, check_refused, check_passed}
use Rattle.listing_text.proofs.list_header.Goals as goal

pub returns-in-Err-clause-counts : goal.returns-in-Err-clause-counts
returns-in-Err-clause-counts c = wrote_counts c.put_refused.ensures

pub returns-in-Err-clause-out_after : goal.returns-in-Err-clause-out_after
returns-in-Err-clause-out_after c = let a = c.args in c.put_refused.ensures.same ∙ rw c.number-check.ensures (check_refused a.file.now a.offset_width a.length_width a.end_of_file a.position _ c.check_data_object.ensures c.in-Err.refusal c.in-Err.is)

pub returns-in-Ok-clause-counts : goal.returns-in-Ok-clause-counts
returns-in-Ok-clause-counts c = wrote_counts c.fill_header.ensures

pub returns-in-Ok-clause-out_after : goal.returns-in-Ok-clause-out_after
returns-in-Ok-clause-out_after c = let a = c.args in c.fill_header.ensures.same ∙ check_passed a.file.now a.offset_width a.length_width a.end_of_file a.position _ c.check_data_object.ensures c.in-Ok.field-0 c.in-Ok.is
