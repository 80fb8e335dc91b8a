-- Too many elements are more bytes than any file has; else the count is exact and the text is read.
use Rattle.helpers.specs.Facts.{handed_on}
use mathlib.Core.Path.{sym, ◌∙◌}
use Rattle.format.specs.Steps.{read_here, read_text, read_done}
use Rattle.element_count.specs.Facts.{fits_count, many_count}
use Rattle.ohdr_attribute.specs.Facts.{text_many}
use Rattle.ohdr_attribute.specs.Attributes.{text_value}
use borrow.Author.Rules.{rules}
use Rattle.ohdr_attribute.proofs.text_value.Goals as goal

pub returns-in_default : goal.returns-in_default
unfolding text_value
returns-in_default c n e = rw (read_here, text_many c.args.file.now n _ c.args.at (search rules) (many_count n (sym c.in_default.is ∙ e)))

pub returns-in_err-length : goal.returns-in_err-length
unfolding text_value
returns-in_err-length c n e = rw (read_here, ← fits_count c.in-Some.n n (sym c.in-Some.is ∙ e), read_text, ← c.trim_end.ensures, c.in_err-length.was, handed_on c.from_residual.result c.in_err-length.field-0.0 c.from_residual.ensures.1)

pub returns : goal.returns
unfolding text_value
returns c n e = rw (read_here, ← fits_count c.in-Some.n n (sym c.in-Some.is ∙ e), read_text, ← c.trim_end.ensures, c.in_ok-length.was, read_done)
