-- What stands before the text and behind it is left alone.
use Rattle.std.proofs.Common.{rules}
use Rattle.std.proofs.lemmas.Slice.{overwrites}
use Rattle.text.proofs.put_text.Goals as goal

pub returns : goal.returns
returns c = rw c.copy_from_slice.ensures.after (record { same = search (rules, overwrites); next = search rules; behind = search (rules, overwrites) })
