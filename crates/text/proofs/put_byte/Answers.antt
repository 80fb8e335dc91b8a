-- One byte is set in its place, and the others stay.
use Rattle.text.proofs.Laws.{wrote_byte}
use Rattle.text.proofs.put_byte.Goals as goal

pub returns : goal.returns
returns c = wrote_byte _ _ _ c.requires
