-- All words are cleared, and the number and the one element are put in their places.
use Rattle.row.specs.Clearing.{cleared_all}
use Rattle.data_object_root.proofs.put_refusal.Goals as goal

pub returns : goal.returns
returns c = rw (c.clear_behind.ensures, cleared_all c.args.words.now, c.requires, c.number.ensures)
