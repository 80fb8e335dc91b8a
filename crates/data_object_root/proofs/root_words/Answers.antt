-- By the superblock: what is refused is cleared, and else the header's words are those of its root.
use mathlib.Core.Path.{◌∙◌}
use Rattle.records.specs.Refusals.{refusal_number}
use Rattle.row.specs.Clearing.{cleared_all}
use Rattle.data_object_root.specs.Laws.{refused_true}
use Rattle.data_object_root.proofs.root_words.Goals as goal

pub returns-in-Err-clause-handed_root : goal.returns-in-Err-clause-handed_root
returns-in-Err-clause-handed_root c = rw (← c.super_block.ensures.result_value, c.in-Err.is) (c.clear_behind.ensures ∙ cleared_all c.args.table.now, c.put_refusal.ensures)

pub returns-in-Err-clause-true_words : goal.returns-in-Err-clause-true_words
returns-in-Err-clause-true_words c = rw c.put_refusal.ensures (refused_true (refusal_number c.in-Err.refusal))

pub returns-in-Ok-clause-handed_root : goal.returns-in-Ok-clause-handed_root
returns-in-Ok-clause-handed_root c = rw (← c.super_block.ensures.result_value, c.in-Ok.is) c.header_words.ensures.handed
