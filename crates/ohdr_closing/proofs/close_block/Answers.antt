-- What closes the block is found or refused, and in either case the definition goes on as the code does.
use Rattle.grammar.specs.WalkLaws.{found_then, refused_then}
use Rattle.helpers.specs.Answers.{place_out}
use Rattle.helpers.specs.Facts.{met}
use mathlib.Core.Path.{sym}
use Rattle.ohdr_closing.specs.Stopping.{was_value, was_refused}
use Rattle.ohdr_closing.proofs.close_block.Goals as goal

pub returns-in_err-with_entries : goal.returns-in_err-with_entries
returns-in_err-with_entries c =
    let k = was_refused c.args.last.entries c.block_end.result c.from_residual.result c.with_entries.ensures c.in_err-with_entries.was c.from_residual.ensures.1 in
    λ t. rw k.on (sym (refused_then _ _ (met place_out c.block_end.ensures k.was)))

pub returns : goal.returns
returns c = λ t. sym (found_then _ _ (met place_out c.block_end.ensures (was_value c.args.last.entries c.block_end.result c.with_entries.ensures c.in_ok-with_entries.was)))
