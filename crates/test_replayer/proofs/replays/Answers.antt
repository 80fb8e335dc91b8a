-- The text is compared, and must end what is expected.
use Rattle.test_replayer.specs.Laws.{few_rows, answered}
use borrow.Author.Rules.{rules}
use Rattle.test_replayer.proofs.replays.Goals as goal

pub expect_text-reached-requires : goal.expect_text-reached-requires
expect_text-reached-requires c = let h = few_rows _ c.args.lead _ _ c.header_words.ensures.handed in search rules

pub returns : goal.returns
returns c = answered _ c.args.lead _ _ c.header_words.ensures.handed _ _ _ _ c.expect_text-reached.ensures c.ends.ensures
