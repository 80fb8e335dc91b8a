-- The bytes up to the end are passed over as the format does, so the checksum's bytes are in the file.
use Rattle.helpers.specs.Facts.{handed_on}
use native.Mathlib.Omega.{arith}
use Rattle.format.specs.Steps.{read_skip, read_refuse, read_done}
use Rattle.grammar.specs.Grammar.{block_end}
use Rattle.ohdr_closing.specs.Closing.{taken}
use Rattle.ohdr_closing.proofs.block_end.Goals as goal

pub returns-in_err-next : goal.returns-in_err-next
unfolding block_end
returns-in_err-next c = rw (read_skip, ← c.saturating_sub.ensures, ← c.take.ensures, c.in_err-next.was, handed_on c.from_residual.result c.in_err-next.field-0.0 c.from_residual.ensures.1)

pub checksum_matches-requires : goal.checksum_matches-requires
checksum_matches-requires c = let k = taken c.args.file.now _ _ c.take.ensures c.in_ok-next.was in (omega (arith, c.requires), omega (arith, k.0, k.1, c.saturating_sub.ensures, c.requires))

pub returns-then-not-checksum_matches : goal.returns-then-not-checksum_matches
unfolding block_end
returns-then-not-checksum_matches c = rw (read_skip, ← c.saturating_sub.ensures, ← c.take.ensures, c.in_ok-next.was, ← c.checksum_matches.ensures, c.if-not-checksum_matches.true, read_refuse)

pub returns : goal.returns
unfolding block_end
returns c = rw (read_skip, ← c.saturating_sub.ensures, ← c.take.ensures, c.in_ok-next.was, ← c.checksum_matches.ensures, c.if-not-checksum_matches.false, read_done)
