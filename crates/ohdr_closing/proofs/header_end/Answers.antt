-- The bytes up to the end and four more are passed over as the format does, so the checksum is in the file.
use Rattle.helpers.specs.Facts.{handed_on}
use native.Mathlib.Omega.{arith}
use Rattle.format.specs.Steps.{read_skip, read_refuse, read_done}
use Rattle.grammar.specs.Grammar.{header_end}
use Rattle.ohdr_closing.specs.Closing.{taken}
use Rattle.ohdr_closing.proofs.header_end.Goals as goal

pub returns-in_err-reached : goal.returns-in_err-reached
unfolding header_end
returns-in_err-reached c = rw (read_skip, ← c.saturating_sub.ensures, ← c.take.ensures, c.in_err-reached.was, handed_on c.from_residual.result c.in_err-reached.field-0.0 c.from_residual.ensures.1)

pub returns-in_err-next : goal.returns-in_err-next
unfolding header_end
returns-in_err-next c = rw (read_skip, ← c.saturating_sub.ensures, ← c.take.ensures, c.in_ok-reached.was, read_skip, ← c.take-2.ensures, c.in_err-next.was, handed_on c.from_residual-in_err-next.result c.in_err-next.field-0.0 c.from_residual-in_err-next.ensures.1)

pub checksum_matches-requires : goal.checksum_matches-requires
checksum_matches-requires c = let k = taken c.args.file.now _ _ c.take.ensures c.in_ok-reached.was in let j = taken c.args.file.now _ _ c.take-2.ensures c.in_ok-next.was in (c.requires, omega (arith, k.0, j.0, j.1, c.saturating_sub.ensures))

pub returns-then-not-checksum_matches : goal.returns-then-not-checksum_matches
unfolding header_end
returns-then-not-checksum_matches c = rw (read_skip, ← c.saturating_sub.ensures, ← c.take.ensures, c.in_ok-reached.was, read_skip, ← c.take-2.ensures, c.in_ok-next.was, ← c.checksum_matches.ensures, c.if-not-checksum_matches.true, read_refuse)

pub returns : goal.returns
unfolding header_end
returns c = rw (read_skip, ← c.saturating_sub.ensures, ← c.take.ensures, c.in_ok-reached.was, read_skip, ← c.take-2.ensures, c.in_ok-next.was, ← c.checksum_matches.ensures, c.if-not-checksum_matches.false, read_done)
