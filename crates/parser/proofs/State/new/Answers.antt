-- The definition makes the same two tests of the widths, so the first that fails decides.
use Rattle.parser.proofs.State.new.Goals as goal

pub returns-then-not-width_allowed : goal.returns-then-not-width_allowed
returns-then-not-width_allowed c = rw (← c.width_allowed.ensures, c.if-not-width_allowed.true)

pub returns-then-not-width_allowed-2 : goal.returns-then-not-width_allowed-2
returns-then-not-width_allowed-2 c = rw (← c.width_allowed.ensures, c.if-not-width_allowed.false, ← c.width_allowed-2.ensures, c.if-not-width_allowed-2.true)

pub returns : goal.returns
returns c = rw (← c.width_allowed.ensures, c.if-not-width_allowed.false, ← c.width_allowed-2.ensures, c.if-not-width_allowed-2.false)
