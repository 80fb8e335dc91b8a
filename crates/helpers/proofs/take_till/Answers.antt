-- A name ends at a zero in the file or at its limit, and the tests tell these two from a short one.
use Rattle.format.specs.BytesLaws.{name_outside}
use Rattle.format.specs.Steps.{name_room}
use borrow.Author.Tests.{lt-ltb, le-ltb, le-leb, eq-eqb, ne_eqb}
use Rattle.helpers.proofs.take_till.Goals as goal

pub returns-then-file-at : goal.returns-then-file-at
returns-then-file-at c = rw (name_room, name_outside _ _ _ _ c.if-file-at.true)

pub returns-then-end-file : goal.returns-then-end-file
returns-then-end-file c = rw (name_room, ← c.name_length-n.ensures.0, lt-ltb _ _ c.if-end-file.true)

pub returns-then-n-limit : goal.returns-then-n-limit
returns-then-n-limit c = rw (name_room, ← c.name_length-n.ensures.0, le-ltb _ _ c.if-end-file.false, eq-eqb _ _ c.if-n-limit.true, le-leb _ _ c.name_length-n.ensures.1)

pub returns : goal.returns
returns c = rw (name_room, ← c.name_length-n.ensures.0, le-ltb _ _ c.if-end-file.false, ne_eqb _ _ c.if-n-limit.false)
