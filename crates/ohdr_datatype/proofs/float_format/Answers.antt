-- The properties are one step of the format, and the test for IEEE is the format's own.
use Rattle.helpers.specs.Facts.{handed_on}
use Rattle.format.specs.Steps.{read_done, read_refuse, read_bind}
use Rattle.ohdr_datatype.specs.DataTypes.{float_format}
use Rattle.ohdr_datatype.proofs.float_format.Goals as goal

pub returns-in_err-f : goal.returns-in_err-f
unfolding float_format
returns-in_err-f c = rw (read_bind, ← c.float_properties.ensures, c.in_err-f.was, handed_on c.from_residual.result c.in_err-f.field-0.0 c.from_residual.ensures.1)

pub returns-then-not-is_ieee : goal.returns-then-not-is_ieee
unfolding float_format
returns-then-not-is_ieee c = rw (read_bind, ← c.float_properties.ensures, c.in_ok-f.was, ← c.is_ieee.ensures, c.if-not-is_ieee.true, read_refuse)

pub returns : goal.returns
unfolding float_format
returns c = rw (read_bind, ← c.float_properties.ensures, c.in_ok-f.was, ← c.is_ieee.ensures, c.if-not-is_ieee.false, read_done)
