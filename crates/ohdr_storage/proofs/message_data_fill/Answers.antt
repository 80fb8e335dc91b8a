-- The version is one step of the format, and it chooses which call reads the rest.
use Rattle.helpers.specs.Facts.{handed_on}
use Rattle.ohdr_storage.specs.Facts.{in_range, past_range}
use Rattle.ohdr_storage.specs.Storage.{fill}
use Rattle.format.specs.Steps.{read_number, read_refuse}
use borrow.Author.Tests.{ne_eqb}
use native.Mathlib.Omega.{arith}
use mathlib.Core.Path.{◌≡◌}
use Rattle.ohdr_storage.proofs.message_data_fill.Goals as goal

pub returns-in_err-version : goal.returns-in_err-version
unfolding fill
returns-in_err-version c = rw (read_number, ← c.le_u8.ensures, c.in_err-version.was, handed_on c.from_residual.result c.in_err-version.field-0.0 c.from_residual.ensures.1)

pub returns-in-3 : goal.returns-in-3
unfolding fill
returns-in-3 c = rw (read_number, ← c.le_u8.ensures, c.in_ok-version.was, c.in-3.is) c.fill_3.ensures

pub returns-in-1 : goal.returns-in-1
unfolding fill
returns-in-1 c = rw (read_number, ← c.le_u8.ensures, c.in_ok-version.was, in_range c.in_ok-version.version (omega arith) (omega arith)) c.fill_12.ensures

pub returns-in_default : goal.returns-in_default
unfolding fill
returns-in_default c = let z : c.in_ok-version.version ≡ 0 = omega arith in rw (read_number, ← c.le_u8.ensures, c.in_ok-version.was, z, read_refuse)

pub returns-in_default-2 : goal.returns-in_default-2
unfolding fill
returns-in_default-2 c = rw (read_number, ← c.le_u8.ensures, c.in_ok-version.was, past_range c.in_ok-version.version (omega arith), ne_eqb c.in_ok-version.version 3 (omega arith), read_refuse)
