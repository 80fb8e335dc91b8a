-- The high four bits are the version and the low four the class, and both must be known.
use mathlib.Core.Path.{refl}
use Rattle.ohdr_datatype.specs.Facts.{class_is}
use Rattle.ohdr_datatype.specs.DataTypes.{known_type}
use Rattle.ohdr_datatype.proofs.known_type.Goals as goal

pub returns-then-known_version : goal.returns-then-known_version
unfolding known_type
returns-then-known_version c = rw (← c.known_version.ensures, c.if-known_version.true, class_is c.args.class_and_version refl) c.known_class.ensures

pub returns-else-known_version : goal.returns-else-known_version
unfolding known_type
returns-else-known_version c = rw (← c.known_version.ensures, c.if-known_version.false)
