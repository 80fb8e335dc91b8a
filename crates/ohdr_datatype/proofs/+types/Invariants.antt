-- A type inside a type has one level less, so the calls end; members are read in a loop, turn by turn.
use Rattle.ohdr_datatype.specs.DataTypes.{member as memberFormat, data_type, plain}
use Rattle.format.specs.Format.{read, times}
use mathlib.Core.Path.{◌≡◌}
use Prim.Native.Nat.{◌+◌, ◌*◌, ◌-◌}
use Rattle.ohdr_datatype.proofs.+types.Given as goal

abbrev pub invariant-compound-loop : goal.invariant-compound-loop
invariant-compound-loop l =
    read l.file (times l.count (memberFormat l.version l.size (data_type l.levels)) plain) l.at
    ≡ read l.file (times (l.count - l.counter) (memberFormat l.version l.size (data_type l.levels)) plain) l.place

abbrev pub decreases-compound : goal.decreases-compound
decreases-compound l = 6 * l.levels + 3

abbrev pub decreases-list_properties : goal.decreases-list_properties
decreases-list_properties l = 6 * l.levels + 4

abbrev pub decreases-member : goal.decreases-member
decreases-member l = 6 * l.levels + 2

abbrev pub decreases-message_data_type : goal.decreases-message_data_type
decreases-message_data_type l = 6 * l.levels

abbrev pub decreases-type_properties : goal.decreases-type_properties
decreases-type_properties l = 6 * l.levels + 5
