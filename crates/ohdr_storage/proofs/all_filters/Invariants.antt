-- The reading of all filters from the start is the reading of those left from here, turn by turn.
use Rattle.ohdr_storage.specs.Storage.{filter_of}
use Rattle.format.specs.Format.{read, times, nothing}
use mathlib.Core.Path.{◌≡◌}
use Prim.Native.Nat.{◌-◌}
use Rattle.ohdr_storage.proofs.all_filters.Given as goal

abbrev pub invariant-loop : goal.invariant-loop
invariant-loop l =
    read l.file (times l.count (filter_of l.version) nothing) l.at
    ≡ read l.file (times (l.count - l.counter) (filter_of l.version) nothing) l.place
