-- No row passed so far has the name, and of the row at hand the bytes compared so far agree.
use Rattle.std.specs.Prelude.{None}
use Rattle.lookup.specs.Facts.{Agree}
use Rattle.lookup.specs.Lookup.{NoneBelow}
use mathlib.Core.Path.{◌≡◌}
use Rattle.lookup.proofs.lookup.Given as goal

abbrev pub invariant-loop-k : goal.invariant-loop-k
invariant-loop-k l = Agree l.file l.name l.position l.k

abbrev pub invariant-rows : goal.invariant-rows
invariant-rows l = NoneBelow l.file l.table l.name l.row × (l.found ≡ None)
