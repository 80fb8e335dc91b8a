-- After each turn one name more has its answer, and zeros stand behind it.
use lib.ListN.{length}
use Rattle.lookup_names.specs.Names.{Answers}
use Rattle.lookup_names.proofs.lookup_names.Given as goal

abbrev pub invariant-loop-k : goal.invariant-loop-k
invariant-loop-k l = Answers l.file l.table l.rows l.text l.names (length l.fn.answers) l.k l.answers
