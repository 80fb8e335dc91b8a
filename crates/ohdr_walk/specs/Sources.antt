-- What is walked in a header: its entries by themselves, and the test of its checksums. Assumes nothing: these are definitions.
use Rattle.std.specs.Prelude.{ℕ, List}
use Rattle.parser.specs.declared.State.{State}
use Rattle.grammar.specs.Grammar.{Source}
use Rattle.lookup3.specs.Lookup3.{sum_matches}
use Rattle.ohdr_entry.specs.Entries.{prefix_size, entry}

-- what is walked in a header with these flags
abbrev pub source : List ℕ → State → ℕ → Source
source file s flags = record { file = file; prefix = prefix_size flags; entry = entry s flags; sum = sum_matches file }
