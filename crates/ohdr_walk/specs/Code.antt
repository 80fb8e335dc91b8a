-- The definition of a walk at the entries of a header, by the code's records. Assumes nothing: these are definitions.
use Rattle.std.specs.Prelude.{ℕ, List}
use Rattle.grammar.specs.Grammar.{Source}
use Rattle.grammar.specs.Walk.{Went}
use Rattle.grammar.specs.Filled.{Walked, entry_on, run_on, walk_on}
use Rattle.ohdr_closing.specs.Answers.{limits_of}
use Rattle.ohdr_closing.specs.declared.Limits.{Limits}
use Rattle.ohdr_walk.specs.Sources.{source}
use Rattle.ohdr_walk.specs.declared.Header.{Header}

abbrev pub source_of : List ℕ → Header → Source
source_of file h = source file h.state h.flags

abbrev pub entry_of : List ℕ → Header → Limits → ℕ → ℕ → Walked → Went Walked
entry_of file h l levels p s = entry_on (source_of file h) (limits_of l) levels p s

abbrev pub run_of : List ℕ → Header → Limits → ℕ → ℕ → ℕ → Walked → Went Walked
run_of file h l levels e p s = run_on (source_of file h) (limits_of l) levels e p s

abbrev pub walk_of : List ℕ → Header → Limits → ℕ → ℕ → ℕ → List ℕ → Went Walked
walk_of file h l o e p t = walk_on (source_of file h) (limits_of l) o e p t
