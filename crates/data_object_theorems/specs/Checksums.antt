-- The checksums of the blocks that a run's entries open. Assumes nothing: these are definitions.
use Rattle.std.specs.Prelude.{ℕ, ◌+◌, ◌-◌, List, [], ◌∷◌}
use Rattle.lookup3.specs.Lookup3.{Matches}
use Rattle.grammar.specs.Message.{Held, message, continuation}
use Rattle.grammar.specs.Grammar.{Item}

module _ (file : List ℕ) where
  -- the checksum of the block that an entry opens matches, and those of the blocks of all entries
  abbrev pub BlockMatches : Held → Type 0
  BlockMatches (message m) = Unit {0}
  BlockMatches (continuation o n) = Matches file o (o + n - 4)

  abbrev pub BlocksMatch : List Item → Type 0
  BlocksMatch [] = Unit {0}
  BlocksMatch (i ∷ is) = BlockMatches i.held × BlocksMatch is
