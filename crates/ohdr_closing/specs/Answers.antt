-- What the code's limits and answers mean, and what a row that is taken and a block that is closed come to. Assumes nothing: these are definitions.
use Rattle.std.specs.Prelude.{ℕ, ◌+◌, ◌*◌, ◌≤◌, ◌≡◌, Bool, true, List, length, ltb, Option, Some, None, Result, Ok, Err}
use Rattle.format.specs.Format.{read}
use Rattle.records.specs.Refusals.{refusal_number}
use Rattle.records.specs.declared.Refusal.{Refusal}
use Rattle.row.specs.declared.Row.{Row}
use Rattle.row.specs.Rows.{row_words, put_row}
use Rattle.grammar.specs.Grammar.{block_end}
use Rattle.grammar.specs.Walk.{choose, Went, reached, stopped, and_then, begun}
use Rattle.grammar.specs.Walk as walks
use Rattle.grammar.specs.Filled.{Walked}
use Rattle.lookup3.specs.Lookup3.{sum_matches}
use Rattle.ohdr_closing.specs.declared.Limits.{Limits}
use Rattle.ohdr_closing.specs.declared.Progress.{Progress}
use Rattle.ohdr_closing.specs.declared.Stopped.{Stopped}

-- whether there is a row with this number; where messages are counted alone, none is asked for
abbrev pub fits : Option ℕ → ℕ → Bool
fits None i = true
fits (Some n) i = ltb i n

abbrev pub limits_of : Limits → walks.Limits
limits_of l = record { entries = l.entries; beyond = refusal_number l.beyond; fits = fits l.rows }

-- a table has the rows of these limits; where messages are counted alone, there is none
pub record Lends (l : Limits) (t : List ℕ) : Type 0 where
  pub room : (n : ℕ) → l.rows ≡ Some n → n * row_words ≤ length t
  pub none : l.rows ≡ None → length t ≡ 0

abbrev pub walked_of : Progress → List ℕ → Walked
walked_of p t = record { entries = p.entries; rows = p.rows; table = t }

-- an answer, of a refusal with the entries begun by then
abbrev pub with_entries : {A : Type 0} → ℕ → Result A Refusal → Result A Stopped
with_entries n (Ok a) = Ok a
with_entries n (Err r) = Err (record { refusal = r; entries = n })

-- a walk's answer with the table that it leaves; of a refusal the table is no part
abbrev pub walk_out : Result Progress Stopped → List ℕ → Went Walked
walk_out (Ok p) t = reached (walked_of p t) p.at
walk_out (Err s) t = stopped (refusal_number s.refusal) s.entries

-- a message takes the next row; where there is none, 24. Where messages are counted alone, the table has no words, and none is written
abbrev pub row_taken : Limits → Progress → Row → ℕ → List ℕ → Went Walked
row_taken l p r q t =
    choose ((limits_of l).fits p.rows) (λ _. reached (record { entries = p.entries + 1; rows = p.rows + 1; table = put_row t p.rows r }) q) (λ _. stopped 24 (p.entries + 1))

-- a block from o to w, closed after a walk that came to p; reading resumes at q
abbrev pub block_closed : List ℕ → ℕ → ℕ → Progress → ℕ → List ℕ → Went Walked
block_closed file o w p q t = and_then (begun p.entries (read file (block_end (sum_matches file) o w p.at) p.at)) (λ _ _. reached (walked_of p t) q)
