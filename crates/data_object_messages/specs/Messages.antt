-- What the messages of a header come to, told as a state: how far a walk came, and the table. Assumes nothing: these are definitions.
use Rattle.std.specs.Prelude.{ℕ, ◌≡◌, List, Result, Ok, Err}
use Rattle.parser.specs.declared.State.{State}
use Rattle.parser.specs.States.{Widths, state_for}
use Rattle.grammar.specs.Walk.{Went, Limits}
use Rattle.grammar.specs.Filled.{Walked, tell}
use Rattle.ohdr_closing.specs.Answers.{walk_out}
use Rattle.ohdr_closing.specs.declared.Progress.{Progress}
use Rattle.ohdr_closing.specs.declared.Stopped.{Stopped}
use Rattle.data_object_header.specs.Headers.{header, decode}

-- a walk that has not begun
abbrev pub fresh : List ℕ → Walked
fresh t = record { entries = 0; rows = 0; table = t }

-- what a header gives, and what decoding does, within limits: its rows go into the table t
abbrev pub header_on : List ℕ → State → ℕ → Limits → List ℕ → Went Walked
header_on file s at l t = tell (fresh t) (header file s l at)

abbrev pub decode_on : List ℕ → ℕ → ℕ → ℕ → ℕ → Limits → List ℕ → Went Walked
decode_on file offsets lengths end at l t = tell (fresh t) (decode file offsets lengths end at l)

-- the answer with the table that it leaves; of a refusal the table is no part
abbrev pub messages_out : Result (Progress × State) Stopped → List ℕ → Went Walked
messages_out (Ok (p, s)) t = walk_out (Ok p) t
messages_out (Err s) t = walk_out (Err s) t

-- the state that is handed on is that of the widths and the end-of-file address
abbrev pub StateRead : ℕ → ℕ → ℕ → State → Type 0
StateRead offsets lengths end s = (s ≡ state_for offsets lengths end) × Widths s
