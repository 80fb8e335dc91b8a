-- What the answers of the readers mean. Assumes nothing: these are definitions.
use Rattle.std.specs.Prelude.{ℕ, Result, Ok, Err}
use Rattle.format.specs.Format.{Out, found, refused}
use Rattle.records.specs.Refusals.{refusal_number}
use Rattle.records.specs.declared.Refusal.{Refusal}
use Rattle.records.specs.Numbers.{value_case, value_bits}
use Rattle.grammar.specs.Message.{Kept, Held, name_of, value_of, part_of, row_of}
use Rattle.grammar.specs.Message as messages
use Rattle.row.specs.declared.Row.{Row}
use Rattle.ohdr_entry.specs.declared.Figures.{Figures}
use Rattle.ohdr_entry.specs.declared.Entry.{Entry}
use Rattle.ohdr_entry.specs.declared.Entry.TheVariants as entries

-- a position alone
abbrev pub position_of : {A : Type 0} → Out A → Out (Unit {0})
position_of (found a q) = found tt q
position_of (refused n) = refused n

-- the figures of a body: its name, its part and its number
abbrev pub figures_of : Out Kept → Out Figures
figures_of (found k q) = found (record { name = name_of k; part = part_of k; number_case = value_case (value_of k); number_bits = value_bits (value_of k) }) q
figures_of (refused n) = refused n

-- what of an entry goes on: a message's row, or where a continuation leads
pub data Seen : Type 0 where
  row : Row → Seen
  continuation : ℕ → ℕ → Seen

abbrev pub seen_in : Held → Seen
seen_in (messages.message m) = row (row_of m)
seen_in (messages.continuation o l) = continuation o l

abbrev pub seen : Out Held → Out Seen
seen (found h q) = found (seen_in h) q
seen (refused n) = refused n

-- an entry that was read, by what of it goes on, or a refusal by its number
abbrev pub entry_out : Result (Entry × ℕ) Refusal → Out Seen
entry_out (Ok (entries.Message r, q)) = found (row r) q
entry_out (Ok (entries.Continuation c, q)) = found (continuation c.offset c.length) q
entry_out (Err r) = refused (refusal_number r)
