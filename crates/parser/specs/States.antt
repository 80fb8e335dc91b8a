-- The largest file, widths, the end-of-file address, and which addresses lie in the file. Assumes nothing: these are definitions.
use Rattle.std.specs.Prelude.{ℕ, ◌≤◌, Bool, ◌&&◌, leb, ltb, Result, Ok, Err}
use Rattle.format.specs.Format.{pick}
use Rattle.records.specs.declared.Refusal.{Refusal}
use Rattle.records.specs.declared.Refusal.TheVariants as refusals
use Rattle.parser.specs.declared.State.{State}

-- the largest file
abbrev pub file_limit : ℕ
file_limit = 2147483648

-- a width that is allowed: 2 to 8 bytes
abbrev pub width_allowed : ℕ → Bool
width_allowed w = leb 2 w && leb w 8

-- The widths of a state are allowed ones.
pub record Widths (s : State) : Type 0 where
  pub offsets_least : 2 ≤ s.size_of_offsets
  pub offsets : s.size_of_offsets ≤ 8
  pub lengths_least : 2 ≤ s.size_of_lengths
  pub lengths : s.size_of_lengths ≤ 8

-- the state of these widths and this end-of-file address
abbrev pub state_for : ℕ → ℕ → ℕ → State
state_for offsets lengths end = record { size_of_lengths = lengths; size_of_offsets = offsets; end_of_file_address = end }

-- the same where both widths are allowed, or the refusal of a width
abbrev pub state_of : ℕ → ℕ → ℕ → Result State Refusal
state_of offsets lengths end =
    pick (width_allowed offsets && width_allowed lengths)
    (Ok (state_for offsets lengths end))
    (Err refusals.Width)

-- an address of something in the file: above zero and below the end-of-file address
abbrev pub address_valid : State → ℕ → Bool
address_valid s address = ltb 0 address && ltb address s.end_of_file_address
