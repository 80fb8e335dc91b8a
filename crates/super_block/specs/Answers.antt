-- What the answers of the reader mean. Assumes nothing: these are definitions.
use Rattle.std.specs.Prelude.{ℕ, Result, Ok, Err}
use Rattle.records.specs.declared.Refusal.{Refusal}
use Rattle.parser.specs.States.{Widths, state_for}
use Rattle.super_block.specs.declared.SuperBlock.{SuperBlock}

-- the widths of a superblock that is read are 2 to 8
abbrev pub WidthsRead : Result (SuperBlock × ℕ) Refusal → Type 0
WidthsRead (Ok (b, q)) = Widths (state_for b.size_of_offsets b.size_of_lengths b.end_of_file_address)
WidthsRead (Err r) = Unit {0}
