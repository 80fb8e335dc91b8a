-- What stands of a header before a refusal, its fields and the tests before them included. Assumes nothing: these are definitions.
use Rattle.std.specs.Prelude.{ℕ, ◌+◌, ◌≤◌, ◌<◌, ◌≡◌, List, [], length}
use Rattle.format.specs.Format.{Stands}
use Rattle.parser.specs.declared.State.{State}
use Rattle.parser.specs.States.{file_limit, Widths, state_for}
use Rattle.grammar.specs.Grammar.{Item}
use Rattle.grammar.specs.Walk.{Limits, start}
use Rattle.grammar.specs.Begun.{Cause, elsewhere, Nowhere, ReadingStops, Stopped}
use Rattle.ohdr_walk.specs.Sources.{source}
use Rattle.data_object_header.specs.declared.HeaderFields.{HeaderFields}
use Rattle.data_object_header.specs.Headers.{header_fields}

-- HeaderStops file s l at xs c: the reading of a header at a position stops for the cause c, and xs is all that stands in it until then. Either its
-- fields do not stand, or they do, and what follows them stops.
pub data HeaderStops (file : List ℕ) (s : State) (l : Limits) (at : ℕ) : List Item → Cause → Type 0 where
  no_fields : Nowhere file header_fields at → HeaderStops file s l at [] elsewhere
  in_reading : {xs : List Item} {c : Cause} (fields : HeaderFields) (first : ℕ) → Stands file header_fields at first fields
      → ReadingStops (source file s fields.flags) l at first (first + fields.size) xs c → HeaderStops file s l at xs c

-- A header refused as r when n entries are begun: a width is not allowed, which is 1; the file is too large, which is 2; or its reading stops.
pub data DecodeStops (file : List ℕ) (offsets lengths end at : ℕ) (l : Limits) (r n : ℕ) : Type 0 where
  bad_width : (Widths (state_for offsets lengths end) → ⊥) → r ≡ 1 → n ≡ 0 → DecodeStops file offsets lengths end at l r n
  too_large : Widths (state_for offsets lengths end) → file_limit < length file → r ≡ 2 → n ≡ 0 → DecodeStops file offsets lengths end at l r n
  in_header : Widths (state_for offsets lengths end) → length file ≤ file_limit → Stopped l start (HeaderStops file (state_for offsets lengths end) l at) r n
      → DecodeStops file offsets lengths end at l r n
