-- The line of a check. Assumes nothing: these are definitions.
use Rattle.std.specs.Prelude.{ℕ, Bool, Some, List, [], ◌∷◌, ◌++◌}
use Rattle.format.specs.Format.{Out, found, refused}
use Rattle.text.specs.Text.{field}
use Rattle.data_object_check.specs.declared.HeaderFigures.{HeaderFigures}
use Rattle.data_object_check.specs.Checked.{figures, checked}
use Rattle.listing_text.specs.Listing.{refused_of}
use Rattle.test_replayer.specs.declared.Lead.{Lead}
use Rattle.test_replayer.specs.Leads.{Compared}

-- `checked,NEXT,ENTRIES,ROWS`; 44 is a comma and 10 ends the line
unfoldable pub passed_line : HeaderFigures → List ℕ
passed_line f = (99 ∷ 104 ∷ 101 ∷ 99 ∷ 107 ∷ 101 ∷ 100 ∷ 44 ∷ []) ++ (field (Some f.next) 44 ++ (field (Some f.entries) 44 ++ field (Some f.rows) 10))

-- or `refused,N`
unfoldable pub check_line : Out HeaderFigures → List ℕ
check_line (found f next) = passed_line f
check_line (refused n) = refused_of n

-- the line of the check of the header at a position
unfoldable pub check_text : List ℕ → ℕ → ℕ → ℕ → ℕ → List ℕ
check_text file offsets lengths end at = check_line (figures (checked file offsets lengths end at))

-- it is what is expected
abbrev pub Checks : List ℕ → List ℕ → Lead → Bool → Type 0
Checks expected file l b = Compared (check_text file l.offsets l.lengths l.end_of_file l.position) expected b
