-- What it says that a case passed. Assumes nothing: these are definitions.
use Rattle.std.specs.Prelude.{ℕ, ◌≡◌, Bool, true, List, ◌++◌, length}
use Rattle.format.specs.Bytes.{le}
use Rattle.lookup3.specs.Lookup3.{lookup3}
use Rattle.listing_text.specs.Listing.{header_text, listing_of}
use Rattle.test_replayer.specs.declared.DecodedText.TheVariants as decodeds
use Rattle.test_replayer.specs.declared.HeaderText.{HeaderText}
use Rattle.test_replayer.specs.declared.HeaderText.TheVariants as texts
use Rattle.test_replayer.specs.declared.Against.{Against}
use Rattle.test_replayer.specs.declared.Against.TheVariants as againsts
use Rattle.test_replayer.specs.declared.Lead.{Lead}
use Rattle.test_replayer.specs.Leads.{Led, Compared}
use Rattle.test_replayer.specs.Checks.{check_text}
use Rattle.test_replayer.specs.Replays.{Replays, text_of}

-- the plain file's listing is what is expected
abbrev pub Lists : List ℕ → List ℕ → Bool → Type 0
Lists input expected b = Compared (listing_of input) expected b

-- the listing of the header, and behind it the line of its check, are what is expected
abbrev pub ListsHeader : List ℕ → List ℕ → Lead → Bool → Type 0
ListsHeader expected file l b =
    Compared
    (header_text file l.offsets l.lengths l.end_of_file l.position ++ check_text file l.offsets l.lengths l.end_of_file l.position)
    expected
    b

-- the text of the header is what is expected: its listing with the line of its check, its report, or its numbers
abbrev pub TextSays : HeaderText → List ℕ → List ℕ → Lead → Bool → Type 0
TextSays texts.Listing expected file l b = ListsHeader expected file l b
TextSays (texts.Decoded text) expected file l b = Replays (text_of text file) expected file l b

-- of the header behind the lead
abbrev pub HeaderSays : HeaderText → List ℕ → List ℕ → Bool → Type 0
HeaderSays text input expected b = Led (TextSays text expected) input b

-- the expected bytes are the sum of the input: four, the lowest first
abbrev pub IsSum : List ℕ → List ℕ → Type 0
IsSum input expected = (length expected ≡ 4) × (le expected 0 4 ≡ lookup3 input)

abbrev pub Sums : List ℕ → List ℕ → Bool → Type 0
Sums input expected b = (b ≡ true → IsSum input expected) × (IsSum input expected → b ≡ true)

-- by what is expected
abbrev pub Says : Against → List ℕ → List ℕ → Bool → Type 0
Says againsts.Listing input expected b = Lists input expected b
Says againsts.HeaderListing input expected b = HeaderSays texts.Listing input expected b
Says againsts.Report input expected b = HeaderSays (texts.Decoded decodeds.Report) input expected b
Says againsts.Numbers input expected b = HeaderSays (texts.Decoded decodeds.Numbers) input expected b
Says againsts.Sum input expected b = Sums input expected b
