-- What many names are answered with: each as the single lookup answers it. Assumes nothing: these are definitions.
use Rattle.std.specs.Prelude.{ℕ, ◌+◌, ◌*◌, ◌/◌, min, ◌≤◌, ◌<◌, ◌≡◌, ◌⊎◌, List, length, take, drop, get_or, replicate, Option, Some, None, Result, Ok, Err}
use Rattle.records.specs.declared.Part.{Part}
use Rattle.records.specs.declared.Refusal.{Refusal}
use Rattle.records.specs.declared.Refusal.TheVariants as refusals
use Rattle.row.specs.Rows.{row_words}
use Rattle.lookup.specs.Lookup.{Looked}

-- a set is position and length of each name in the text, a word each; an odd last word is none
abbrev pub names_in : List ℕ → ℕ
names_in names = length names / 2

abbrev pub name_at : List ℕ → ℕ → Part
name_at names k = record { position = get_or names (2 * k) 0; length = get_or names (2 * k + 1) 0 }

-- up to 32 names, and no more than the answers lent
abbrev pub most_names : ℕ
most_names = 32

abbrev pub names_allowed : ℕ → ℕ
names_allowed lent = min most_names lent

-- an answer of the single lookup as a word: its row plus one, 0 for nothing
abbrev pub row_plus_one : Result (Option ℕ) Refusal → ℕ
row_plus_one (Ok (Some i)) = i + 1
row_plus_one (Ok None) = 0
row_plus_one (Err r) = 0

-- the word is what the single lookup answers for the name
pub record LookedAs (file table : List ℕ) (rows : ℕ) (name : List ℕ) (word : ℕ) : Type 0 where
  pub answer : Result (Option ℕ) Refusal
  pub looked : Looked file table rows name answer
  pub same : word ≡ row_plus_one answer

-- a name in the text has that answer, and one that leaves it has 0
pub record NameAnswered (file table : List ℕ) (rows : ℕ) (text : List ℕ) (name : Part) (word : ℕ) : Type 0 where
  pub inside : name.position + name.length ≤ length text → LookedAs file table rows (take name.length (drop name.position text)) word
  pub leaves : length text < name.position + name.length → word ≡ 0

-- the answers of the first n names, in the names' order, then zeros
pub record Answers (file table : List ℕ) (rows : ℕ) (text names : List ℕ) (lent n : ℕ) (answers : List ℕ) : Type 0 where
  pub as_lent : length answers ≡ lent
  pub each : (k : ℕ) → k < n → NameAnswered file table rows text (name_at names k) (get_or answers k 0)
  pub behind : (k : ℕ) → n ≤ k → get_or answers k 0 ≡ 0

-- too many names are 29, and then more rows than the table has are 24
abbrev pub RefusedAs : List ℕ → ℕ → List ℕ → ℕ → Refusal → Type 0
RefusedAs table rows names lent r =
    ((r ≡ refusals.Names) × (names_allowed lent < names_in names))
    ⊎ ((r ≡ refusals.Table) × (names_in names ≤ names_allowed lent) × (length table / row_words < rows))

-- what the operation leaves in the answers lent, and answers itself; a refusal leaves zeros
abbrev pub LookedNames : List ℕ → List ℕ → ℕ → List ℕ → List ℕ → ℕ → List ℕ → Result (Unit {0}) Refusal → Type 0
LookedNames file table rows text names lent answers (Ok u) =
    (names_in names ≤ names_allowed lent) × (rows ≤ length table / row_words) × Answers file table rows text names lent (names_in names) answers
LookedNames file table rows text names lent answers (Err r) = RefusedAs table rows names lent r × (answers ≡ replicate lent 0)
