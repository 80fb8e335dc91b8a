-- Which row of a table bears a name, and what a lookup answers. Assumes nothing: these are definitions.
use Rattle.std.specs.Prelude.{ℕ, ◌+◌, ◌/◌, ◌≤◌, ◌<◌, ◌≡◌, List, length, take, drop, Option, Some, None, Result, Ok, Err}
use Rattle.records.specs.declared.Part.{Part}
use Rattle.records.specs.declared.Refusal.{Refusal}
use Rattle.records.specs.declared.Refusal.TheVariants as refusals
use Rattle.row.specs.declared.Row.{Row}
use Rattle.row.specs.Rows.{row_words, row_at}

-- a row is an attribute (type 12) with a name, which lies in the file and has the wanted bytes
pub record Bears (file : List ℕ) (row : Row) (wanted : List ℕ) : Type 0 where
  pub attribute : row.kind ≡ 12
  pub name : Part
  pub present : row.name ≡ Some name
  pub inside : name.position + name.length ≤ length file
  pub bytes : take name.length (drop name.position file) ≡ wanted

-- of the first n rows none bears the name
abbrev pub NoneBelow : List ℕ → List ℕ → List ℕ → ℕ → Type 0
NoneBelow file table name n = (j : ℕ) → j < n → Bears file (row_at table j) name → ⊥

-- the answer: the first row with the name, nothing where no row has it, or refusal 24 where the table has fewer rows
abbrev pub Looked : List ℕ → List ℕ → ℕ → List ℕ → Result (Option ℕ) Refusal → Type 0
Looked file table rows name (Ok (Some i)) = (rows ≤ length table / row_words) × (i < rows) × Bears file (row_at table i) name × NoneBelow file table name i
Looked file table rows name (Ok None) = (rows ≤ length table / row_words) × NoneBelow file table name rows
Looked file table rows name (Err r) = (r ≡ refusals.Table) × (length table / row_words < rows)

-- a row is an attribute whose name has n bytes from p on, all of them in the file
pub record HasName (file : List ℕ) (row : Row) (n p : ℕ) : Type 0 where
  pub attribute : row.kind ≡ 12
  pub present : row.name ≡ Some (record { position = p; length = n })
  pub inside : p + n ≤ length file

-- where such a name stands
abbrev pub NameAt : List ℕ → Row → ℕ → Option ℕ → Type 0
NameAt file row n (Some p) = HasName file row n p
NameAt file row n None = (p : ℕ) → HasName file row n p → ⊥
