-- A row of the lent table: how many words it has, and which figure stands in which. Document 01 says `row`. Assumes nothing: these are definitions.
use Rattle.std.specs.Prelude.{ℕ, zero, suc, ◌+◌, ◌*◌, List, [], ◌∷◌, ◌++◌, get_or, eqb, Option, Some, None}
use Rattle.std.proofs.lemmas.List.Edits.{sets}
use Rattle.format.specs.Format.{pick}
use Rattle.row.specs.declared.Row.{Row}
use Rattle.records.specs.declared.Part.{Part}

-- words of a row
abbrev pub row_words : ℕ
row_words = 12

-- a part in three words: whether it is there, its position and its length; zeros where it is not
abbrev pub part_words : Option Part → List ℕ
part_words (Some p) = 1 ∷ p.position ∷ p.length ∷ []
part_words None = 0 ∷ 0 ∷ 0 ∷ []

-- a row's words: type, flags, size, body position, three words each for name and part, and which number it has, and its bits
abbrev pub words : Row → List ℕ
words r = (r.kind ∷ r.flags ∷ r.size ∷ r.body ∷ []) ++ (part_words r.name ++ (part_words r.part ++ (r.number_case ∷ r.number_bits ∷ [])))

-- the words of rows, one row after another
abbrev pub encode : List Row → List ℕ
encode [] = []
encode (r ∷ rs) = words r ++ encode rs

-- row i of a table set to a row's words
unfoldable pub put_row : List ℕ → ℕ → Row → List ℕ
put_row t i r = sets t (i * row_words) (words r)

-- the rows from i on
abbrev pub put_all : List ℕ → ℕ → List Row → List ℕ
put_all t i [] = t
put_all t i (r ∷ rs) = put_all (put_row t i r) (suc i) rs

-- the part in the words from a place on; there is one where the first of them is 1
unfoldable pub part_at : List ℕ → ℕ → Option Part
part_at t at = pick (eqb (get_or t at 0) 1) (Some (record { position = get_or t (at + 1) 0; length = get_or t (at + 2) 0 })) None

-- row i of a table
unfoldable pub row_at : List ℕ → ℕ → Row
row_at t i = record {
  kind = get_or t (i * row_words) 0;
  flags = get_or t (i * row_words + 1) 0;
  size = get_or t (i * row_words + 2) 0;
  body = get_or t (i * row_words + 3) 0;
  name = part_at t (i * row_words + 4);
  part = part_at t (i * row_words + 7);
  number_case = get_or t (i * row_words + 10) 0;
  number_bits = get_or t (i * row_words + 11) 0;
}

-- the first n rows of a table
abbrev pub first_rows : List ℕ → ℕ → List Row
first_rows t zero = []
first_rows t (suc n) = first_rows t n ++ (row_at t n ∷ [])
