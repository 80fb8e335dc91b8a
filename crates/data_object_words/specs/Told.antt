-- The rows that a header's words tell of are those that decoding fills, and the elements are those of the sizes beside them. Assumes nothing.
use Rattle.std.specs.Prelude.{ℕ, ◌/◌, ◌≤◌, ◌≡◌, refl, List, [], ◌∷◌, ◌++◌, length, get_or, eqb, Option, Some, None, Result, Ok, Err}
use Rattle.std.proofs.Common.{ap, arith}
use Rattle.format.specs.Format.{pick}
use Rattle.row.specs.Rows.{row_words}
use Rattle.records.specs.Elements.{elements_by, count_of, TrueSpace}
use Rattle.records.specs.declared.DataSpace.{DataSpace}
use Rattle.records.specs.declared.Refusal.{Refusal}
use Rattle.data_object.specs.declared.DataObject.{DataObject}
use Rattle.data_object.specs.DecodedLaws.{rows_room}
use Rattle.record_words.specs.Words.{present, value, elements_words, data_space_words}
use Rattle.data_object_words.specs.Words.{answer_words, words_of}
use Rattle.data_object_words.specs.Laws.{rows_word}
use Rattle.data_object_words.specs.Handed.{Handed, TrueWords}

-- the rows that the words tell of are in the table
pub rows_told : {file : List ℕ} {offsets lengths end at n : ℕ} {t w : List ℕ} → Handed file offsets lengths end at n t w → get_or w 3 0 ≤ n / row_words
rows_told {file} {offsets} {lengths} {end} {at} {n} {t} h = rw (h.words, rows_word) (rows_room file offsets lengths end at n h.object t h.decoded)

-- four words by their places are the list
four : (xs : List ℕ) → length xs ≡ 4 → (get_or xs 0 0 ∷ get_or xs 1 0 ∷ get_or xs 2 0 ∷ get_or xs 3 0 ∷ []) ≡ xs
four [] l = absurd (omega arith)
four (a ∷ []) l = absurd (omega arith)
four (a ∷ b ∷ []) l = absurd (omega arith)
four (a ∷ b ∷ c ∷ []) l = absurd (omega arith)
four (a ∷ b ∷ c ∷ d ∷ []) l = refl
four (a ∷ b ∷ c ∷ d ∷ e ∷ xs) l = absurd (omega arith)

-- the kind and the sizes of a dataspace are told by its words, so that a true one has its elements in them
kind_told : (k : Option ℕ) → pick (eqb (present k) 1) (Some (value k)) None ≡ k
kind_told None = refl
kind_told (Some v) = refl

elements_told : (d : DataSpace) → length d.dimension_size.sizes ≡ 4 → TrueSpace d
    → elements_words d.elements ≡ elements_words (count_of (elements_by (pick (eqb (present d.kind) 1) (Some (value d.kind)) None)
    (record { count = d.dimension_size.count; sizes = get_or d.dimension_size.sizes 0 0 ∷ get_or d.dimension_size.sizes 1 0 ∷ get_or d.dimension_size.sizes 2 0 ∷ get_or d.dimension_size.sizes 3 0 ∷ [] })))
elements_told d l h = rw (kind_told d.kind, four d.dimension_size.sizes l) (ap elements_words h)

pub true_words : (o : DataObject) → length o.ds.dimension_size.sizes ≡ 4 → TrueSpace o.ds → TrueWords (words_of o)
true_words o l h = behind o.answer o.rows o.ds _ l h
  where
    behind : (a : Result (ℕ × ℕ) Refusal) (n : ℕ) (d : DataSpace) (ws : List ℕ) → length d.dimension_size.sizes ≡ 4 → TrueSpace d → TrueWords (answer_words a ++ (n ∷ (data_space_words d ++ ws)))
    behind (Ok (next, entries)) n d ws l h = elements_told d l h
    behind (Err r) n d ws l h = elements_told d l h
