-- What is handed over of a header: its words, and its messages in a table. Assumes nothing: these are definitions.
use Rattle.std.specs.Prelude.{ℕ, ◌≡◌, List, [], ◌∷◌, get_or, eqb, Option, Some, None}
use Rattle.format.specs.Format.{pick}
use Rattle.records.specs.Elements.{elements_by, count_of}
use Rattle.records.specs.declared.Dimensions.{Dimensions}
use Rattle.data_object.specs.declared.DataObject.{DataObject}
use Rattle.data_object.specs.Decoded.{Decoded}
use Rattle.record_words.specs.Words.{elements_words}
use Rattle.data_object_words.specs.Words.{words_of}

-- the words w of what decoding yields, which leaves t of a table of n words
pub record Handed (file : List ℕ) (offsets lengths end at n : ℕ) (t w : List ℕ) : Type 0 where
  pub object : DataObject
  pub decoded : Decoded file offsets lengths end at n object t
  pub words : w ≡ words_of object

-- the kind and the sizes that the words w of an object tell
abbrev pub kind_in : List ℕ → Option ℕ
kind_in w = pick (eqb (get_or w 6 0) 1) (Some (get_or w 7 0)) None

abbrev pub sizes_in : List ℕ → Dimensions
sizes_in w = record { count = get_or w 8 0; sizes = get_or w 9 0 ∷ get_or w 10 0 ∷ get_or w 11 0 ∷ get_or w 12 0 ∷ [] }

-- the elements that they tell are those of this kind and these sizes
abbrev pub TrueWords : List ℕ → Type 0
TrueWords w = (get_or w 18 0 ∷ get_or w 19 0 ∷ []) ≡ elements_words (count_of (elements_by (kind_in w) (sizes_in w)))
