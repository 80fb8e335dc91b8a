-- Words that are put piece after piece, each at its place, are the words of the whole. Assumes nothing.
use Rattle.std.specs.Prelude.{ℕ, ◌+◌, ◌≡◌, refl, List, ◌∷◌, ◌++◌, length, get_or, set, Option, Some, None, Result, Ok, Err}
use Rattle.std.proofs.Common.{ap, ◌∙◌, append-nil, arith, length-append, drop_of_length-le}
use Rattle.std.proofs.lemmas.List.Edits.{sets, sets-eq}
use Rattle.records.specs.declared.DataFormat.TheVariants as formats
use Rattle.records.specs.declared.Refusal.{Refusal}
use Rattle.row.specs.RowLaws.{sets-append}
use Rattle.data_object.specs.declared.DataObject.{DataObject}
use Rattle.record_words.specs.Words.{data_space_words, format_words, data_type_words, link_info_words, group_info_words, attribute_info_words, data_layout_words}
use Rattle.data_object_words.specs.Words.{answer_words, words_of}
use Rattle.records.specs.declared.DataFormat.{DataFormat}

length-answer : (a : Result (ℕ × ℕ) Refusal) → length (answer_words a) ≡ 3
length-answer (Ok (next, entries)) = refl
length-answer (Err r) = refl

length-format : (f : Option DataFormat) → length (format_words f) ≡ 8
length-format None = refl
length-format (Some (formats.Fixed a b)) = refl
length-format (Some (formats.Float f)) = refl

pub length-words : (o : DataObject) → length (words_of o) ≡ 65
length-words o = rw (length-append (answer_words o.answer), length-answer, length-append (format_words o.dt.data_fmt), length-format)

pub rows_word : (o : DataObject) → get_or (words_of o) 3 0 ≡ o.rows
rows_word o = fourth o.answer o.rows _
  where
    fourth : (a : Result (ℕ × ℕ) Refusal) (n : ℕ) (ws : List ℕ) → get_or (answer_words a ++ (n ∷ ws)) 3 0 ≡ n
    fourth (Ok (next, entries)) n ws = refl
    fourth (Err r) n ws = refl

module _ (o : DataObject) (t : List ℕ) where
  -- each piece at its place in t
  abbrev placed : List ℕ
  placed =
      let records = sets (sets (set (sets t 0 (answer_words o.answer)) 3 o.rows) 4 (data_space_words o.ds)) 20 (data_type_words o.dt) in
      let infos = sets (sets (sets records 33 (link_info_words o.li)) 43 (group_info_words o.gi)) 52 (attribute_info_words o.ai) in
      sets infos 60 (data_layout_words o.layout)

  in_order : placed ≡ sets t 0 (words_of o)
  in_order = rw (sets-append (answer_words o.answer), length-answer, sets-append (format_words o.dt.data_fmt), length-format)

  pub put_whole : length t ≡ 65 → placed ≡ words_of o
  put_whole l =
      in_order
      ∙ sets-eq (words_of o) t 0 (omega (arith, length-words o))
      ∙ ap (λ (xs : List ℕ). words_of o ++ xs) (drop_of_length-le t {i = 0 + length (words_of o)} (omega (arith, length-words o)))
      ∙ append-nil (words_of o)
