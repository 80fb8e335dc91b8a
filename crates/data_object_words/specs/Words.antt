-- The words of a decoded object header: each case of its answer has its number and its values, and each record its words.
-- Assumes nothing: these are definitions.
use Rattle.std.specs.Prelude.{ℕ, List, [], ◌∷◌, ◌++◌, Result, Ok, Err}
use Rattle.records.specs.Refusals.{refusal_number}
use Rattle.records.specs.declared.Refusal.{Refusal}
use Rattle.record_words.specs.Words.{data_space_words, data_type_words, link_info_words, group_info_words, attribute_info_words, data_layout_words}
use Rattle.data_object.specs.declared.DataObject.{DataObject}

-- 0, next position and entries, or the refusal's number and zeros
abbrev pub answer_words : Result (ℕ × ℕ) Refusal → List ℕ
answer_words (Ok (next, entries)) = 0 ∷ next ∷ entries ∷ []
answer_words (Err r) = refusal_number r ∷ 0 ∷ 0 ∷ []

abbrev pub words_of : DataObject → List ℕ
words_of o =
    answer_words o.answer
    ++ (o.rows
    ∷ (data_space_words o.ds
    ++ (data_type_words o.dt
    ++ (link_info_words o.li ++ (group_info_words o.gi ++ (attribute_info_words o.ai ++ data_layout_words o.layout))))))
