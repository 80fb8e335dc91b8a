-- A header has one table and one list of words, since decoding has one answer. Assumes nothing.
use Rattle.std.specs.Prelude.{ℕ, ◌≡◌, List}
use Rattle.std.proofs.Common.{sym, ap, ◌∙◌}
use Rattle.data_object.specs.Unique.{decoded_unique}
use Rattle.data_object_words.specs.Words.{words_of}
use Rattle.data_object_words.specs.Handed.{Handed}

pub handed_unique : (file : List ℕ) (offsets lengths end at n : ℕ) (t u v w : List ℕ) → Handed file offsets lengths end at n t v
    → Handed file offsets lengths end at n u w → (t ≡ u) × (v ≡ w)
handed_unique file offsets lengths end at n t u v w h g =
    let same = decoded_unique file offsets lengths end at n h.object g.object t u h.decoded g.decoded in
    (same.1, h.words ∙ ap words_of same.0 ∙ sym g.words)
