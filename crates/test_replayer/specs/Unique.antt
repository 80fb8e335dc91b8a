-- An input and expected bytes have one answer, since decoding has one text of a kind. Assumes nothing.
use Rattle.std.specs.Prelude.{ℕ, ◌*◌, ◌≡◌, refl, Bool, true, false, List}
use Rattle.std.proofs.Common.{sym, ap₂, ◌∙◌}
use Rattle.row.specs.Rows.{row_words}
use Rattle.data_object_words.specs.Unique.{handed_unique}
use Rattle.test_replayer.specs.declared.Lead.{Lead}
use Rattle.test_replayer.specs.Replays.{Replays}

-- no answer is both given and not given
pub one_answer : (text : List ℕ → List ℕ → List ℕ) (expected file : List ℕ) (l : Lead) (b b' : Bool) → Replays text expected file l b → Replays text expected file l b' → b ≡ b'
one_answer text expected file l b b' a a' = go b b' (λ h. a'.says.1 (sym same_text ∙ a.says.0 h)) (λ h. a.says.1 (same_text ∙ a'.says.0 h))
  where
    same_text : text a.table a.words ≡ text a'.table a'.words
    same_text =
        let same = handed_unique file l.offsets l.lengths l.end_of_file l.position (64 * row_words) a.table a'.table a.words a'.words a.handed a'.handed in
        ap₂ text same.0 same.1

    go : (x y : Bool) → (x ≡ true → y ≡ true) → (y ≡ true → x ≡ true) → x ≡ y
    go true y f g = sym (f refl)
    go false true f g = g refl
    go false false f g = refl
