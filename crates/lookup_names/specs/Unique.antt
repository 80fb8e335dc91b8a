-- Each answer is the single lookup's, and a set of names has one outcome: what the contract says decides every word. Assumes nothing.
use Rattle.std.specs.Prelude.{ℕ, ◌+◌, ◌/◌, ◌≤◌, ◌≡◌, refl, Bool, true, false, List, length, take, drop, get_or, leb, Option, Result, Ok, Err}
use Rattle.std.proofs.Common.{sym, ap, ◌∙◌, inl, inr, arith, ext_get_or, leb-true, leb-false}
use Rattle.records.specs.declared.Part.{Part}
use Rattle.records.specs.declared.Refusal.{Refusal}
use Rattle.row.specs.Rows.{row_words}
use Rattle.lookup.specs.Lookup.{Looked}
use Rattle.lookup.specs.Unique.{looked_unique}
use Rattle.lookup_names.specs.Names.{names_in, name_at, names_allowed, row_plus_one, LookedAs, NameAnswered, Answers, RefusedAs, LookedNames}

module _ (file table : List ℕ) (rows : ℕ) where
  -- the word of a name is that of whatever answer the single lookup may give
  pub as_single : (name : List ℕ) (word : ℕ) (a : Result (Option ℕ) Refusal) → LookedAs file table rows name word → Looked file table rows name a → word ≡ row_plus_one a
  as_single name word a h l = h.same ∙ ap row_plus_one (looked_unique file table rows name h.answer a h.looked l)

  word_unique : (text : List ℕ) (name : Part) (v w : ℕ) → NameAnswered file table rows text name v → NameAnswered file table rows text name w → v ≡ w
  word_unique text name v w h g = go (leb (name.position + name.length) (length text)) refl
    where
      go : (t : Bool) → leb (name.position + name.length) (length text) ≡ t → v ≡ w
      go true e =
          let l = leb-true (name.position + name.length) (length text) e in
          let k = g.inside l in
          as_single (take name.length (drop name.position text)) v k.answer (h.inside l) k.looked ∙ sym k.same
      go false e = let l = leb-false (name.position + name.length) (length text) e in h.leaves l ∙ sym (g.leaves l)

  module _ (text names : List ℕ) (lent : ℕ) where
    answers_unique : (n : ℕ) (a b : List ℕ) → Answers file table rows text names lent n a → Answers file table rows text names lent n b → a ≡ b
    answers_unique n a b h g = ext_get_or 0 a b (h.as_lent ∙ sym g.as_lent) (λ k l. go k (leb n k) refl)
      where
        go : (k : ℕ) (t : Bool) → leb n k ≡ t → get_or a k 0 ≡ get_or b k 0
        go k true e = let l = leb-true n k e in h.behind k l ∙ sym (g.behind k l)
        go k false e = let l = leb-false n k e in word_unique text (name_at names k) (get_or a k 0) (get_or b k 0) (h.each k l) (g.each k l)

    not_refused : (r : Refusal) → names_in names ≤ names_allowed lent → rows ≤ length table / row_words → RefusedAs table rows names lent r → ⊥
    not_refused r n t (inl h) = absurd (omega (arith, h.1))
    not_refused r n t (inr h) = absurd (omega (arith, h.2))

    one_refusal : (r q : Refusal) → RefusedAs table rows names lent r → RefusedAs table rows names lent q → r ≡ q
    one_refusal r q (inl h) (inl g) = h.0 ∙ sym g.0
    one_refusal r q (inl h) (inr g) = absurd (omega (arith, h.1, g.1))
    one_refusal r q (inr h) (inl g) = absurd (omega (arith, h.1, g.1))
    one_refusal r q (inr h) (inr g) = h.0 ∙ sym g.0

    pub looked_names_unique : (a b : List ℕ) (r q : Result (Unit {0}) Refusal) → LookedNames file table rows text names lent a r → LookedNames file table rows text names lent b q
        → (a ≡ b) × (r ≡ q)
    looked_names_unique a b (Ok u) (Ok v) h g = (answers_unique (names_in names) a b h.2 g.2, refl)
    looked_names_unique a b (Ok u) (Err q) h g = absurd (not_refused q h.0 h.1 g.0)
    looked_names_unique a b (Err r) (Ok v) h g = absurd (not_refused r g.0 g.1 h.0)
    looked_names_unique a b (Err r) (Err q) h g = (h.1 ∙ sym g.1, ap Err (one_refusal r q h.0 g.0))
