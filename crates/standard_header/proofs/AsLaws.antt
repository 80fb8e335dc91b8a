-- Entries that are a header's messages, in two parts; their numbers. Assumes nothing.
use Rattle.std.specs.Prelude.{ℕ, ◌≡◌, List, [], ◌∷◌, ◌++◌, length}
use Rattle.parser.specs.declared.State.{State}
use Rattle.grammar.specs.Message.{Held, message, continuation}
use Rattle.grammar.specs.Grammar.{Item}
use Rattle.grammar.specs.Table.{messages, messages_of}
use Rattle.standard.specs.Tie.{Every}
use Rattle.standard.specs.Headers.{HeaderMessage}
use Rattle.standard_header.specs.Same.{SameMessage, no_continuations, SameHeld, SameEntries}
use Rattle.standard_header.proofs.SameLaws.{as_many, same_messages}
use Rattle.standard_header.specs.ReadHeaders.{ReadMessage}
use Rattle.standard_header.specs.AcceptedAs.{HeldAs, EntriesAs}

-- what holds of each of two lists together
module _ {A : Type 0} (P : A → Type 0) where
  abbrev pub every_left : (xs ys : List A) → Every P (xs ++ ys) → Every P xs
  every_left [] ys h = tt
  every_left (x ∷ xs) ys h = (h.0, every_left xs ys h.1)

  abbrev pub every_right : (xs ys : List A) → Every P (xs ++ ys) → Every P ys
  every_right [] ys h = h
  every_right (x ∷ xs) ys h = every_right xs ys h.1

module _ (file : List ℕ) (s : State) where
  pub entries-append : (xs ys : List HeaderMessage) (r : Every (ReadMessage file s) (xs ++ ys)) (is js : List Item) → EntriesAs file s xs (every_left (ReadMessage file s) xs ys r) is
      → EntriesAs file s ys (every_right (ReadMessage file s) xs ys r) js → EntriesAs file s (xs ++ ys) r (is ++ js)
  entries-append [] ys r [] js h k = k
  entries-append [] ys r (i ∷ is) js h k = absurd h
  entries-append (x ∷ xs) ys r [] js h k = absurd h
  entries-append (x ∷ xs) ys r (i ∷ is) js h k = (h.0, entries-append xs ys r.1 is js h.1 k)

  -- they are the header's messages in the words of the other direction too
  pub entries_same : (xs : List HeaderMessage) (r : Every (ReadMessage file s) xs) (is : List Item) → EntriesAs file s xs r is → SameEntries file s is xs
  entries_same [] r [] h = tt
  entries_same [] r (i ∷ is) h = absurd h
  entries_same (x ∷ xs) r [] h = absurd h
  entries_same (x ∷ xs) r (i ∷ is) h = (held i.held h.0, entries_same xs r.1 is h.1)
    where
      held : (v : Held) → HeldAs file s x r.0 v → SameHeld file s v x
      held (message m) a = a.same
      held (continuation o l) a = a

  -- and as many, with and without continuations
  pub entries_counted : (xs : List HeaderMessage) (r : Every (ReadMessage file s) xs) (is : List Item) → EntriesAs file s xs r is → (length is ≡ length xs) × (messages is ≡ length (no_continuations xs))
  entries_counted xs r is h =
      let k = entries_same xs r is h in
      (as_many (λ (i : Item) (x : HeaderMessage). SameHeld file s i.held x) is xs k, as_many SameMessage (messages_of is) (no_continuations xs) (same_messages file s is xs k))
