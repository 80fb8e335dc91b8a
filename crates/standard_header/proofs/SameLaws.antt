-- The entries of a reading that are header messages one by one: as many of them, and as many that are no continuations. Assumes nothing.
use Rattle.std.specs.Prelude.{ℕ, suc, ◌≡◌, refl, List, [], ◌∷◌, ◌++◌, length}
use Rattle.std.proofs.Common.{ap, ne_eqb}
use Rattle.parser.specs.declared.State.{State}
use Rattle.grammar.specs.Message.{Held, message, continuation}
use Rattle.grammar.specs.Grammar.{Item}
use Rattle.grammar.specs.Table.{message_of, messages_of}
use Rattle.standard.specs.Headers.{HeaderMessage}
use Rattle.standard_header.specs.Same.{OneByOne, SameMessage, no_continuations, SameHeld, SameEntries}

pub as_many : {A B : Type 0} (R : A → B → Type 0) (xs : List A) (ys : List B) → OneByOne R xs ys → length xs ≡ length ys
as_many R [] [] h = refl
as_many R [] (y ∷ ys) h = absurd h
as_many R (x ∷ xs) [] h = absurd h
as_many R (x ∷ xs) (y ∷ ys) h = ap suc (as_many R xs ys h.1)

pub one_by_one_append : {A B : Type 0} (R : A → B → Type 0) (xs vs : List A) (ys ws : List B) → OneByOne R xs ys → OneByOne R vs ws → OneByOne R (xs ++ vs) (ys ++ ws)
one_by_one_append R [] vs [] ws h k = k
one_by_one_append R [] vs (y ∷ ys) ws h k = absurd h
one_by_one_append R (x ∷ xs) vs [] ws h k = absurd h
one_by_one_append R (x ∷ xs) vs (y ∷ ys) ws h k = (h.0, one_by_one_append R xs vs ys ws h.1 k)

module _ (file : List ℕ) (s : State) where
  pub same-append : (is js : List Item) (xs ys : List HeaderMessage) → SameEntries file s is xs → SameEntries file s js ys → SameEntries file s (is ++ js) (xs ++ ys)
  same-append is js xs ys h k = one_by_one_append (λ (i : Item) (x : HeaderMessage). SameHeld file s i.held x) is js xs ys h k

  -- so the messages of a reading are the header messages that are no continuations
  pub same_messages : (is : List Item) (xs : List HeaderMessage) → SameEntries file s is xs → OneByOne SameMessage (messages_of is) (no_continuations xs)
  same_messages [] [] h = tt
  same_messages [] (x ∷ xs) h = absurd h
  same_messages (i ∷ is) [] h = absurd h
  same_messages (i ∷ is) (x ∷ xs) h = go i.held h.0 (same_messages is xs h.1)
    where
      go : (v : Held) → SameHeld file s v x → OneByOne SameMessage (messages_of is) (no_continuations xs) → OneByOne SameMessage (message_of v (messages_of is)) (no_continuations (x ∷ xs))
      go (message m) a b = rw (ne_eqb x.prefix.header_message_type 16 a.no_continuation) (a, b)
      go (continuation o l) a b = rw a.header_message_type b
