-- Messages and rows of one list of items after another, since each item has its own. Assumes nothing.
use Rattle.std.specs.Prelude.{suc, ◌+◌, ◌≤◌, ◌≡◌, refl, List, [], ◌∷◌, ◌++◌, map, length}
use Rattle.std.proofs.Common.{ap, ◌∙◌, arith, length-append}
use Rattle.std.proofs.lemmas.List.{map-append, length-map}
use Rattle.grammar.specs.Message.{Message, Held, message, continuation, row_of}
use Rattle.grammar.specs.Grammar.{Item}
use Rattle.grammar.specs.Table.{message_of, messages_of, messages, rows_of}

message_of-append : (x : Held) (ms ns : List Message) → message_of x (ms ++ ns) ≡ message_of x ms ++ ns
message_of-append (message m) ms ns = refl
message_of-append (continuation o l) ms ns = refl

pub messages_of-append : (xs ys : List Item) → messages_of (xs ++ ys) ≡ messages_of xs ++ messages_of ys
messages_of-append [] ys = refl
messages_of-append (x ∷ xs) ys = ap (message_of x.held) (messages_of-append xs ys) ∙ message_of-append x.held (messages_of xs) (messages_of ys)

pub messages-append : (xs ys : List Item) → messages (xs ++ ys) ≡ messages xs + messages ys
messages-append xs ys = ap length (messages_of-append xs ys) ∙ length-append (messages_of xs) (messages_of ys)

pub rows_of-append : (xs ys : List Item) → rows_of (xs ++ ys) ≡ rows_of xs ++ rows_of ys
rows_of-append xs ys = ap (map row_of) (messages_of-append xs ys) ∙ map-append row_of (messages_of xs) (messages_of ys)

pub length-rows_of : (xs : List Item) → length (rows_of xs) ≡ messages xs
length-rows_of xs = length-map (messages_of xs) row_of

-- no more messages than entries
pub messages_few : (xs : List Item) → messages xs ≤ length xs
messages_few [] = omega arith
messages_few (x ∷ xs) = go x.held (messages_few xs)
  where
    go : (h : Held) → length (messages_of xs) ≤ length xs → length (message_of h (messages_of xs)) ≤ suc (length xs)
    go (message m) i = omega arith
    go (continuation o n) i = omega arith
