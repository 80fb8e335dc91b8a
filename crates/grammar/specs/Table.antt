-- The messages of a reading, and their rows. Assumes nothing: these are definitions.
use Rattle.std.specs.Prelude.{ℕ, List, [], ◌∷◌, map, length}
use Rattle.row.specs.declared.Row.{Row}
use Rattle.grammar.specs.Message.{Message, Held, message, continuation, row_of}
use Rattle.grammar.specs.Grammar.{Item}

-- a message before ms; a continuation is none
abbrev pub message_of : Held → List Message → List Message
message_of (message m) ms = m ∷ ms
message_of (continuation o l) ms = ms

-- the messages of a reading, in its order
abbrev pub messages_of : List Item → List Message
messages_of [] = []
messages_of (x ∷ xs) = message_of x.held (messages_of xs)

-- the number of messages
abbrev pub messages : List Item → ℕ
messages xs = length (messages_of xs)

-- a row a message
abbrev pub rows_of : List Item → List Row
rows_of xs = map row_of (messages_of xs)
