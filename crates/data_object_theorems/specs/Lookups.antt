-- The message that a lookup's answer leads to, in the reading of the header. Assumes nothing: these are definitions.
use Rattle.std.specs.Prelude.{ℕ, zero, suc, ◌+◌, ◌≤◌, ◌<◌, ◌≡◌, List, [], ◌∷◌, length, take, drop}
use Rattle.records.specs.declared.Attribute.{Attribute}
use Rattle.grammar.specs.Message.{Message}
use Rattle.grammar.specs.Message as messages

-- message i of a list
abbrev pub MessageAt : List Message → ℕ → Message → Type 0
MessageAt [] i m = ⊥
MessageAt (x ∷ xs) zero m = x ≡ m
MessageAt (x ∷ xs) (suc i) m = MessageAt xs i m

-- a message is an attribute whose name in the file is the wanted one
pub record BearsName (file name : List ℕ) (m : Message) : Type 0 where
  pub attribute : Attribute
  pub kept : m.kept ≡ messages.attribute attribute
  pub type : m.type ≡ 12
  pub inside : attribute.name.position + attribute.name.length ≤ length file
  pub bytes : take attribute.name.length (drop attribute.name.position file) ≡ name

-- the first message that bears the name
pub record FirstBearing (file name : List ℕ) (ms : List Message) (i : ℕ) : Type 0 where
  pub message : Message
  pub here : MessageAt ms i message
  pub bears : BearsName file name message
  pub before : (j : ℕ) (m : Message) → j < i → MessageAt ms j m → BearsName file name m → ⊥
