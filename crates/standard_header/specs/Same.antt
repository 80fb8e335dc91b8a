-- What is read of a header, of an entry and of a continuation, beside the specification's fields; and the entries of a reading beside its header messages,
-- one by one. Entries are those of docs/DIFFERENCES.md, part one. Assumes nothing: these are definitions.
use Rattle.std.specs.Prelude.{ℕ, ◌≡◌, List, [], ◌∷◌, eqb}
use Rattle.format.specs.Format.{pick}
use Rattle.parser.specs.declared.State.{State}
use Rattle.grammar.specs.Message.{Message, Held, message, continuation}
use Rattle.grammar.specs.Grammar.{Item}
use Rattle.standard.specs.Tie.{Stood}
use Rattle.standard.specs.Headers.{HeaderMessage, continuation_message, ObjectHeaderPrefix, MessagePrefix}
use Rattle.standard_messages.specs.Same.{SameContinuation}
use Rattle.ohdr_entry.specs.declared.Prefix.{Prefix}
use Rattle.data_object_header.specs.declared.HeaderFields.{HeaderFields}

-- IV.A.1.b, the header; of its flags bit 4 is refused (entry 6), bits 6 and 7 have no effect (7)
pub record SameHeader (ours : HeaderFields) (theirs : ObjectHeaderPrefix) : Type 0 where
  pub flags : ours.flags ≡ theirs.flags
  pub size_of_chunk_0 : ours.size ≡ theirs.size_of_chunk_0

-- IV.A.1.b, an entry; of its flags only bits 0 and 2 may be set (entries 10 and 11)
pub record SamePrefix (ours : Prefix) (theirs : MessagePrefix) : Type 0 where
  pub header_message_type : ours.kind ≡ theirs.header_message_type
  pub size_of_header_message_data : ours.size ≡ theirs.size_of_header_message_data
  pub header_message_flags : ours.flags ≡ theirs.header_message_flags

-- as many of both, and R holds of each two in the same place
abbrev pub OneByOne : {A B : Type 0} → (A → B → Type 0) → List A → List B → Type 0
OneByOne R [] [] = Unit {0}
OneByOne R [] (y ∷ ys) = ⊥
OneByOne R (x ∷ xs) [] = ⊥
OneByOne R (x ∷ xs) (y ∷ ys) = R x y × OneByOne R xs ys

-- a message of a reading and a header message, which is no continuation
pub record SameMessage (m : Message) (x : HeaderMessage) : Type 0 where
  pub header_message_type : m.type ≡ x.prefix.header_message_type
  pub size_of_header_message_data : m.size ≡ x.prefix.size_of_header_message_data
  pub header_message_flags : m.flags ≡ x.prefix.header_message_flags
  pub header_message_data : m.body ≡ x.header_message_data.position
  pub no_continuation : x.prefix.header_message_type ≡ 16 → ⊥

-- the header messages that are no continuations, in their order
abbrev pub no_continuations : List HeaderMessage → List HeaderMessage
no_continuations [] = []
no_continuations (x ∷ xs) = pick (eqb x.prefix.header_message_type 16) (no_continuations xs) (x ∷ no_continuations xs)

module _ (file : List ℕ) (s : State) where
  -- a continuation of a reading and a header message: in its data the continuation message stands, with this offset and length
  pub record SameContinued (offset length : ℕ) (x : HeaderMessage) : Type 0 where
    pub header_message_type : x.prefix.header_message_type ≡ 16
    pub upto : ℕ
    pub header_message_data :
        Stood SameContinuation (continuation_message s.size_of_offsets s.size_of_lengths) file x.header_message_data.position upto (record { offset = offset; length = length })

  abbrev pub SameHeld : Held → HeaderMessage → Type 0
  SameHeld (message m) x = SameMessage m x
  SameHeld (continuation o l) x = SameContinued o l x

  abbrev pub SameEntries : List Item → List HeaderMessage → Type 0
  SameEntries is xs = OneByOne (λ (i : Item) (x : HeaderMessage). SameHeld i.held x) is xs
