-- The words are those of the object that decoding yields, whose dataspace is true, of a file of bytes; its array of sizes has four places.
use Rattle.data_object_words.specs.Told.{true_words}
use borrow.Author.Rules.{rules}
use Rattle.data_object_words.proofs.header_words.Goals as goal

pub returns-clause-handed : goal.returns-clause-handed
returns-clause-handed c = let o = c.data_object-object in record { object = o.result; decoded = o.ensures.decoded; words = c.put_words.ensures }

pub returns-clause-true_words : goal.returns-clause-true_words
returns-clause-true_words c = let o = c.data_object-object in rw c.put_words.ensures (true_words o.result (search (rules, o.type_inv)) o.ensures.true_space)

pub returns-clause-are_bytes : goal.returns-clause-are_bytes
returns-clause-are_bytes c = let o = c.data_object-object in o.ensures.are_bytes
