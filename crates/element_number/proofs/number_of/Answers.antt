-- By the form; a single's element has 32 bits.
use mir.Syntax.{w64}
use mir.ValLaws.{to_z-of_z}
use Rattle.element_number.proofs.number_of.Goals as goal

pub half_of-requires : goal.half_of-requires
half_of-requires c = rw c.in-Signed.is at c.requires.0

pub overflow_cast-v : goal.overflow_cast-v
overflow_cast-v c = let h = rw c.in-Single.is at c.requires.0 in let b = rw h at c.requires.1 in record { fits = b }

pub returns-in-Signed : goal.returns-in-Signed
returns-in-Signed c = rw (c.in-Signed.is, to_z-of_z w64 c.signed_of.result (record { sfits = c.signed_of.type_inv }), c.signed_of.ensures, c.half_of.ensures.0)
