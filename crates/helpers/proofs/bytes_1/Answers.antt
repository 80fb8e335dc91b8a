-- The number in one byte is the byte.
use Rattle.format.specs.BytesLaws.{le_one}
use native.Mathlib.Omega.{arith}
use borrow.Author.Rules.{rules}
use Rattle.helpers.proofs.bytes_1.Goals as goal

pub returns : goal.returns
returns c = (omega (arith, le_one c.args.file.now c.args.at), search rules)
