-- A number is its lower bytes plus its higher ones, shifted: here two bytes and one.
use Rattle.format.specs.BytesLaws.{le_split}
use native.Mathlib.Omega.{arith}
use Rattle.helpers.proofs.bytes_3.Goals as goal

pub returns : goal.returns
returns c = (omega (arith, le_split c.args.file.now c.args.at 2 1), omega arith)
