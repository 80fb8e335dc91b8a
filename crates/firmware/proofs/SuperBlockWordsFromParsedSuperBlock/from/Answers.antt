-- Case by case.
use Rattle.firmware.proofs.SuperBlockWordsFromParsedSuperBlock.from.Goals as goal

pub returns-in-Err : goal.returns-in-Err
returns-in-Err c = rw (c.in-Err.is, c.number-number.ensures, c.from-none.ensures)

pub returns-in-Ok : goal.returns-in-Ok
returns-in-Ok c = rw (c.in-Ok.is, c.from.ensures)
