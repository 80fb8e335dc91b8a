-- Case by case, a refusal by its number.
use Rattle.firmware.proofs.names_word.Goals as goal

pub returns-in-Err : goal.returns-in-Err
returns-in-Err c = rw c.in-Err.is c.number.ensures
