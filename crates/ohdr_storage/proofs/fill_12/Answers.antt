-- Each field is one step of the format, each test is the format's own, and the call reads the value.
use Rattle.helpers.specs.Facts.{handed_on}
use borrow.Author.Tests.{ne_eqb, eq-eqb, lt-leb, le-leb}
use Rattle.format.specs.Steps.{read_number, read_refuse, read_done}
use Rattle.ohdr_storage.specs.Storage.{fill12}
use Rattle.ohdr_storage.specs.Facts.{one_of, none_of}
use Rattle.ohdr_storage.proofs.fill_12.Goals as goal

pub returns-in_err-allocation : goal.returns-in_err-allocation
unfolding fill12
returns-in_err-allocation c = rw (read_number, ← c.le_u8.ensures, c.in_err-allocation.was, handed_on c.from_residual.result c.in_err-allocation.field-0.0 c.from_residual.ensures.1)

pub returns-then-allocation-ne3 : goal.returns-then-allocation-ne3
unfolding fill12
returns-then-allocation-ne3 c = rw (read_number, ← c.le_u8.ensures, c.in_ok-allocation.was, none_of c.in_ok-allocation.allocation 2 3 c.if-allocation-ne2.true c.if-allocation-ne3.true, read_refuse)

pub returns-in_err-write : goal.returns-in_err-write
unfolding fill12
returns-in_err-write c = rw (read_number, ← c.le_u8.ensures, c.in_ok-allocation.was, one_of c.in_ok-allocation.allocation 2 3 c.else-allocation-ne2.either, read_number, ← c.le_u8-2.ensures, c.in_err-write.was, handed_on c.from_residual-in_err-write.result c.in_err-write.field-0.0 c.from_residual-in_err-write.ensures.1)

pub returns-then-write-ne2 : goal.returns-then-write-ne2
unfolding fill12
returns-then-write-ne2 c = rw (read_number, ← c.le_u8.ensures, c.in_ok-allocation.was, one_of c.in_ok-allocation.allocation 2 3 c.else-allocation-ne2.either, read_number, ← c.le_u8-2.ensures, c.in_ok-write.was, ne_eqb _ _ c.if-write-ne2.true, read_refuse)

pub returns-in_err-defined : goal.returns-in_err-defined
unfolding fill12
returns-in_err-defined c = rw (read_number, ← c.le_u8.ensures, c.in_ok-allocation.was, one_of c.in_ok-allocation.allocation 2 3 c.else-allocation-ne2.either, read_number, ← c.le_u8-2.ensures, c.in_ok-write.was, eq-eqb _ _ c.if-write-ne2.false, read_number, ← c.le_u8-3.ensures, c.in_err-defined.was, handed_on c.from_residual-in_err-defined.result c.in_err-defined.field-0.0 c.from_residual-in_err-defined.ensures.1)

pub returns-then-defined-gt1 : goal.returns-then-defined-gt1
unfolding fill12
returns-then-defined-gt1 c = rw (read_number, ← c.le_u8.ensures, c.in_ok-allocation.was, one_of c.in_ok-allocation.allocation 2 3 c.else-allocation-ne2.either, read_number, ← c.le_u8-2.ensures, c.in_ok-write.was, eq-eqb _ _ c.if-write-ne2.false, read_number, ← c.le_u8-3.ensures, c.in_ok-defined.was, lt-leb _ _ c.if-defined-gt1.true, read_refuse)

pub returns-then-defined-eq1 : goal.returns-then-defined-eq1
unfolding fill12
returns-then-defined-eq1 c = rw (read_number, ← c.le_u8.ensures, c.in_ok-allocation.was, one_of c.in_ok-allocation.allocation 2 3 c.else-allocation-ne2.either, read_number, ← c.le_u8-2.ensures, c.in_ok-write.was, eq-eqb _ _ c.if-write-ne2.false, read_number, ← c.le_u8-3.ensures, c.in_ok-defined.was, le-leb _ _ c.if-defined-gt1.false, eq-eqb _ _ c.if-defined-eq1.true) c.message_data_fill_old.ensures

pub returns : goal.returns
unfolding fill12
returns c = rw (read_number, ← c.le_u8.ensures, c.in_ok-allocation.was, one_of c.in_ok-allocation.allocation 2 3 c.else-allocation-ne2.either, read_number, ← c.le_u8-2.ensures, c.in_ok-write.was, eq-eqb _ _ c.if-write-ne2.false, read_number, ← c.le_u8-3.ensures, c.in_ok-defined.was, le-leb _ _ c.if-defined-gt1.false, ne_eqb _ _ c.if-defined-eq1.false, read_done)
