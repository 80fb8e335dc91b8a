-- Version and class are steps of the format, and the class chooses which call reads the rest.
use native.Mathlib.Omega.{arith}
use Rattle.helpers.specs.Facts.{handed_on}
use Rattle.ohdr_layout.specs.DataLayouts.{data_layout}
use Rattle.format.specs.Steps.{read_number, read_refuse}
use borrow.Author.Tests.{eq-eqb, ne_eqb}
use Rattle.ohdr_layout.proofs.message_data_layout.Goals as goal

pub returns-in_err-version : goal.returns-in_err-version
unfolding data_layout
returns-in_err-version c = rw (read_number, ← c.le_u8.ensures, c.in_err-version.was, handed_on c.from_residual.result c.in_err-version.field-0.0 c.from_residual.ensures.1)

pub returns-then-version-ne3 : goal.returns-then-version-ne3
unfolding data_layout
returns-then-version-ne3 c = rw (read_number, ← c.le_u8.ensures, c.in_ok-version.was, ne_eqb _ _ c.if-version-ne3.true, read_refuse)

pub returns-in_err-class : goal.returns-in_err-class
unfolding data_layout
returns-in_err-class c = rw (read_number, ← c.le_u8.ensures, c.in_ok-version.was, eq-eqb _ _ c.if-version-ne3.false, read_number, ← c.le_u8-2.ensures, c.in_err-class.was, handed_on c.from_residual-in_err-class.result c.in_err-class.field-0.0 c.from_residual-in_err-class.ensures.1)

pub returns-in-0 : goal.returns-in-0
unfolding data_layout
returns-in-0 c = rw (read_number, ← c.le_u8.ensures, c.in_ok-version.was, eq-eqb _ _ c.if-version-ne3.false, read_number, ← c.le_u8-2.ensures, c.in_ok-class.was, c.in-0.is) c.layout_compact.ensures

pub returns-in-1 : goal.returns-in-1
unfolding data_layout
returns-in-1 c = rw (read_number, ← c.le_u8.ensures, c.in_ok-version.was, eq-eqb _ _ c.if-version-ne3.false, read_number, ← c.le_u8-2.ensures, c.in_ok-class.was, c.in-1.is) c.layout_contiguous.ensures

pub returns-in-2 : goal.returns-in-2
unfolding data_layout
returns-in-2 c = rw (read_number, ← c.le_u8.ensures, c.in_ok-version.was, eq-eqb _ _ c.if-version-ne3.false, read_number, ← c.le_u8-2.ensures, c.in_ok-class.was, c.in-2.is, read_refuse)

pub returns-in_default : goal.returns-in_default
unfolding data_layout
returns-in_default c = rw (read_number, ← c.le_u8.ensures, c.in_ok-version.was, eq-eqb _ _ c.if-version-ne3.false, read_number, ← c.le_u8-2.ensures, c.in_ok-class.was, ne_eqb c.in_ok-class.class 0 (omega arith), ne_eqb c.in_ok-class.class 1 (omega arith), ne_eqb c.in_ok-class.class 2 (omega arith), read_refuse)
