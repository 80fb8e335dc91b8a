-- Version, count and reserved bytes are steps of the format, and the call reads the filters.
use Rattle.helpers.specs.Facts.{handed_on}
use borrow.Author.Tests.{le-ltb, lt-ltb}
use Rattle.format.specs.Steps.{read_number, read_bind, read_refuse}
use Rattle.ohdr_storage.specs.Storage.{filter_pipeline}
use Rattle.ohdr_storage.specs.Facts.{one_of, none_of}
use Rattle.ohdr_storage.proofs.message_filter_pipeline.Goals as goal

pub returns-in_err-version : goal.returns-in_err-version
unfolding filter_pipeline
returns-in_err-version c = rw (read_number, ← c.le_u8.ensures, c.in_err-version.was, handed_on c.from_residual.result c.in_err-version.field-0.0 c.from_residual.ensures.1)

pub returns-then-version-ne2 : goal.returns-then-version-ne2
unfolding filter_pipeline
returns-then-version-ne2 c = rw (read_number, ← c.le_u8.ensures, c.in_ok-version.was, none_of c.in_ok-version.version 1 2 c.if-version-ne1.true c.if-version-ne2.true, read_refuse)

pub returns-in_err-filters : goal.returns-in_err-filters
unfolding filter_pipeline
returns-in_err-filters c = rw (read_number, ← c.le_u8.ensures, c.in_ok-version.was, one_of c.in_ok-version.version 1 2 c.else-version-ne1.either, read_number, ← c.le_u8-2.ensures, c.in_err-filters.was, handed_on c.from_residual-in_err-filters.result c.in_err-filters.field-0.0 c.from_residual-in_err-filters.ensures.1)

pub returns-then-filters-ge32 : goal.returns-then-filters-ge32
unfolding filter_pipeline
returns-then-filters-ge32 c = rw (read_number, ← c.le_u8.ensures, c.in_ok-version.was, one_of c.in_ok-version.version 1 2 c.else-version-ne1.either, read_number, ← c.le_u8-2.ensures, c.in_ok-filters.was, le-ltb _ _ c.if-filters-ge32.true, read_refuse)

pub returns-in_err-list_at : goal.returns-in_err-list_at
unfolding filter_pipeline
returns-in_err-list_at c = rw (read_number, ← c.le_u8.ensures, c.in_ok-version.was, one_of c.in_ok-version.version 1 2 c.else-version-ne1.either, read_number, ← c.le_u8-2.ensures, c.in_ok-filters.was, lt-ltb _ _ c.if-filters-ge32.false, read_bind, ← c.pipeline_reserved.ensures, c.in_err-list_at.was, handed_on c.from_residual-in_err-list_at.result c.in_err-list_at.field-0.0 c.from_residual-in_err-list_at.ensures.1)

pub returns : goal.returns
unfolding filter_pipeline
returns c = rw (read_number, ← c.le_u8.ensures, c.in_ok-version.was, one_of c.in_ok-version.version 1 2 c.else-version-ne1.either, read_number, ← c.le_u8-2.ensures, c.in_ok-filters.was, lt-ltb _ _ c.if-filters-ge32.false, read_bind, ← c.pipeline_reserved.ensures, c.in_ok-list_at.was) c.all_filters.ensures
