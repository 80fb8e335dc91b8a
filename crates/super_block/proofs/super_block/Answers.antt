-- The file's size, the fields and the checksum are tested in the definition's order; the checksum lies in the file, since the fields do.
use native.Mathlib.Omega.{arith}
use Rattle.std.specs.Prelude.{Ok}
use Rattle.helpers.specs.Answers.{out}
use borrow.Author.Tests.{le-leb, lt-leb}
use Rattle.helpers.specs.Facts.{met, handed_on}
use Rattle.super_block.specs.Laws.{fields_inside, with_widths}
use Rattle.super_block.specs.SuperBlocks.{super_block_of}
use borrow.Author.Rules.{rules}
use Rattle.super_block.proofs.super_block.Goals as goal

pub returns-then-file-gt-FILE_LIMIT-clause-result_value : goal.returns-then-file-gt-FILE_LIMIT-clause-result_value
unfolding super_block_of
returns-then-file-gt-FILE_LIMIT-clause-result_value c = rw (lt-leb _ _ c.if-file-gt-FILE_LIMIT.true)

pub returns-then-file-gt-FILE_LIMIT-clause-widths_read : goal.returns-then-file-gt-FILE_LIMIT-clause-widths_read
returns-then-file-gt-FILE_LIMIT-clause-widths_read c = tt

pub returns-in_err-block-clause-result_value : goal.returns-in_err-block-clause-result_value
unfolding super_block_of
returns-in_err-block-clause-result_value c = rw (le-leb _ _ c.if-file-gt-FILE_LIMIT.false, ← c.super_block_fields.ensures, c.in_err-block.was, handed_on c.from_residual.result c.in_err-block.field-0.0 c.from_residual.ensures.1)

pub returns-in_err-block-clause-widths_read : goal.returns-in_err-block-clause-widths_read
returns-in_err-block-clause-widths_read c = rw (handed_on c.from_residual.result c.in_err-block.field-0.0 c.from_residual.ensures.1) tt

pub overflow_sub-at : goal.overflow_sub-at
overflow_sub-at c = let h = fields_inside c.args.file.now _ _ (met out c.super_block_fields.ensures c.in_ok-block.was) in omega (arith, h.0)

pub checksum_matches-requires : goal.checksum_matches-requires
checksum_matches-requires c = let h = fields_inside c.args.file.now _ _ (met out c.super_block_fields.ensures c.in_ok-block.was) in search rules

pub returns-then-not-checksum_matches-clause-result_value : goal.returns-then-not-checksum_matches-clause-result_value
unfolding super_block_of
returns-then-not-checksum_matches-clause-result_value c = rw (le-leb _ _ c.if-file-gt-FILE_LIMIT.false, ← c.super_block_fields.ensures, c.in_ok-block.was, ← c.checksum_matches.ensures, c.if-not-checksum_matches.true)

pub returns : goal.returns
unfolding super_block_of
returns c =
    let h = with_widths c.args.file.now (Ok (c.in_ok-block.block, c.in_ok-block.at)) (rw (le-leb _ _ c.if-file-gt-FILE_LIMIT.false, ← c.super_block_fields.ensures, c.in_ok-block.was, ← c.checksum_matches.ensures, c.if-not-checksum_matches.false)) in
    record { result_value = h.0; widths_read = h.1 }
