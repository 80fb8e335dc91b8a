-- By the size and by the superblock: a refusal is written, or the listing of the root's header.
use borrow.Author.Tests.{lt-ltb, le-ltb}
use Rattle.listing_text.proofs.Laws.{wrote_counts}
use Rattle.listing_text.specs.Listing.{root_text, listing_of}
use Rattle.listing_text.proofs.list.Goals as goal

pub returns-then-file-gt65536-clause-counts : goal.returns-then-file-gt65536-clause-counts
returns-then-file-gt65536-clause-counts c = wrote_counts c.put_refused.ensures

pub returns-then-file-gt65536-clause-out_after : goal.returns-then-file-gt65536-clause-out_after
unfolding listing_of
returns-then-file-gt65536-clause-out_after c = rw (lt-ltb _ _ c.if-file-gt65536.true) c.put_refused.ensures.same

pub returns-in-Err-clause-counts : goal.returns-in-Err-clause-counts
returns-in-Err-clause-counts c = wrote_counts c.put_refused-in-Err.ensures

pub returns-in-Err-clause-out_after : goal.returns-in-Err-clause-out_after
unfolding listing_of root_text
returns-in-Err-clause-out_after c = rw (le-ltb _ _ c.if-file-gt65536.false, ← c.super_block.ensures.result_value, c.in-Err.is, ← c.number-number.ensures) c.put_refused-in-Err.ensures.same

pub returns-in-Ok-clause-out_after : goal.returns-in-Ok-clause-out_after
unfolding listing_of root_text
returns-in-Ok-clause-out_after c = rw (le-ltb _ _ c.if-file-gt65536.false, ← c.super_block.ensures.result_value, c.in-Ok.is) c.list_header.ensures.out_after
