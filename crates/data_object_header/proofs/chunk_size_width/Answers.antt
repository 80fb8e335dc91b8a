-- The mask leaves flag bits 0 and 1, at most 3, so 1 shifted by them is a power of two up to 8.
use Rattle.data_object_header.specs.Facts.{mask_below, width_small, shifted}
use native.Mathlib.Omega.{arith}
use Rattle.data_object_header.proofs.chunk_size_width.Goals as goal

pub overflow_cast-result : goal.overflow_cast-result
overflow_cast-result c = record { fits = mask_below c.args.flags _ _ (omega arith) }

pub overflow_shl-result : goal.overflow_shl-result
overflow_shl-result c = mask_below c.args.flags _ _ (omega arith)

pub returns : goal.returns
returns c = (shifted c.args.flags, rw (shifted c.args.flags) (width_small c.args.flags))
