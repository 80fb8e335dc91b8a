-- A part as long as the size is there just where the file has so many bytes from the address on.
use Prim.Native.Nat.{◌+◌, ◌≤◌}
use lib.ListN.{length}
use Rattle.ohdr_layout.specs.Facts.{part_cut, part_whole}
use borrow.Author.Tests.{lt-leb, le-leb}
use Rattle.format.specs.Steps.{bytes_room}
use native.Mathlib.Omega.{arith}
use Rattle.ohdr_layout.proofs.data_at.Goals as goal

pub returns-then-file-address : goal.returns-then-file-address
returns-then-file-address c = rw (bytes_room, lt-leb (c.args.address + c.args.size) (length c.args.file.now) (omega arith))

pub returns-then-part-size : goal.returns-then-part-size
returns-then-part-size c =
    let a = c.args in
    rw (bytes_room, lt-leb _ _ (part_cut a.file.now a.address a.size c.contiguous_bytes-part.ensures c.if-file-address.false c.if-part-size.true))

pub overflow_add-result : goal.overflow_add-result
-- the part has all the bytes asked for
overflow_add-result c = let a = c.args in let whole : a.address + a.size ≤ length a.file.now = part_whole a.file.now a.address a.size c.contiguous_bytes-part.ensures c.if-file-address.false c.if-part-size.false in omega arith

pub returns : goal.returns
returns c = let a = c.args in let whole : a.address + a.size ≤ length a.file.now = part_whole a.file.now a.address a.size c.contiguous_bytes-part.ensures c.if-file-address.false c.if-part-size.false in rw (bytes_room, le-leb _ _ whole)
