-- After each turn the lines of the rows so far are written, each in at most 189 bytes.
use Rattle.std.proofs.Common.{◌≤◌, ◌*◌, ◌≡◌, length}
use Rattle.text.specs.Text.{Wrote}
use Rattle.row.specs.Rows.{first_rows}
use Rattle.listing_text.specs.Listing.{lines_of}
use Rattle.listing_text.proofs.put_lines.Given as goal

abbrev pub invariant-loop-i : goal.invariant-loop-i
invariant-loop-i l =
    record {
      room : l.at ≤ l.i * 189;
      long : length l.out ≡ length l.initial.out;
      wrote : Wrote l.initial.out 0 l.out l.at (lines_of 0 (first_rows l.table l.i));
    }
