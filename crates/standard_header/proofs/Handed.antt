-- What decoding a header hands out is the specification's, field by field, or a listed difference applies: in a chunk (`ChunkDiffers`) or in the
-- body of a message (`FillDiffers`, `PipelineDiffers`, `TypeDiffers`, `AttributeDiffers`). What the fields are compared by says the rest: `Same..`.
-- Assumes nothing.
use Rattle.std.specs.Prelude.{ℕ, ◌≤◌, ◌≡◌, List, Result, Ok}
use Rattle.std.proofs.Common.{subst}
use Rattle.records.specs.declared.Refusal.{Refusal}
use Rattle.parser.specs.States.{state_for}
use Rattle.data_object.specs.declared.DataObject.{DataObject}
use Rattle.data_object.specs.Decoded.{Accepted, Meant, Decoded}
use Rattle.standard_header.specs.HeaderIs.{HeaderIs, Standard}
use Rattle.standard_header.proofs.Readings.{reading_is, each_message}
use Rattle.standard_header.proofs.Winning.{reading_wins}

-- Over a file, the widths of offsets and lengths, an end-of-file address, a header position and a table of so many words, which ends as t;
-- and the longest name of a member that the specification's formats are asked for.
module _ (file : List ℕ) (offsets lengths end at n longest : ℕ) where
  -- of every accepted header
  pub accepted_standard : 4095 ≤ longest → {after count : ℕ} {r : DataObject} {t : List ℕ} → Accepted file offsets lengths end at n after count r t → Standard file offsets lengths end at n longest after count r t
  accepted_standard enough {after} {count} {r} a =
      let h : HeaderIs file (state_for offsets lengths end) longest at after count r.rows a.readable.checkable.reading.fields a.items = rw (a.entries, a.rows) (reading_is file (state_for offsets lengths end) longest enough a.readable.checkable.reading) in
      record {
        items = a.items;
        entry_count = a.entries;
        row_count = a.rows;
        fields = a.readable.checkable.reading.fields;
        header = h;
        rows = each_message file (state_for offsets lengths end) longest h.entries;
        table = a.table;
        records = rw a.records (reading_wins file (state_for offsets lengths end) longest enough a.readable.checkable.reading);
      }

  -- in the words of the call's contract
  pub decoded_standard : 4095 ≤ longest → (r : DataObject) (t : List ℕ) → Decoded file offsets lengths end at n r t → (after count : ℕ) → r.answer ≡ Ok (after, count) → Standard file offsets lengths end at n longest after count r t
  decoded_standard enough r t d after count e = accepted_standard enough (subst (λ (x : Result (ℕ × ℕ) Refusal). Meant file offsets lengths end at n x r t) e d.meant)
