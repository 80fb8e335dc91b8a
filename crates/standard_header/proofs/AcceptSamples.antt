-- A header of the specification of which `ReadObjectHeader` holds: a continuation, and in its block a NIL message. Assumes nothing.
use Rattle.std.specs.Prelude.{ℕ, ◌≡◌, refl, [], ◌∷◌}
use Rattle.std.proofs.Common.{sym, ap, ◌∙◌, arith}
use Rattle.format.specs.Bytes.{le}
use Rattle.format.specs.Format.{Stands, bind, read}
use Rattle.format.specs.Laws.{sound, unique}
use Rattle.standard.specs.Fields.{defined, address}
use Rattle.standard.specs.Headers.{ContinuationMessage, continuation_message}
use Rattle.standard.specs.Examples.{continued_file, plain_message, a_whole_header}
use Rattle.standard_header.specs.Is.{read_types}
use Rattle.standard_header.proofs.Among.{none_among}
use Rattle.standard_header.specs.ReadHeaders.{not_read, levels, ReadObjectHeader}

-- what the continuation message of the file says
its_block : (q : ℕ) (c : ContinuationMessage) (offset : ℕ) → Stands continued_file (continuation_message 2 2) 11 q c → c.offset ≡ defined offset → (q ≡ 15) × (offset ≡ 19) × (c.length ≡ 12)
unfolding read bind le address continuation_message
its_block q c o h e =
    let x : ContinuationMessage = record { offset = defined 19; length = 12 } in
    let u = unique continued_file (continuation_message 2 2) 11 q 15 c x h (sound continued_file (continuation_message 2 2) 11 15 x refl) in
    let d : defined 19 ≡ defined o = ap (λ (y : ContinuationMessage). y.offset) (sym u.1) ∙ e in
    let i : o ≡ 19 = cc in
    (u.0, i, ap (λ (y : ContinuationMessage). y.length) u.1)

pub a_header_that_is_accepted : ReadObjectHeader continued_file 2 2 31 0 12 (plain_message 16 11 4 ∷ plain_message 0 27 0 ∷ [])
unfolding a_whole_header levels
a_header_that_is_accepted =
    record {
      checked = record {
        header = a_whole_header;
        widths = record { offsets_least = omega arith; offsets = omega arith; lengths_least = omega arith; lengths = omega arith };
        small = omega arith;
        prefix_read = record { no_attribute_numbers = refl; small = omega arith };
        few_levels = omega arith;
        messages_read = (
          record { flags = refl; body_read = λ n. absurd (n refl); block_read = λ q c o t h e. let w = its_block q c o h e in (omega (arith, w.0), omega (arith, w.1), omega (arith, w.1, w.2)) },
          (
            record {
              flags = refl;
              body_read = λ n. not_read {type = 0} (none_among 0 read_types refl);
              block_read = λ q c o t h e. absurd (omega (arith, t));
            },
            tt,
          ),
        );
        few = omega arith;
      };
      room = omega arith;
    }
