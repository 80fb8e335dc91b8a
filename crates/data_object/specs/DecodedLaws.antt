-- What the ways out of decoding say, put together: the walk's items give the answer, the rows, the table and the records. Assumes nothing.
use Rattle.std.specs.Prelude.{ℕ, ◌-◌, ◌*◌, ◌/◌, ◌≤◌, ◌≡◌, refl, List, ◌++◌, length, take, drop, replicate, Result, Ok, Err}
use Rattle.std.proofs.Common.{sym, ap, ap₂, ◌∙◌, arith}
use Rattle.format.specs.Format.{Format, found}
use Rattle.format.specs.Laws.{never}
use Rattle.records.specs.Refusals.{refusal_number}
use Rattle.records.specs.Defaults.{default_data_space, default_link_info, default_group_info, default_attribute_info, default_data_type, default_data_layout}
use Rattle.records.specs.declared.Refusal.{Refusal}
use Rattle.row.specs.RowLaws.{written_read}
use Rattle.row.specs.Rows.{row_words, first_rows, encode}
use Rattle.row.specs.Clearing.{table, cleared_rows}
use Rattle.parser.specs.declared.State.{State}
use Rattle.parser.specs.States.{state_for}
use Rattle.grammar.specs.Grammar.{Item}
use Rattle.grammar.specs.Table.{messages_of, rows_of}
use Rattle.grammar.specs.TableLaws.{length-rows_of}
use Rattle.grammar.specs.Walk.{reached, stopped, lent}
use Rattle.grammar.specs.WalkLaws.{same_reached}
use Rattle.grammar.specs.Filled.{filled_table}
use Rattle.ohdr_info.specs.Info.{link_info, group_info, attribute_info}
use Rattle.ohdr_layout.specs.DataLayouts.{data_layout}
use Rattle.ohdr_datatype.specs.DataTypes.{data_type, type_levels}
use Rattle.ohdr_dataspace.specs.DataSpaces.{data_space}
use Rattle.ohdr_closing.specs.declared.Progress.{Progress}
use Rattle.ohdr_closing.specs.Answers.{walked_of}
use Rattle.data_object_header.specs.Headers.{HeaderReading}
use Rattle.data_object_header.specs.Passing.{passes_lent}
use Rattle.data_object_messages.specs.Messages.{decode_on}
use Rattle.data_object_messages.specs.Laws.{stops, Told, told}
use Rattle.data_object_winners.specs.Wins.{Wins, defaults, wins_of}
use Rattle.data_object_winners.specs.Winners.{last_in, winner}
use Rattle.data_object_winners.specs.WinnerLaws.{all_bodied, Won, won, space_won, type_won, link_won, group_won, info_won, layout_won}
use Rattle.data_object.specs.Decoded.{answer_out, counts, rows_in, wins_in, decoded, Readable, Accepted, Meant, Decoded}
use Rattle.data_object.specs.declared.DataObject.{DataObject}

-- a refusal, no row, and the defaults
pub record RejectedAs (x : Refusal) (r : DataObject) : Type 0 where
  pub answer : r.answer ≡ Err x
  pub rows : r.rows ≡ 0
  pub records : wins_in r ≡ defaults

-- the end of a walk, and the records read at the last bodies of its table
pub record Built (file t : List ℕ) (p : Progress) (s : State) (r : DataObject) : Type 0 where
  pub answer : r.answer ≡ Ok (p.at, p.entries)
  pub rows : r.rows ≡ p.rows
  pub ds : r.ds ≡ winner file (data_space s) default_data_space (last_in t 1 p.rows)
  pub dt : r.dt ≡ winner file (data_type type_levels) default_data_type (last_in t 3 p.rows)
  pub li : r.li ≡ winner file (link_info s) default_link_info (last_in t 2 p.rows)
  pub gi : r.gi ≡ winner file group_info default_group_info (last_in t 10 p.rows)
  pub ai : r.ai ≡ winner file (attribute_info s) default_attribute_info (last_in t 21 p.rows)
  pub layout : r.layout ≡ winner file (data_layout s) default_data_layout (last_in t 8 p.rows)

-- the answer of an accepted header
abbrev accepted : ℕ → ℕ → Result (ℕ × ℕ) Refusal
accepted next count = Ok (next, count)

pub wins≡ : {v w : Wins} → v.ds ≡ w.ds → v.dt ≡ w.dt → v.li ≡ w.li → v.gi ≡ w.gi → v.ai ≡ w.ai → v.layout ≡ w.layout → v ≡ w
wins≡ a b c d e f = λ i. record { ds = a i; dt = b i; li = c i; gi = d i; ai = e i; layout = f i }

module _ (file : List ℕ) (offsets lengths end at n : ℕ) where
  -- whatever has a reading within the limits is found
  pub complete : (next : ℕ) (xs : List Item) → Readable file offsets lengths end at n next xs → decoded file offsets lengths end at n ≡ reached xs next
  complete next xs r = (passes_lent file offsets lengths end at (n / row_words) next xs).1 (r.checkable, r.room)

  -- a refused header
  pub rejected_decoded : (x : Refusal) (r : DataObject) (t u : List ℕ) (k : ℕ) → stopped (refusal_number x) k ≡ decode_on file offsets lengths end at (lent (n / row_words)) t → RejectedAs x r → u ≡ replicate n 0
      → Decoded file offsets lengths end at n r u
  rejected_decoded x r t u k e b z =
      record {
        answer = ap answer_out b.answer ∙ sym (ap counts d);
        rows = b.rows ∙ sym (ap rows_in d);
        meant = rw b.answer (record { none = none; rows = b.rows; table = z; records = b.records });
        accepts = λ next xs y. absurd (none next xs y);
      }
    where
      d : decoded file offsets lengths end at n ≡ stopped (refusal_number x) k
      d = stops file offsets lengths end at (lent (n / row_words)) t (refusal_number x) k e

      none : (next : ℕ) (xs : List Item) → Readable file offsets lengths end at n next xs → ⊥
      none next xs y = never (sym (ap counts d) ∙ ap counts (complete next xs y))

  -- a walk that was done over a table t of n words, which it leaves as u
  module _ (t : List ℕ) (l : length t ≡ n) (p : Progress) (u : List ℕ) (e : reached (walked_of p u) p.at ≡ decode_on file offsets lengths end at (lent (n / row_words)) t) where
    w : Told file offsets lengths end at (lent (n / row_words)) t p u
    w = told file offsets lengths end at (lent (n / row_words)) t p u e

    readable : Readable file offsets lengths end at n p.at w.items
    readable = let r = (passes_lent file offsets lengths end at (n / row_words) p.at w.items).0 w.reaches in record { checkable = r.0; room = r.1 }

    pub rows_fit : (p.rows * row_words ≤ n) × (p.rows ≤ n / row_words)
    rows_fit = (omega (arith, w.rows, readable.room), omega (arith, w.rows, readable.room))

    filled : u ≡ encode (rows_of w.items) ++ drop (length (rows_of w.items) * row_words) t
    filled =
        w.filled ∙ filled_table w.items t (omega (arith, readable.room))
        ∙ ap (λ (k : ℕ). encode (rows_of w.items) ++ drop (k * row_words) t) (sym (length-rows_of w.items))

    -- its table cleared behind its rows, and the records read there
    module _ {s : State} (m : s ≡ state_for offsets lengths end) (v : List ℕ) (k : length u ≡ n) (c : v ≡ take (p.rows * row_words) u ++ replicate (length u - p.rows * row_words) 0) where
      cleared : v ≡ table n (rows_of w.items)
      cleared = c ∙ cleared_rows (rows_of w.items) t u p.rows n (w.rows ∙ sym (length-rows_of w.items)) k filled

      reading : HeaderReading file s at p.at w.items
      reading = rw m readable.checkable.reading

      -- a record that is read at the last body of its type is the one that wins
      field : {A : Type 0} {type : ℕ} {F : Format A} {a₀ : A} {f : Wins → A} → Won file s type F a₀ f → f defaults ≡ a₀
          → winner file F a₀ (last_in v type p.rows) ≡ f (wins_of (messages_of w.items))
      field {type = type} {F = F} {a₀ = a₀} x d =
          ap₂ (λ (y : List ℕ) (j : ℕ). winner file F a₀ (last_in y type j)) cleared w.rows
          ∙ won file s x d (messages_of w.items) (all_bodied file s reading) (replicate (n - length (rows_of w.items) * row_words) 0)

      records : (r : DataObject) → Built file v p s r → wins_in r ≡ wins_of (messages_of w.items)
      records r b =
          wins≡ (b.ds ∙ field (space_won file s) refl) (b.dt ∙ field (type_won file s) refl) (b.li ∙ field (link_won file s) refl)
          (b.gi ∙ field (group_won file s) refl) (b.ai ∙ field (info_won file s) refl) (b.layout ∙ field (layout_won file s) refl)

      pub built_decoded : (r : DataObject) → Built file v p s r → Decoded file offsets lengths end at n r v
      built_decoded r b =
          record {
            answer = ap answer_out b.answer ∙ ap (λ (k : ℕ). found k p.at) w.entries ∙ sym (ap counts w.reaches);
            rows = b.rows ∙ w.rows ∙ sym (ap rows_in w.reaches);
            meant = rw b.answer (record { items = w.items; readable = readable; entries = w.entries; rows = b.rows ∙ w.rows; table = cleared; records = records r b });
            accepts = λ next xs y. b.answer ∙ ap (accepted p.at) w.entries ∙ same_reached (λ (ys : List Item) (q : ℕ). accepted q (length ys)) (sym w.reaches ∙ complete next xs y);
          }

  -- the rows that are filled are in the table
  pub rows_room : (r : DataObject) (t : List ℕ) → Decoded file offsets lengths end at n r t → r.rows ≤ n / row_words
  rows_room r t d = go r.answer d.meant
    where
      go : (a : Result (ℕ × ℕ) Refusal) → Meant file offsets lengths end at n a r t → r.rows ≤ n / row_words
      go (Ok (next, count)) m = omega (arith, m.rows, m.readable.room)
      go (Err x) m = omega (arith, m.rows)

  -- the rows of the table that an accepted header fills are those of its reading's messages
  pub accepted_rows : {next count : ℕ} {r : DataObject} {t : List ℕ} (a : Accepted file offsets lengths end at n next count r t) → first_rows t r.rows ≡ rows_of a.items
  accepted_rows a =
      ap₂ first_rows a.table (a.rows ∙ sym (length-rows_of a.items))
      ∙ written_read (rows_of a.items) (replicate (n - length (rows_of a.items) * row_words) 0)
