-- Laws of checking a header and filling a table with it, which end in `joint`: what the check answers holds of every table (Joint). Assumes nothing.
use Rattle.std.specs.Prelude.{ℕ, ◌/◌, ◌≤◌, ◌<◌, ◌≡◌, refl, Bool, true, false, List, length, ltb, Result, Ok, Err}
use Rattle.std.proofs.Common.{sym, ap, ◌∙◌, arith, ltb-true, ltb-false}
use Rattle.format.specs.Laws.{never}
use Rattle.records.specs.Refusals.{refusal_number}
use Rattle.records.specs.declared.Refusal.{Refusal}
use Rattle.records.specs.declared.Refusal.TheVariants as refusals
use Rattle.row.specs.Rows.{row_words}
use Rattle.grammar.specs.Grammar.{Item}
use Rattle.grammar.specs.Table.{messages}
use Rattle.grammar.specs.Walk.{Went, reached, stopped, entry_limit, lent}
use Rattle.grammar.proofs.Beside.{Beside}
use Rattle.data_object_header.specs.Headers.{decode}
use Rattle.data_object_header.specs.Passing.{decode_beside}
use Rattle.data_object_check.specs.declared.HeaderFigures.{HeaderFigures}
use Rattle.data_object_check.specs.Checked.{figures_of, check_out, figures, checked, Checked}
use Rattle.data_object.specs.declared.DataObject.{DataObject}
use Rattle.data_object.specs.Decoded.{answer_out, counts, rows_in, decoded, Decoded}
use Rattle.data_object.specs.Unique.{answer_unique}
use Rattle.data_object_theorems.specs.Checks24.{check_not_24}
use Rattle.data_object_theorems.specs.Joint.{Fills, Fails, Joint}

module _ (file : List ℕ) (offsets lengths end at : ℕ) where
  beside : Beside entry_limit 0 0 (checked file offsets lengths end at) (λ n. decode file offsets lengths end at (lent n))
  beside = decode_beside file offsets lengths end at

  module _ (n : ℕ) (o : DataObject) (t : List ℕ) (d : Decoded file offsets lengths end at n o t) where
    -- too few rows
    short : n / row_words < beside.taken → o.answer ≡ Err refusals.Table
    short h = answer_unique _ _ (d.answer ∙ ap counts (beside.full (n / row_words) (omega arith) h).1)

    -- rows enough
    alike : beside.taken ≤ n / row_words → decoded file offsets lengths end at n ≡ checked file offsets lengths end at
    alike h = beside.enough (n / row_words) h

    fails : (x : Refusal) (k : ℕ) → (x ≡ refusals.Table → ⊥) → checked file offsets lengths end at ≡ stopped (refusal_number x) k → Fails x beside.taken (n / row_words) o
    fails x k other e = record { same = same; full = short; only = λ r. only r (ltb (n / row_words) beside.taken) refl }
      where
        same : beside.taken ≤ n / row_words → o.answer ≡ Err x
        same h = answer_unique _ _ (d.answer ∙ ap counts (alike h ∙ e))

        only : o.answer ≡ Err refusals.Table → (b : Bool) → ltb (n / row_words) beside.taken ≡ b → n / row_words < beside.taken
        only r true b = ltb-true (n / row_words) beside.taken b
        only r false b = absurd (other (cc (same (ltb-false (n / row_words) beside.taken b), r)))

    fills : (xs : List Item) (next : ℕ) → checked file offsets lengths end at ≡ reached xs next → Fills (figures_of next xs) (n / row_words) o
    fills xs next e = record { same = same; exceeds = λ h. short (omega (arith, rows)); only = λ x r. only x r (ltb (n / row_words) (messages xs)) refl }
      where
        rows : beside.taken ≡ messages xs
        rows = omega (arith, beside.told xs next e)

        same : messages xs ≤ n / row_words → (o.answer ≡ Ok (next, length xs)) × (o.rows ≡ messages xs)
        same h = let i = alike (omega (arith, rows)) ∙ e in (answer_unique _ _ (d.answer ∙ ap counts i), d.rows ∙ ap rows_in i)

        only : (x : Refusal) → o.answer ≡ Err x → (b : Bool) → ltb (n / row_words) (messages xs) ≡ b → (x ≡ refusals.Table) × (n / row_words < messages xs)
        only x r true b = let h = ltb-true (n / row_words) (messages xs) b in (cc (r, short (omega (arith, rows))), h)
        only x r false b = let h = (same (ltb-false (n / row_words) (messages xs) b)).0 in never (ap answer_out (sym r ∙ h))

  pub joint : (a : Result HeaderFigures Refusal) → Checked file offsets lengths end at a → Joint file offsets lengths end at a
  joint (Ok f) c = passed (checked file offsets lengths end at) refl c.answer
    where
      passed : (w : Went (List Item)) → checked file offsets lengths end at ≡ w → check_out (Ok f) ≡ figures w → Joint file offsets lengths end at (Ok f)
      passed (reached xs next) e i = λ n o t d. let z : f ≡ figures_of next xs = cc in rw z (fills n o t d xs next e)
      passed (stopped r k) e i = never (sym i)
  joint (Err x) c = refusal (checked file offsets lengths end at) refl c.answer
    where
      refusal : (w : Went (List Item)) → checked file offsets lengths end at ≡ w → check_out (Err x) ≡ figures w → Joint file offsets lengths end at (Err x)
      refusal (reached xs next) e i = never i
      refusal (stopped r k) e i =
          let z : refusal_number x ≡ r = cc in
          let j = e ∙ ap (λ (y : ℕ). stopped y k) (sym z) in
          record { begun = k; taken = beside.taken; stops = j; before = beside.before (refusal_number x) k j; few = beside.few (omega arith); filled = λ n o t d. fails n o t d x k (λ y. check_not_24 file offsets lengths end at (rw y at c)) j }
