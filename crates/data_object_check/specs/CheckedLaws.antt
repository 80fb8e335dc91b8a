-- What the ways out of a check say: the walk's items give the figures. A check has one answer. Assumes nothing.
use Rattle.std.specs.Prelude.{ℕ, ◌≡◌, List, Result, Ok, Err}
use Rattle.std.proofs.Common.{sym, ap, ◌∙◌}
use Rattle.format.specs.Format.{found}
use Rattle.format.specs.Laws.{never}
use Rattle.records.specs.Refusals.{refusal_number}
use Rattle.records.specs.RefusalLaws.{refusal_unique}
use Rattle.records.specs.declared.Refusal.{Refusal}
use Rattle.grammar.specs.Grammar.{Item}
use Rattle.grammar.specs.Walk.{reached, stopped, without_table}
use Rattle.grammar.specs.WalkLaws.{same_reached}
use Rattle.ohdr_closing.specs.declared.Progress.{Progress}
use Rattle.ohdr_closing.specs.Answers.{walked_of}
use Rattle.data_object_header.specs.Headers.{Checkable}
use Rattle.data_object_header.specs.Passing.{passes_without}
use Rattle.data_object_messages.specs.Messages.{decode_on}
use Rattle.data_object_messages.specs.Laws.{stops, Told, told}
use Rattle.data_object_check.specs.declared.HeaderFigures.{HeaderFigures}
use Rattle.data_object_check.specs.Checked.{figures_of, check_out, figures, checked, Checked}

-- figures, or a number, have one answer
pub check_answer_unique : (a b : Result HeaderFigures Refusal) → check_out a ≡ check_out b → a ≡ b
check_answer_unique (Ok f) (Ok g) e = cc
check_answer_unique (Ok f) (Err y) e = never (sym e)
check_answer_unique (Err x) (Ok g) e = never e
check_answer_unique (Err x) (Err y) e = ap Err (refusal_unique x y (cc))

module _ (file : List ℕ) (offsets lengths end at : ℕ) where
  -- whatever has a reading is found
  found_it : (next : ℕ) (xs : List Item) → Checkable file offsets lengths end at next xs → checked file offsets lengths end at ≡ reached xs next
  found_it next xs c = (passes_without file offsets lengths end at next xs).1 c

  module _ (t : List ℕ) where
    -- a walk that was refused
    pub refused_checked : (x : Refusal) (n : ℕ) → stopped (refusal_number x) n ≡ decode_on file offsets lengths end at without_table t → Checked file offsets lengths end at (Err x)
    refused_checked x n e =
        record {
          answer = sym (ap figures d);
          meant = λ next xs c. none next xs c;
          accepts = λ next xs c. absurd (none next xs c);
        }
      where
        d : checked file offsets lengths end at ≡ stopped (refusal_number x) n
        d = stops file offsets lengths end at without_table t (refusal_number x) n e

        none : (next : ℕ) (xs : List Item) → Checkable file offsets lengths end at next xs → ⊥
        none next xs c = never (sym (ap figures d) ∙ ap figures (found_it next xs c))

    -- a walk that was done
    pub passed_checked : (p : Progress) (u : List ℕ) → reached (walked_of p u) p.at ≡ decode_on file offsets lengths end at without_table t
        → Checked file offsets lengths end at (Ok (record { next = p.at; entries = p.entries; rows = p.rows }))
    passed_checked p u e =
        record {
          answer = ap (λ (x : HeaderFigures). found x p.at) same ∙ sym (ap figures w.reaches);
          meant = record { items = w.items; checkable = (passes_without file offsets lengths end at p.at w.items).0 w.reaches; told = same };
          accepts = λ next xs c. ap Ok (same ∙ same_reached (λ (ys : List Item) (q : ℕ). figures_of q ys) (sym w.reaches ∙ found_it next xs c));
        }
      where
        w : Told file offsets lengths end at without_table t p u
        w = told file offsets lengths end at without_table t p u e

        same : ◌≡◌ {A = HeaderFigures} (record { next = p.at; entries = p.entries; rows = p.rows }) (figures_of p.at w.items)
        same = λ i. record { next = p.at; entries = w.entries i; rows = w.rows i }

  -- a check has one answer
  pub checked_unique : (a b : Result HeaderFigures Refusal) → Checked file offsets lengths end at a → Checked file offsets lengths end at b → a ≡ b
  checked_unique a b c d = check_answer_unique a b (c.answer ∙ sym d.answer)
