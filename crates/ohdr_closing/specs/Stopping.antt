-- What an answer was before the entries begun were put to its refusal, and what `?` hands on of it. Assumes nothing.
use Rattle.std.specs.Prelude.{ℕ, ◌≡◌, refl, Result, Ok, Err, IsErrAnd}
use Rattle.std.proofs.Common.{sym, ap, ◌∙◌}
use Rattle.records.specs.declared.Refusal.{Refusal}
use Rattle.ohdr_closing.specs.Answers.{with_entries}
use Rattle.ohdr_closing.specs.declared.Stopped.{Stopped}

-- what stopped a walk is handed on as it is
pub stopped_on : {A : Type 0} (r : Result A Stopped) (s : Stopped) → IsErrAnd r (λ y. y ≡ s) → r ≡ Err s
stopped_on (Ok a) s h = absurd h
stopped_on (Err y) s h = ap Err h

-- a value was the value
pub was_value : {A : Type 0} (n : ℕ) (r : Result A Refusal) {w : Result A Stopped} {a : A} → w ≡ with_entries n r → w ≡ Ok a → r ≡ Ok a
was_value n (Ok b) {a = a} e f = let same : b ≡ a = cc (sym e ∙ f) in ap Ok same
was_value n (Err x) e f = absurd (cc (sym e ∙ f))

-- a refusal was r's, and what `?` hands on of it is v
pub record Handed {A B : Type 0} (n : ℕ) (r : Result A Refusal) (v : Result B Stopped) : Type 0 where
  pub refusal : Refusal
  pub was : r ≡ Err refusal
  pub on : v ≡ Err (record { refusal = refusal; entries = n })

pub was_refused : {A B : Type 0} (n : ℕ) (r : Result A Refusal) {w : Result A Stopped} {s : Stopped} (v : Result B Stopped) → w ≡ with_entries n r → w ≡ Err s → IsErrAnd v (λ y. y ≡ s) → Handed n r v
was_refused n (Ok b) v e f h = absurd (cc (sym e ∙ f))
was_refused n (Err x) {s = s} v e f h =
    let same : s ≡ record { refusal = x; entries = n } = cc (sym f ∙ e) in
    record { refusal = x; was = refl; on = stopped_on v s h ∙ ap Err same }
