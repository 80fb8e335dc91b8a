-- A header's run and what closes it, as the code reads them: each way out is one way through the definition. Assumes nothing.
use Rattle.std.specs.Prelude.{ℕ, ◌≡◌, List, Result, Ok, Err}
use Rattle.std.proofs.Common.{sym}
use Rattle.format.specs.Format.{read}
use Rattle.records.specs.Refusals.{refusal_number}
use Rattle.records.specs.declared.Refusal.{Refusal}
use Rattle.helpers.specs.Answers.{place_out}
use Rattle.helpers.specs.Facts.{met}
use Rattle.grammar.specs.Grammar.{header_end}
use Rattle.grammar.specs.Walk.{reached, stopped}
use Rattle.grammar.proofs.FilledLaws.{walk_on_stops, walk_on_unclosed, walk_on_closed}
use Rattle.ohdr_closing.specs.Answers.{limits_of, walked_of, walk_out}
use Rattle.ohdr_closing.specs.declared.Limits.{Limits}
use Rattle.ohdr_closing.specs.declared.Progress.{Progress}
use Rattle.ohdr_closing.specs.declared.Stopped.{Stopped}
use Rattle.ohdr_walk.specs.Code.{source_of, run_of, walk_of}
use Rattle.lookup3.specs.Lookup3.{sum_matches}
use Rattle.ohdr_walk.specs.declared.Header.{Header}

module _ (file : List ℕ) (h : Header) (l : Limits) (o e p : ℕ) (t t' : List ℕ) {w : Result Progress Stopped} (j : walk_out w t' ≡ run_of file h l 25 e p (record { entries = 0; rows = 0; table = t })) where
  pub unwalked : {s : Stopped} → w ≡ Err s → walk_out (Err s) t' ≡ walk_of file h l o e p t
  unwalked {s} d = sym (walk_on_stops (source_of file h) (limits_of l) o e p t (refusal_number s.refusal) s.entries (met (λ w. walk_out w t') j d))

  module _ {p' : Progress} (d : w ≡ Ok p') {u : Result ℕ Refusal} (m : place_out u ≡ read file (header_end (sum_matches file) o e p'.at) p'.at) where
    pub ajar : {x : Refusal} → u ≡ Err x → stopped (refusal_number x) p'.entries ≡ walk_of file h l o e p t
    ajar {x} y = sym (walk_on_unclosed (source_of file h) (limits_of l) o e p t p'.at (walked_of p' t') (met (λ w. walk_out w t') j d) (refusal_number x) (met place_out m y))

    pub shut : {q : ℕ} → u ≡ Ok q → reached (walked_of p' t') q ≡ walk_of file h l o e p t
    shut {q} y = sym (walk_on_closed (source_of file h) (limits_of l) o e p t p'.at (walked_of p' t') (met (λ w. walk_out w t') j d) q (met place_out m y))
