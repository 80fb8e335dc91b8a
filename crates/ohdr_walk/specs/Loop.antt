-- The loop over a run's entries keeps this: the definition from where it began is the definition from here. So each way out says what the
-- definition gives. Assumes nothing.
use Rattle.std.specs.Prelude.{ℕ, ◌+◌, ◌-◌, ◌≤◌, ◌<◌, ◌≡◌, List, length, Result, Ok, Err}
use Rattle.std.proofs.Common.{◌∙◌, arith}
use Rattle.records.specs.Refusals.{refusal_number}
use Rattle.grammar.specs.Walk.{Went, reached}
use Rattle.grammar.specs.Filled.{Walked}
use Rattle.grammar.proofs.FilledLaws.{Further, further as goes_further, run_ends, run_stops, run_goes}
use Rattle.ohdr_entry.specs.Entries.{prefix_size}
use Rattle.helpers.specs.Facts.{met}
use Rattle.ohdr_closing.specs.Answers.{limits_of, walked_of, walk_out}
use Rattle.ohdr_closing.specs.declared.Limits.{Limits}
use Rattle.ohdr_closing.specs.declared.Progress.{Progress}
use Rattle.ohdr_closing.specs.declared.Stopped.{Stopped}
use Rattle.ohdr_walk.specs.Code.{source_of, entry_of, run_of}
use Rattle.ohdr_walk.specs.declared.Header.{Header}

-- o, the definition's run from where the loop began, is its run from here; t is the table here, and t₀ that at the beginning
pub record Along (file : List ℕ) (h : Header) (l : Limits) (levels end : ℕ) (o : Went Walked) (t₀ : List ℕ) (p : Progress) (t : List ℕ) : Type 0 where
  pub same : o ≡ run_of file h l levels end p.at (walked_of p t)
  pub few : p.entries ≤ l.entries
  pub fewer : p.rows ≤ p.entries
  pub inside : p.at ≤ length file
  pub long : length t ≡ length t₀

module _ {file : List ℕ} {h : Header} {l : Limits} {levels end : ℕ} {o : Went Walked} {t₀ : List ℕ} {p : Progress} {t : List ℕ} (a : Along file h l levels end o t₀ p t) where
  pub ends : end < p.at + prefix_size h.flags → o ≡ reached (walked_of p t) p.at
  ends n = a.same ∙ run_ends (source_of file h) (limits_of l) levels end p.at (walked_of p t) n

  module _ (n : p.at + prefix_size h.flags ≤ end) (t' : List ℕ) where
    pub stops : {w : Result Progress Stopped} {s : Stopped} → walk_out w t' ≡ entry_of file h l levels p.at (walked_of p t) → w ≡ Err s → o ≡ walk_out (Err s) t'
    stops {w} {s} f e = a.same ∙ run_stops (source_of file h) (limits_of l) levels end p.at (walked_of p t) (refusal_number s.refusal) s.entries n (met (λ w. walk_out w t') f e)

    module _ (d : levels ≤ 25) {w : Result Progress Stopped} {p' : Progress} (f : walk_out w t' ≡ entry_of file h l levels p.at (walked_of p t)) (e : w ≡ Ok p') where
      further : Further (source_of file h) (limits_of l) (walked_of p t) (walked_of p' t') p.at p'.at
      further = goes_further (source_of file h) (limits_of l) levels end p.at (walked_of p t) d p'.at (walked_of p' t') (met (λ w. walk_out w t') f e)

      pub goes : length t' ≡ length t → Along file h l levels end o t₀ p' t'
      goes c = record {
        same = a.same ∙ run_goes (source_of file h) (limits_of l) levels end p.at (walked_of p t) d p'.at (walked_of p' t') (met (λ w. walk_out w t') f e) n;
        few = further.few;
        fewer = further.fewer a.fewer;
        inside = further.inside a.inside;
        long = c ∙ a.long;
      }

      pub falls : l.entries - p'.entries < l.entries - p.entries
      falls = omega (arith, further.more, further.few)
