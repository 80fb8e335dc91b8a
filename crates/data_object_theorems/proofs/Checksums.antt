-- In a reading every stored checksum is that of the bytes before it: the header's, and that of each block that is opened in it, each time.
-- Assumes nothing.
use Rattle.std.specs.Prelude.{ℕ, ◌+◌, ◌-◌, List, [], ◌∷◌, ◌++◌}
use Rattle.format.specs.Format.{nothing, Stands}
use Rattle.format.specs.Standing.{stands_check}
use Rattle.parser.specs.declared.State.{State}
use Rattle.lookup3.specs.Lookup3.{Matches, sum_matches}
use Rattle.lookup3.specs.Laws.{matches_is}
use Rattle.grammar.specs.Grammar.{Item, block_end, header_end, Run, ends, goes, is_message, is_continuation, is_block}
use Rattle.ohdr_walk.specs.Sources.{source}
use Rattle.data_object_header.specs.Headers.{HeaderReading}
use Rattle.data_object_theorems.specs.Checksums.{BlocksMatch}

module _ (file : List ℕ) where
  both : (is js : List Item) → BlocksMatch file is → BlocksMatch file js → BlocksMatch file (is ++ js)
  both [] js a b = b
  both (i ∷ is) js a b = (a.0, both is js a.1 b)

  block_matches : (o w q m : ℕ) → Stands file (block_end (sum_matches file) o w q) q m tt → Matches file o (w - 4)
  unfolding block_end
  block_matches o w q m h = matches_is file o (w - 4) (stands_check file (sum_matches file o (w - 4)) 28 nothing (q + (w - q)) m tt h.1).0

  header_matches : (o e q m : ℕ) → Stands file (header_end (sum_matches file) o e q) q m tt → Matches file o e
  unfolding header_end
  header_matches o e q m h = matches_is file o e (stands_check file (sum_matches file o e) 28 nothing (q + (e - q) + 4) m tt h.1.1).0

  module _ (s : State) where
    run_matches : (flags : ℕ) {level p e q : ℕ} {xs : List Item} → Run (source file s flags) level p e q xs → BlocksMatch file xs
    run_matches flags r = elim r as (λ level p e q xs y. BlocksMatch file xs) (λ level p q xs y. BlocksMatch file xs) (λ level o n xs y. Matches file o (o + n - 4) × BlocksMatch file xs) [
      | ends h ↦ tt
      | goes {xs = xs} {ys = ys} h (a → i) (r → j) ↦ both xs ys i j
      | is_message h ↦ (tt, tt)
      | is_continuation h n (b → i) ↦ i
      | is_block {offset = o} {size = n} {q = q} m h (r → j) t ↦ (block_matches o (o + n) q m t, j)
    ]

    pub reading_matches : {at next : ℕ} {xs : List Item} (h : HeaderReading file s at next xs) → Matches file at (h.start + h.fields.size) × BlocksMatch file xs
    reading_matches {at} {next} h = (header_matches at (h.start + h.fields.size) h.rest.last next h.rest.close, run_matches h.fields.flags h.rest.run)
