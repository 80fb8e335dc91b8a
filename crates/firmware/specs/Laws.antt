-- What is handed over for a part, for a set of names that is refused or not, and for a header or a file that is refused. Assumes nothing.
use Rattle.std.specs.Prelude.{ℕ, ◌+◌, ◌≤◌, ◌<◌, ◌≡◌, refl, List, length, get_or, replicate, Result, Ok, Err}
use Rattle.std.proofs.Common.{sym, ap, arith, le-leb}
use Rattle.std.proofs.lemmas.Bool.{lt-leb}
use Rattle.format.specs.Format.{Out, found, refused}
use Rattle.records.specs.declared.Refusal.{Refusal}
use Rattle.records.specs.declared.Part.{Part}
use Rattle.records.specs.RefusalLaws.{refusal_positive}
use Rattle.super_block.specs.declared.SuperBlock.{SuperBlock}
use Rattle.super_block.specs.SuperBlocks.{super_block_of}
use Rattle.data_object_winners.specs.Wins.{Wins}
use Rattle.data_object.specs.Decoded.{Meant}
use Rattle.lookup_names.specs.Names.{names_in, Answers, LookedNames}
use Rattle.firmware.specs.Words.{no_part, in_words, names_of}
use Rattle.data_object_words.specs.Handed.{Handed}
use Rattle.data_object_root.specs.Root.{refused_words, HandedBy, HandedRoot}
use Rattle.firmware.specs.Handed.{HandedNames, HandedPart}

module _ (file : List ℕ) (p : Part) where
  pub part_lies : p.position + p.length ≤ length file → HandedPart file p (in_words p)
  part_lies h =
      record {
        itself = rw (le-leb (p.position + p.length) (length file) h);
        inside = h;
        bytes = rw (le-leb (p.position + p.length) (length file) h);
      }

  pub part_leaves : length file < p.position + p.length → HandedPart file p no_part
  part_leaves h =
      record {
        itself = rw (lt-leb (p.position + p.length) (length file) h);
        inside = omega arith;
        bytes = rw (lt-leb (p.position + p.length) (length file) h);
      }

-- The word 0 says that every name has its answer, and any other that all answers are zero.
module _ (file table : List ℕ) (rows : ℕ) (text set : List ℕ) (lent : ℕ) (answers : List ℕ) where
  pub names_answered : HandedNames file table rows text set lent answers 0 → Answers file table rows text set lent (names_in set) answers
  names_answered h = go h.answer h.looked h.word
    where
      go : (a : Result (Unit {0}) Refusal) → LookedNames file table rows text set lent answers a → 0 ≡ names_of a → Answers file table rows text set lent (names_in set) answers
      go (Ok u) l e = l.2
      go (Err r) l e = absurd (refusal_positive r (sym e))

  pub names_refused : (r : ℕ) → HandedNames file table rows text set lent answers r → (r ≡ 0 → ⊥) → answers ≡ replicate lent 0
  names_refused r h f = go h.answer h.looked h.word
    where
      go : (a : Result (Unit {0}) Refusal) → LookedNames file table rows text set lent answers a → r ≡ names_of a → answers ≡ replicate lent 0
      go (Ok u) l e = absurd (f e)
      go (Err q) l e = l.1

-- Of a header that is refused every word but the number is that of the defaults, and the whole table is 0.
module _ {file : List ℕ} {offsets lengths end at n : ℕ} {t w : List ℕ} (h : Handed file offsets lengths end at n t w) where
  by_answer : (a : Result (ℕ × ℕ) Refusal) → h.object.answer ≡ a → Meant file offsets lengths end at n a h.object t → (get_or w 0 0 ≡ 0 → ⊥)
      → (w ≡ refused_words (get_or w 0 0)) × (t ≡ replicate n 0)
  by_answer (Ok (next, count)) e m f = absurd (f (rw (h.words, e)))
  by_answer (Err x) e m f = (
    rw (
      h.words,
      e,
      m.rows,
      ap (λ (v : Wins). v.ds) m.records,
      ap (λ (v : Wins). v.dt) m.records,
      ap (λ (v : Wins). v.li) m.records,
      ap (λ (v : Wins). v.gi) m.records,
      ap (λ (v : Wins). v.ai) m.records,
      ap (λ (v : Wins). v.layout) m.records,
    ),
    m.table,
  )

  pub refused_words_lem : (get_or w 0 0 ≡ 0 → ⊥) → (w ≡ refused_words (get_or w 0 0)) × (t ≡ replicate n 0)
  refused_words_lem f = by_answer h.object.answer refl h.decoded.meant f

-- The same of a file whose superblock or whose root's header is refused.
module _ (file : List ℕ) (n : ℕ) (t w : List ℕ) where
  by_block : (o : Out SuperBlock) → HandedBy file n t w o → (get_or w 0 0 ≡ 0 → ⊥) → (w ≡ refused_words (get_or w 0 0)) × (t ≡ replicate n 0)
  by_block (found b q) h f = refused_words_lem h f
  by_block (refused r) h f = (rw h.1, h.0)

  pub refused_root : HandedRoot file n t w → (get_or w 0 0 ≡ 0 → ⊥) → (w ≡ refused_words (get_or w 0 0)) × (t ≡ replicate n 0)
  refused_root h f = by_block (super_block_of file) h f
