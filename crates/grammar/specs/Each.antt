-- What holds of each message that stands as an entry holds of each message of a reading: by induction over what stands. Assumes nothing.
use Rattle.std.specs.Prelude.{ℕ, List, [], ◌∷◌, ◌++◌}
use Rattle.std.proofs.Common.{sym, subst}
use Rattle.grammar.specs.Message.{Message, message}
use Rattle.grammar.specs.Grammar.{Source, Item, One, Run, ends, goes, is_message, is_continuation, is_block, Reading}
use Rattle.grammar.specs.Table.{messages_of}
use Rattle.grammar.specs.TableLaws.{messages_of-append}

-- P holds of each message
abbrev pub All : (Message → Type 0) → List Message → Type 0
All P [] = Unit {0}
All P (m ∷ ms) = P m × All P ms

pub all-append : (P : Message → Type 0) (ms ns : List Message) → All P ms → All P ns → All P (ms ++ ns)
all-append P [] ns a b = b
all-append P (m ∷ ms) ns a b = (a.0, all-append P ms ns a.1 b)

module _ (src : Source) (P : Message → Type 0) (each : (p q : ℕ) (m : Message) → One src p q (message m) → P m) where
  abbrev Each : List Item → Type 0
  Each xs = All P (messages_of xs)

  both : (xs ys : List Item) → Each xs → Each ys → Each (xs ++ ys)
  both xs ys a b = subst (All P) (sym (messages_of-append xs ys)) (all-append P (messages_of xs) (messages_of ys) a b)

  run_each : {level p e q : ℕ} {xs : List Item} → Run src level p e q xs → Each xs
  run_each r = elim r as (λ level p e q xs y. Each xs) (λ level p q xs y. Each xs) (λ level o l xs y. Each xs) [
    | ends h ↦ tt
    | goes {xs = xs} {ys = ys} h (a → i) (r → j) ↦ both xs ys i j
    | is_message {p = p} {q = q} {m = m} h ↦ (each p q m h, tt)
    | is_continuation h n (b → i) ↦ i
    | is_block m h (r → j) t ↦ j
  ]

  pub reading_each : {o p e next : ℕ} {xs : List Item} → Reading src o p e next xs → Each xs
  reading_each r = run_each r.run
