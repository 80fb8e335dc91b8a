-- What an entry that was read says: it ends in the file, a continuation leads to a block in it, and what a message keeps is what
-- stands in its body. Assumes nothing.
use Rattle.std.specs.Prelude.{ℕ, ◌+◌, ◌≤◌, ◌≡◌, Bool, ◌&&◌, List, length, eqb}
use Rattle.std.proofs.Math.Path.{ap}
use Rattle.std.proofs.Common.{sym, arith}
use Rattle.std.proofs.Math.Bool.{true, false}
use Rattle.std.proofs.Math.Dec.{leb}
use borrow.Author.Tests.{leb-true}
use Rattle.format.specs.Bytes.{le}
use Rattle.format.specs.Bools.{and_left, and_right}
use Rattle.format.specs.Format.{Format, pick, Stands, Out, found, refused, read}
use Rattle.format.specs.Laws.{never, sound}
use Rattle.format.specs.Covers.{inside}
use Rattle.format.specs.Standing.{stands_bind, stands_check}
use Rattle.grammar.specs.Message.{Message, Held, message, continuation, row_of}
use Rattle.row.specs.declared.Row.{Row}
use Rattle.helpers.specs.Addresses.{defined_address}
use Rattle.parser.specs.declared.State.{State}
use Rattle.parser.specs.States.{address_valid}
use Rattle.ohdr_entry.specs.declared.Continuation.{Continuation}
use Rattle.ohdr_entry.specs.Continuations as info
use Rattle.ohdr_entry.specs.declared.Prefix.{Prefix}
use Rattle.ohdr_entry.specs.Entries.{prefix, body, message_held, continuation_held, closed, entry}
use Rattle.ohdr_entry.specs.Answers.{row, seen}
use Rattle.ohdr_entry.specs.Answers as answers

-- what a continuation that was read says
pub record Continued (s : State) (o l : ℕ) : Type 0 where
  pub least : 8 ≤ l
  pub within : o + l ≤ s.end_of_file_address

-- what a message keeps stands in its body
pub record Bodied (file : List ℕ) (s : State) (m : Message) : Type 0 where
  pub upto : ℕ
  pub stands : Stands file (body s m.type) m.body upto m.kept

module _ (file : List ℕ) (s : State) where
  prefix_starts : (flags p q : ℕ) (x : Prefix) → Stands file (prefix flags) p q x → p + 1 ≤ length file
  unfolding prefix
  prefix_starts flags p q x h = h.0

  pub entry_inside : (flags p q : ℕ) (x : Held) → read file (entry s flags) p ≡ found x q → q ≤ length file
  unfolding entry
  entry_inside flags p q x e =
      let w = sound file (entry s flags) p q x e in
      let b = stands_bind file (prefix flags) _ p q x w in
      inside file (entry s flags) p q x w (omega (arith, prefix_starts flags p b.0 b.1 b.2))

  range : (p q : ℕ) (c : Continuation) → Stands file (info.continuation s) p q c → Continued s c.offset c.length
  unfolding info.continuation
  range p q c h =
      let w = stands_bind file (defined_address s.size_of_offsets 19) _ p q c h in
      let o = w.1 in
      let a = stands_check file (address_valid s o) 19 _ _ q c w.3 in
      let l = le file w.0 s.size_of_lengths in
      let b = stands_check file (leb 8 l && leb (o + l) s.end_of_file_address) 19 _ _ q c a.1.1 in
      let eo : o ≡ c.offset = ap (λ (x : Continuation). x.offset) b.1.1 in
      let el : l ≡ c.length = ap (λ (x : Continuation). x.length) b.1.1 in
      record {
        least = omega (arith, leb-true 8 l (and_left (leb 8 l) (leb (o + l) s.end_of_file_address) b.0));
        within = omega (arith, leb-true (o + l) s.end_of_file_address (and_right (leb 8 l) (leb (o + l) s.end_of_file_address) b.0));
      }

  -- a closed format holds what its inner one does
  closed_holds : (F : State → Prefix → ℕ → Format Held) (x : Prefix) (b p q : ℕ) (v : Held) → Stands file (closed F s x b) p q v → (m : ℕ) × Stands file (F s x b) p m v
  unfolding closed
  closed_holds F x b p q v h =
      let w = stands_bind file (F s x b) _ p q v h in
      (w.0, rw w.3.1.1 at w.2)

  -- the two kinds of entries
  pub data Kind (p : ℕ) (x : Held) : Type 0 where
    opens : (o l : ℕ) → x ≡ continuation o l → Continued s o l → Kind p x
    keeps : (m : Message) → x ≡ message m → Bodied file s m → Kind p x

  continuation_kind : (x : Prefix) (b m : ℕ) (v : Held) → Stands file (continuation_held s x b) b m v → Kind b v
  unfolding continuation_held
  continuation_kind x b m v h =
      let w = stands_bind file (info.continuation s) _ b m v h in
      opens w.1.offset w.1.length (sym w.3.1) (range b w.0 w.1 w.2)

  message_kind : (x : Prefix) (b m : ℕ) (v : Held) → Stands file (message_held s x b) b m v → Kind b v
  unfolding message_held
  message_kind x b m v h =
      let w = stands_bind file (body s x.kind) _ b m v h in
      keeps (record { type = x.kind; flags = x.flags; size = x.size; body = b; kept = w.1 }) (sym w.3.1) (record { upto = w.0; stands = w.2 })

  pub entry_kind : (flags p q : ℕ) (x : Held) → Stands file (entry s flags) p q x → (b : ℕ) × Kind b x
  unfolding entry
  entry_kind flags p q x h =
      let w = stands_bind file (prefix flags) _ p q x h in
      (w.0, go w.1 w.0 (eqb w.1.kind 16) w.3)
    where
      go : (y : Prefix) (b : ℕ) (t : Bool) → Stands file (pick t (closed continuation_held s y b) (closed message_held s y b)) b q x → Kind b x
      go y b true h = let v = closed_holds continuation_held y b b q x h in continuation_kind y b v.0 x v.1
      go y b false h = let v = closed_holds message_held y b b q x h in message_kind y b v.0 x v.1

  pub continued : (flags p q o l : ℕ) → Stands file (entry s flags) p q (continuation o l) → Continued s o l
  continued flags p q o l h = go (entry_kind flags p q (continuation o l) h).1
    where
      go : {b : ℕ} → Kind b (continuation o l) → Continued s o l
      go (opens i k e c) = let eo : i ≡ o = cc in let el : k ≡ l = cc in rw (sym eo, sym el) c
      go (keeps m e c) = let z : ◌≡◌ {A = ℕ} 0 1 = cc in absurd (omega arith)

  pub bodied : (flags p q : ℕ) (m : Message) → Stands file (entry s flags) p q (message m) → Bodied file s m
  bodied flags p q m h = go (entry_kind flags p q (message m) h).1
    where
      go : {b : ℕ} → Kind b (message m) → Bodied file s m
      go (opens i k e c) = let z : ◌≡◌ {A = ℕ} 0 1 = cc in absurd (omega arith)
      go (keeps n e c) = let d : n ≡ m = cc in rw (sym d) c

-- what was read, from what was seen of it
pub record Rowed (o : Out Held) (r : Row) (q : ℕ) : Type 0 where
  pub value : Message
  pub found_it : o ≡ found (message value) q
  pub same : row_of value ≡ r

pub seen_row : (o : Out Held) (r : Row) (q : ℕ) → seen o ≡ found (row r) q → Rowed o r q
seen_row (found (message m) n) r q e = let d : n ≡ q = cc in let w : row_of m ≡ r = cc in record { value = m; found_it = ap (λ (k : ℕ). found (message m) k) d; same = w }
seen_row (found (continuation i l) n) r q e = let z : ◌≡◌ {A = ℕ} 0 1 = cc in absurd (omega arith)
seen_row (refused n) r q e = never e

pub seen_continuation : (o : Out Held) (i l q : ℕ) → seen o ≡ found (answers.continuation i l) q → o ≡ found (continuation i l) q
seen_continuation (found (message m) n) i l q e = let z : ◌≡◌ {A = ℕ} 0 1 = cc in absurd (omega arith)
seen_continuation (found (continuation j k) n) i l q e = let a : j ≡ i = cc in let b : k ≡ l = cc in let d : n ≡ q = cc in rw (a, b, d)
seen_continuation (refused n) i l q e = never e

pub seen_refused : (o : Out Held) (n : ℕ) → seen o ≡ refused n → o ≡ refused n
seen_refused (found x q) n e = never (sym e)
seen_refused (refused m) n e = let d : m ≡ n = cc in rw d
