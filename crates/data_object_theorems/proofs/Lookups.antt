-- A lookup in the table of a decoded header finds the first attribute of its reading that bears the name, since row i of the table is that of
-- message i. Assumes nothing.
use Rattle.std.specs.Prelude.{ℕ, zero, suc, ◌+◌, ◌-◌, ◌*◌, ◌/◌, ◌≤◌, ◌<◌, ◌≡◌, refl, List, [], ◌∷◌, ◌++◌, map, length, replicate, Some, Option, None, Result, Ok, Err}
use Rattle.std.proofs.Common.{sym, ap, ◌∙◌, append_assoc, arith, length-append}
use Rattle.std.proofs.lemmas.List.{length-replicate}
use Rattle.records.specs.declared.Part.{Part}
use Rattle.records.specs.declared.Attribute.{Attribute}
use Rattle.records.specs.declared.Refusal.{Refusal}
use Rattle.row.specs.declared.Row.{Row}
use Rattle.row.specs.Rows.{row_words, encode, row_at}
use Rattle.row.specs.RowLaws.{row_written, length-encode}
use Rattle.grammar.specs.Message.{Kept, Message, name_of, row_of}
use Rattle.grammar.specs.Message as messages
use Rattle.grammar.specs.Table.{messages_of, rows_of}
use Rattle.grammar.specs.TableLaws.{length-rows_of}
use Rattle.data_object.specs.declared.DataObject.{DataObject}
use Rattle.data_object.specs.Decoded.{Accepted}
use Rattle.lookup.specs.Lookup.{Bears, Looked}
use Rattle.lookup_names.specs.Names.{row_plus_one, LookedAs}
use Rattle.data_object_theorems.specs.Lookups.{MessageAt, BearsName, FirstBearing}

-- behind the rows pre, row i is that of message i
row_behind : (pre : List Row) (ms : List Message) (rest : List ℕ) (i : ℕ) (m : Message) → MessageAt ms i m → row_at (encode (pre ++ map row_of ms) ++ rest) (length pre + i) ≡ row_of m
row_behind pre [] rest i m h = absurd h
row_behind pre (x ∷ xs) rest zero m h =
    let e : length pre + 0 ≡ length pre = omega arith in
    ap (row_at (encode (pre ++ map row_of (x ∷ xs)) ++ rest)) e ∙ row_written pre (row_of x) (map row_of xs) rest ∙ ap row_of h
row_behind pre (x ∷ xs) rest (suc i) m h =
    let e : length pre + suc i ≡ length (pre ++ (row_of x ∷ [])) + i = omega (arith, length-append pre (row_of x ∷ [])) in
    ap (row_at (encode (pre ++ map row_of (x ∷ xs)) ++ rest)) e
    ∙ ap (λ (rs : List Row). row_at (encode rs ++ rest) (length (pre ++ (row_of x ∷ [])) + i)) (sym (append_assoc pre (row_of x ∷ []) (map row_of xs)))
    ∙ row_behind (pre ++ (row_of x ∷ [])) xs rest i m h

row_is : (ms : List Message) (rest : List ℕ) (i : ℕ) (m : Message) → MessageAt ms i m → row_at (encode (map row_of ms) ++ rest) i ≡ row_of m
row_is ms rest i m h = let e : i ≡ 0 + i = omega arith in ap (row_at (encode (map row_of ms) ++ rest)) e ∙ row_behind [] ms rest i m h

some_message : (ms : List Message) (i : ℕ) → i < length ms → (m : Message) × MessageAt ms i m
some_message [] i h = absurd (omega arith)
some_message (x ∷ xs) zero h = (x, refl)
some_message (x ∷ xs) (suc i) h = some_message xs i (omega arith)

-- what is kept under a name is an attribute, and the name is its
named : (k : Kept) (p : Part) → name_of k ≡ Some p → (a : Attribute) × (k ≡ messages.attribute a) × (a.name ≡ p)
named messages.nothing p e = let z : ◌≡◌ {A = ℕ} 0 1 = cc in absurd (omega arith)
named (messages.data_space x) p e = let z : ◌≡◌ {A = ℕ} 0 1 = cc in absurd (omega arith)
named (messages.link_info x) p e = let z : ◌≡◌ {A = ℕ} 0 1 = cc in absurd (omega arith)
named (messages.data_type x) p e = let z : ◌≡◌ {A = ℕ} 0 1 = cc in absurd (omega arith)
named (messages.data_layout x) p e = let z : ◌≡◌ {A = ℕ} 0 1 = cc in absurd (omega arith)
named (messages.group_info x) p e = let z : ◌≡◌ {A = ℕ} 0 1 = cc in absurd (omega arith)
named (messages.attribute a) p e = let d : a.name ≡ p = cc in (a, refl, d)
named (messages.attribute_info x) p e = let z : ◌≡◌ {A = ℕ} 0 1 = cc in absurd (omega arith)

module _ (file name : List ℕ) (m : Message) where
  -- a row that bears the name is the row of a message that does
  row_bears : Bears file (row_of m) name → BearsName file name m
  row_bears b =
      let w = named m.kept b.name b.present in
      record { attribute = w.0; kept = w.1; type = b.attribute; inside = rw w.2 b.inside; bytes = rw w.2 b.bytes }

  -- and the row of a message that bears the name does
  bears_row : BearsName file name m → Bears file (row_of m) name
  bears_row b = record { attribute = b.type; name = b.attribute.name; present = ap name_of b.kept; inside = b.inside; bytes = b.bytes }

-- over an accepted header, its table and the rows that it fills
module _ (file : List ℕ) (offsets lengths end at n : ℕ) {next count : ℕ} {r : DataObject} {t : List ℕ} (a : Accepted file offsets lengths end at n next count r t) (name : List ℕ) where
  row_of_lem : (i : ℕ) (m : Message) → MessageAt (messages_of a.items) i m → row_at t i ≡ row_of m
  row_of_lem i m h = ap (λ (x : List ℕ). row_at x i) a.table ∙ row_is (messages_of a.items) (replicate (n - length (rows_of a.items) * row_words) 0) i m h

  pub lookup_first : (i : ℕ) → Looked file t r.rows name (Ok (Some i)) → FirstBearing file name (messages_of a.items) i
  lookup_first i l =
      let s = some_message (messages_of a.items) i (omega (arith, l.1, a.rows)) in
      record {
        message = s.0;
        here = s.1;
        bears = row_bears file name s.0 (rw (row_of_lem i s.0 s.1) at l.2);
        before = λ j m h e b. l.3 j h (rw (row_of_lem j m e) (bears_row file name m b));
      }

  pub lookup_nothing : Looked file t r.rows name (Ok None) → (i : ℕ) (m : Message) → MessageAt (messages_of a.items) i m → BearsName file name m → ⊥
  lookup_nothing l i m e b = l.1 i (omega (arith, a.rows, index (messages_of a.items) i m e)) (rw (row_of_lem i m e) (bears_row file name m b))
    where
      index : (xs : List Message) (i : ℕ) (m : Message) → MessageAt xs i m → i < length xs
      index [] i m h = absurd h
      index (x ∷ xs) zero m h = omega arith
      index (x ∷ xs) (suc i) m h = omega (arith, index xs i m h)

  -- and each answer to many names is 1 more than the place of the first message that bears the name, or 0 where none does
  pub name_first : (i : ℕ) → LookedAs file t r.rows name (i + 1) → FirstBearing file name (messages_of a.items) i
  name_first i w = go w.answer w.looked w.same
    where
      go : (x : Result (Option ℕ) Refusal) → Looked file t r.rows name x → i + 1 ≡ row_plus_one x → FirstBearing file name (messages_of a.items) i
      go (Ok (Some j)) l e = let d : i ≡ j = omega arith in rw d (lookup_first j l)
      go (Ok None) l e = absurd (omega arith)
      go (Err q) l e = absurd (omega arith)

  -- the rows that are filled are in the table
  rows_inside : r.rows ≤ length t / row_words
  rows_inside =
      let rows = rows_of a.items in
      let zeros = n - length rows * row_words in
      omega (arith, ap length a.table, length-append (encode rows) (replicate zeros 0), length-encode rows, length-replicate {A = ℕ} zeros 0, length-rows_of a.items, a.rows, a.readable.room)

  pub name_nothing : LookedAs file t r.rows name 0 → (i : ℕ) (m : Message) → MessageAt (messages_of a.items) i m → BearsName file name m → ⊥
  name_nothing w = go w.answer w.looked w.same
    where
      go : (x : Result (Option ℕ) Refusal) → Looked file t r.rows name x → 0 ≡ row_plus_one x → (i : ℕ) (m : Message) → MessageAt (messages_of a.items) i m → BearsName file name m → ⊥
      go (Ok (Some j)) l e = absurd (omega arith)
      go (Ok None) l e = lookup_nothing l
      go (Err q) l e = absurd (omega (arith, l.1, rows_inside))
