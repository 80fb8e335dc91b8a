-- A set of names worked through: the answers stand in the names' order, which here is not the rows'. How many names a set may have, and which
-- refusal comes first, with their numbers. Assumes nothing.
use Rattle.std.specs.Prelude.{ℕ, zero, suc, ◌+◌, ◌<◌, ◌≤◌, ◌≡◌, refl, List, [], ◌∷◌, length, take, drop, get_or, Some, None, Result, Ok, Err}
use Rattle.std.proofs.Common.{ap, ◌∙◌, inl, inr, arith}
use Rattle.records.specs.declared.Part.{Part}
use Rattle.records.specs.Refusals.{refusal_number}
use Rattle.records.specs.declared.Refusal.{Refusal}
use Rattle.row.specs.declared.Row.{Row}
use Rattle.row.specs.Rows.{row_at, part_at}
use Rattle.lookup.specs.Lookup.{Bears, Looked}
use Rattle.lookup_names.specs.Names.{name_at, NameAnswered, RefusedAs, LookedNames}
use Rattle.lookup_names.specs.Facts.{leaving, looked_up, zeros}
use Rattle.lookup_names.specs.Unique.{looked_names_unique}
use Rattle.lookup_names.specs.Samples.{file, table, text, names, answers}

own_name : (row : Row) (p : Part) (wanted : List ℕ) → row.name ≡ Some p → Bears file row wanted → take p.length (drop p.position file) ≡ wanted
own_name row p wanted e h = let d : p ≡ h.name = cc (e, h.present) in ap (λ (q : Part). take q.length (drop q.position file)) d ∙ h.bytes

-- each row bears its own letter, and no other name
bears : (j : ℕ) → j < 2 → Bears file (row_at table j) ((97 + j) ∷ [])
unfolding row_at part_at
bears zero l = record { attribute = refl; name = record { position = 0; length = 1 }; present = refl; inside = omega arith; bytes = refl }
bears (suc zero) l = record { attribute = refl; name = record { position = 1; length = 1 }; present = refl; inside = omega arith; bytes = refl }
bears (suc (suc j)) l = absurd (omega arith)

letter : (j : ℕ) → j < 2 → (wanted : List ℕ) → Bears file (row_at table j) wanted → (97 + j) ∷ [] ≡ wanted
unfolding row_at part_at
letter zero l wanted h = own_name (row_at table 0) (record { position = 0; length = 1 }) wanted refl h
letter (suc zero) l wanted h = own_name (row_at table 1) (record { position = 1; length = 1 }) wanted refl h
letter (suc (suc j)) l wanted h = absurd (omega arith)

not_before : (i j : ℕ) → i < 2 → j < i → Bears file (row_at table j) ((97 + i) ∷ []) → ⊥
not_before i j l lt h = let e : 97 + j ≡ 97 + i = ap (λ (s : List ℕ). get_or s 0 0) (letter j (omega arith) ((97 + i) ∷ []) h) in omega arith

found : (i : ℕ) → i < 2 → Looked file table 2 ((97 + i) ∷ []) (Ok (Some i))
found i l = (omega arith, l, bears i l, λ j lt. not_before i j l lt)

none : Looked file table 2 [] (Ok None)
none = (omega arith, λ j l h. let e : ◌≡◌ {A = ℕ} 1 0 = ap length (letter j l [] h) in omega arith)

each : (k : ℕ) → k < 4 → NameAnswered file table 2 text (name_at names k) (get_or answers k 0)
each zero l = looked_up {p = 0} {n = 1} (omega arith) (Ok (Some 1)) (Ok (Some 1)) refl (found 1 (omega arith))
each (suc zero) l = looked_up {p = 1} {n = 1} (omega arith) (Ok (Some 0)) (Ok (Some 0)) refl (found 0 (omega arith))
each (suc (suc zero)) l = looked_up {p = 2} {n = 0} (omega arith) (Ok None) (Ok None) refl none
each (suc (suc (suc zero))) l = leaving {p = 3} {n = 0} (omega arith)
each (suc (suc (suc (suc k)))) l = absurd (omega arith)

behind : (k : ℕ) → 4 ≤ k → get_or answers k 0 ≡ 0
behind zero l = absurd (omega arith)
behind (suc zero) l = absurd (omega arith)
behind (suc (suc k)) l = zeros 3 k

pub in_the_names_order : LookedNames file table 2 text names 5 answers (Ok tt)
in_the_names_order = (omega arith, omega arith, record { as_lent = refl; each = each; behind = behind })

-- so the same answers in the rows' order are not what is promised
pub not_in_the_rows_order : (r : Result (Unit {0}) Refusal) → LookedNames file table 2 text names 5 (1 ∷ 2 ∷ 0 ∷ 0 ∷ 0 ∷ []) r → ⊥
not_in_the_rows_order r h =
    let e : ◌≡◌ {A = ℕ} 2 1 = ap (λ (a : List ℕ). get_or a 0 0) (looked_names_unique file table 2 text names 5 answers _ (Ok tt) r in_the_names_order h).0 in
    omega arith

-- 64 words are 32 names, which are taken, and 66 are 33, which are 29 whatever the row count; of a table of 24 words three rows are 24
module _ (file table text names answers : List ℕ) where
  abbrev NumberIs : Result (Unit {0}) Refusal → ℕ → Type 0
  NumberIs a n = (r : Refusal) × (a ≡ Err r) × (refusal_number r ≡ n)

  pub names_32 : (lent : ℕ) → length names ≡ 64 → 32 ≤ lent → length table ≡ 24 → (r : Refusal) → LookedNames file table 2 text names lent answers (Err r) → ⊥
  names_32 lent n l t r h = go h.0
    where
      go : RefusedAs table 2 names lent r → ⊥
      go (inl g) = omega (arith, n, g.1)
      go (inr g) = omega (arith, t, g.2)

  pub names_33 : (lent rows : ℕ) → length names ≡ 66 → (a : Result (Unit {0}) Refusal) → LookedNames file table rows text names lent answers a → NumberIs a 29
  names_33 lent rows n (Ok u) h = absurd (omega (arith, n, h.0))
  names_33 lent rows n (Err r) h = go h.0
    where
      go : RefusedAs table rows names lent r → NumberIs (Err r) 29
      go (inl g) = (r, refl, rw g.0)
      go (inr g) = absurd (omega (arith, n, g.1))

  pub three_rows : (lent : ℕ) → length names ≡ 64 → 32 ≤ lent → length table ≡ 24 → (a : Result (Unit {0}) Refusal) → LookedNames file table 3 text names lent answers a → NumberIs a 24
  three_rows lent n l t (Ok u) h = absurd (omega (arith, t, h.1))
  three_rows lent n l t (Err r) h = go h.0
    where
      go : RefusedAs table 3 names lent r → NumberIs (Err r) 24
      go (inl g) = absurd (omega (arith, n, g.1))
      go (inr g) = (r, refl, rw g.0)
