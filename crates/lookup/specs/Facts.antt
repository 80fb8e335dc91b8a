-- A row bears a name where it has one of the same length with the same bytes. Assumes nothing.
use Rattle.std.specs.Prelude.{ℕ, ◌+◌, ◌≤◌, ◌<◌, ◌≡◌, List, length, take, drop, get_or, Some, None, Option}
use Rattle.std.proofs.Common.{sym, ◌∙◌, ap, arith, length-drop, ext_get_or, get_or-take, get_or-drop, length-take-le}
use Rattle.records.specs.declared.Part.{Part}
use Rattle.row.specs.declared.Row.{Row}
use Rattle.lookup.specs.Lookup.{Bears, HasName, NameAt}

-- a part of the file has the length asked for, and the file's bytes
part_length : (file : List ℕ) (p n : ℕ) → p + n ≤ length file → length (take n (drop p file)) ≡ n
part_length file p n h = length-take-le n (drop p file) (omega (arith, length-drop p file))

part_byte : (file : List ℕ) (p n k : ℕ) → k < n → get_or (take n (drop p file)) k 0 ≡ get_or file (p + k) 0
part_byte file p n k h = get_or-take n (drop p file) k 0 h ∙ get_or-drop p file k 0

-- the k bytes from p on are the name's first k
abbrev pub Agree : List ℕ → List ℕ → ℕ → ℕ → Type 0
Agree file name p k = (j : ℕ) → j < k → get_or file (p + j) 0 ≡ get_or name j 0

-- a row has one name at most
its_name : {file : List ℕ} {row : Row} {n p : ℕ} {q : Part} → row.name ≡ Some q → HasName file row n p → q ≡ record { position = p; length = n }
its_name e h = cc (e, h.present)

-- an attribute has a name of n bytes where its name is so long and lies in the file
pub attribute_name : {file : List ℕ} {row : Row} {n : ℕ} {q : Part} → row.kind ≡ 12 → row.name ≡ Some q → q.length ≡ n → q.position + n ≤ length file
    → HasName file row n q.position
attribute_name {q = q} a e l h = record { attribute = a; present = e ∙ ap (λ (m : ℕ). Some (record { position = q.position; length = m })) l; inside = h }

-- a row has none where it has no name, or one of another length or outside of the file
pub no_name : {file : List ℕ} {row : Row} {n : ℕ} → row.name ≡ None → (p : ℕ) → HasName file row n p → ⊥
no_name e p h = let z : ◌≡◌ {A = ℕ} 0 1 = cc (e, h.present) in absurd (omega arith)

pub other_name : {file : List ℕ} {row : Row} {n : ℕ} {q : Part} → row.name ≡ Some q → (q.length ≡ n → q.position + n ≤ length file → ⊥) → (p : ℕ) → HasName file row n p → ⊥
other_name e f p h =
    let d = its_name e h in
    f (ap (λ (q : Part). q.length) d) (omega (arith, h.inside, ap (λ (q : Part). q.position) d))

-- a row with the name has one of its length, and its bytes
has_name : {file name : List ℕ} {row : Row} (h : Bears file row name) → HasName file row (length name) h.name.position
has_name {file} {name} {row} h =
    let n : h.name.length ≡ length name = sym (part_length file h.name.position h.name.length h.inside) ∙ ap length h.bytes in
    attribute_name h.attribute h.present n (omega (arith, h.inside))

same_bytes : {file name : List ℕ} {row : Row} {p n : ℕ} → HasName file row n p → Bears file row name → Agree file name p n
same_bytes {file} {name} {row} {p} {n} h g k l =
    sym (part_byte file p n k l) ∙ ap (λ (q : Part). get_or (take q.length (drop q.position file)) k 0) (sym (its_name g.present h)) ∙ ap (λ (s : List ℕ). get_or s k 0) g.bytes

-- where row_name found a name, there is room for it in the file
pub room : (file : List ℕ) (row : Row) (n p : ℕ) (r : Option ℕ) → NameAt file row n r → r ≡ Some p → p + n ≤ length file
room file row n p r h e = let g : HasName file row n p = rw e at h in g.inside

-- the row does not bear the name: it has none that could be it, or one that differs in a byte
pub nameless : {file name : List ℕ} {row : Row} {r : Option ℕ} → NameAt file row (length name) r → r ≡ None → Bears file row name → ⊥
nameless h e g = (rw e at h) g.name.position (has_name g)

pub differs : {file name : List ℕ} {row : Row} {p k : ℕ} {r : Option ℕ} → NameAt file row (length name) r → r ≡ Some p
    → k < length name → (get_or file (p + k) 0 ≡ get_or name k 0 → ⊥) → Bears file row name → ⊥
differs {k = k} h e l d g = d (same_bytes (rw e at h) g k l)

-- or it bears the name
pub bears : {file name : List ℕ} {row : Row} {p : ℕ} {r : Option ℕ} → NameAt file row (length name) r → r ≡ Some p
    → Agree file name p (length name) → Bears file row name
bears {file} {name} {row} {p} {r} h e same =
    let g : HasName file row (length name) p = rw e at h in
    let l = part_length file p (length name) g.inside in
    record {
      attribute = g.attribute;
      name = record { position = p; length = length name };
      present = g.present;
      inside = g.inside;
      bytes = ext_get_or 0 (take (length name) (drop p file)) name l (λ k lt. part_byte file p (length name) k (omega (arith, l)) ∙ same k (omega (arith, l)));
    }
