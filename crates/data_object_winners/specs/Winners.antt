-- Where the last message of a type has its body, and the record that is read there. Assumes nothing: these are definitions.
use Rattle.std.specs.Prelude.{ℕ, zero, suc, List, set, eqb, ltb, Option, Some, None}
use Rattle.row.specs.Rows.{row_at}
use Rattle.format.specs.Format.{Format, pick, Out, found, refused, read}

-- in the first n rows of a table
unfoldable pub last_in : List ℕ → ℕ → ℕ → Option ℕ
last_in t type zero = None
last_in t type (suc n) = pick (eqb (row_at t n).kind type) (Some (row_at t n).body) (last_in t type n)

-- for each type below 22 the last row with it among the first n, counted from 1; before any row it is as l says
unfoldable pub last_rows : List ℕ → List ℕ → ℕ → List ℕ
last_rows l t zero = l
last_rows l t (suc n) = pick (ltb (row_at t n).kind 22) (set (last_rows l t n) (row_at t n).kind (suc n)) (last_rows l t n)

-- where the row with this number, counted from 1, has its body; 0 is no row
abbrev pub body_of : List ℕ → ℕ → Option ℕ
body_of t zero = None
body_of t (suc n) = Some (row_at t n).body

abbrev pub value_or : {A : Type 0} → A → Out A → A
value_or a (found x q) = x
value_or a (refused n) = a

-- the record that a format reads there, and another where there is none
abbrev pub winner : {A : Type 0} → List ℕ → Format A → A → Option ℕ → A
winner file F a (Some b) = value_or a (read file F b)
winner file F a None = a
