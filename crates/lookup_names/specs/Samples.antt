-- A worked sample of many names: a file, a table, the names asked for, and the answers lent. Assumes nothing: these are definitions.
use Rattle.std.specs.Prelude.{ℕ, List, [], ◌∷◌, Some, None}
use Rattle.row.specs.declared.Row.{Row}
use Rattle.row.specs.Rows.{encode}

-- a file of the letters a and b, and a table with an attribute named a and one named b
abbrev pub file : List ℕ
file = 97 ∷ 98 ∷ []

abbrev pub attribute : ℕ → Row
attribute at =
    record { kind = 12; flags = 0; size = 0; body = 0; name = Some (record { position = at; length = 1 }); part = None; number_case = 0; number_bits = 0 }

abbrev pub table : List ℕ
table = encode (attribute 0 ∷ attribute 1 ∷ [])

-- the names b and a, an empty one at the text's very end, an empty one past it, and a word too many
abbrev pub text : List ℕ
text = 98 ∷ 97 ∷ []

abbrev pub names : List ℕ
names = 0 ∷ 1 ∷ 1 ∷ 1 ∷ 2 ∷ 0 ∷ 3 ∷ 0 ∷ 7 ∷ []

-- five answers are lent
abbrev pub answers : List ℕ
answers = 2 ∷ 1 ∷ 0 ∷ 0 ∷ 0 ∷ []
