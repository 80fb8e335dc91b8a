-- The report of a decoded header: its words and its table as lines of text; and the numbers of its rows. Assumes nothing: these are definitions.
use Rattle.std.specs.Prelude.{ℕ, zero, suc, ◌+◌, ◌-◌, List, [], ◌∷◌, ◌++◌, get_or, eqb, Option, Some, None}
use Rattle.format.specs.Format.{pick}
use Rattle.text.specs.Text.{field}
use Rattle.records.specs.declared.Part.{Part}
use Rattle.row.specs.declared.Row.{Row}
use Rattle.row.specs.Rows.{first_rows}
use Rattle.data_object.specs.Decoded.{bytes_of}

-- In all of these 44 is a comma and 10 ends a line. What is absent is a hyphen.

-- a part's length, a comma and its bytes; a hyphen and a comma where there is none
unfoldable pub piece_of : List ℕ → Option Part → List ℕ
piece_of file (Some p) = field (Some p.length) 44 ++ bytes_of file p
piece_of file None = field None 44

-- `TYPE,FLAGS,SIZE,BODY,`
unfoldable pub head_of : Row → List ℕ
head_of r =
    field (Some r.kind) 44
    ++ (field (Some r.flags) 44
    ++ (field (Some r.size) 44
    ++ field (Some r.body) 44))

-- and then `NAMELENGTH,NAMEBYTES,PARTLENGTH,PARTBYTES`
unfoldable pub row_line : List ℕ → Row → List ℕ
row_line file r = head_of r ++ (piece_of file r.name ++ ((44 ∷ []) ++ (piece_of file r.part ++ (10 ∷ []))))

-- a line a row
abbrev pub lines_of : (Row → List ℕ) → List Row → List ℕ
lines_of line [] = []
lines_of line (r ∷ rs) = line r ++ lines_of line rs

-- the lines of rows
abbrev pub row_lines : List ℕ → List Row → List ℕ
row_lines file rs = lines_of (row_line file) rs

-- `data,LENGTH,BYTES`
unfoldable pub data_of : List ℕ → Part → List ℕ
data_of file part = (100 ∷ 97 ∷ 116 ∷ 97 ∷ 44 ∷ []) ++ (piece_of file (Some part) ++ (10 ∷ []))

-- the words from a place on, n of them, each with a comma
unfoldable pub figures_of : List ℕ → ℕ → ℕ → List ℕ
figures_of words first zero = []
figures_of words first (suc n) = figures_of words first n ++ field (Some (get_or words (first + n) 0)) 44

-- `WORD,..,WORD`: from one place to another, the last among them
unfoldable pub words_line : List ℕ → ℕ → ℕ → List ℕ
words_line words first last = figures_of words first (last - first) ++ field (Some (get_or words last 0)) 10

-- `dataspace,`, `datatype,`, `link_info,`, `group_info,` and `attribute_info,`, each with the words of the record, and `layout,` with those of its address
unfoldable pub records_of : List ℕ → List ℕ
records_of words =
    (100 ∷ 97 ∷ 116 ∷ 97 ∷ 115 ∷ 112 ∷ 97 ∷ 99 ∷ 101 ∷ 44 ∷ [])
    ++ (words_line words 4 19
    ++ ((100 ∷ 97 ∷ 116 ∷ 97 ∷ 116 ∷ 121 ∷ 112 ∷ 101 ∷ 44 ∷ [])
    ++ (words_line words 20 32
    ++ ((108 ∷ 105 ∷ 110 ∷ 107 ∷ 95 ∷ 105 ∷ 110 ∷ 102 ∷ 111 ∷ 44 ∷ [])
    ++ (words_line words 33 42
    ++ ((103 ∷ 114 ∷ 111 ∷ 117 ∷ 112 ∷ 95 ∷ 105 ∷ 110 ∷ 102 ∷ 111 ∷ 44 ∷ [])
    ++ (words_line words 43 51
    ++ ((97 ∷ 116 ∷ 116 ∷ 114 ∷ 105 ∷ 98 ∷ 117 ∷ 116 ∷ 101 ∷ 95 ∷ 105 ∷ 110 ∷ 102 ∷ 111 ∷ 44 ∷ [])
    ++ (words_line words 52 59
    ++ ((108 ∷ 97 ∷ 121 ∷ 111 ∷ 117 ∷ 116 ∷ 44 ∷ []) ++ words_line words 60 62))))))))))

-- `refused`, whatever the number
unfoldable pub refused_of : List ℕ
refused_of = (114 ∷ 101 ∷ 102 ∷ 117 ∷ 115 ∷ 101 ∷ 100 ∷ 10 ∷ [])

-- a header that is read: `read,NEXT,ENTRIES,ROWS`, its rows, its records and its data
unfoldable pub answer_of : List ℕ → List ℕ → List ℕ → List ℕ
answer_of file table words =
    (114 ∷ 101 ∷ 97 ∷ 100 ∷ 44 ∷ [])
    ++ (words_line words 1 3
    ++ (row_lines file (first_rows table (get_or words 3 0))
    ++ (records_of words
    ++ data_of file (record { position = get_or words 63 0; length = get_or words 64 0 }))))

-- the text of a header whose words these are, in the order of `words_of`: what is told of one that is read, or the refusal
abbrev pub told : List ℕ → List ℕ → List ℕ
told words answer = pick (eqb (get_or words 0 0) 0) answer refused_of

-- its report, where its rows stand in the table
unfoldable pub report_of : List ℕ → List ℕ → List ℕ → List ℕ
report_of file table words = told words (answer_of file table words)

-- `CASE,BITS`: which number a row has, and its bits; zeros where it has none
unfoldable pub number_line : Row → List ℕ
number_line r = field (Some r.number_case) 44 ++ field (Some r.number_bits) 10

-- and its numbers: those of each row
unfoldable pub numbers_of : List ℕ → List ℕ → List ℕ
numbers_of table words = told words (lines_of number_line (first_rows table (get_or words 3 0)))
