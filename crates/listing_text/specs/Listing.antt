-- The bytes of a listing. Assumes nothing: these are definitions.
use Rattle.std.specs.Prelude.{ℕ, suc, ◌≤◌, ◌≡◌, List, [], ◌∷◌, ◌++◌, length, get_or, take, ltb, eqb, Option, Some, option_map}
use Rattle.text.specs.Text.{field}
use Rattle.format.specs.Format.{Out, found, refused, pick}
use Rattle.row.specs.declared.Row.{Row}
use Rattle.grammar.specs.Grammar.{Item}
use Rattle.grammar.specs.Table.{rows_of}
use Rattle.grammar.specs.Walk.{Went, reached, stopped, lent, without_table}
use Rattle.data_object_header.specs.Headers.{decode}
use Rattle.super_block.specs.declared.SuperBlock.{SuperBlock}
use Rattle.super_block.specs.SuperBlocks.{super_block_of}
use Rattle.records.specs.declared.Part.{Part}

-- a line: row, type, flags, size, body position; 44 is a comma
unfoldable pub head_of : ℕ → Row → List ℕ
head_of i r =
    field (Some i) 44
    ++ (field (Some r.kind) 44
    ++ (field (Some r.flags) 44
    ++ (field (Some r.size) 44
    ++ field (Some r.body) 44)))

-- the position and the length of a part, or two hyphens
unfoldable pub place_of : Option Part → ℕ → List ℕ
place_of part end = field (option_map (λ p. p.position) part) 44 ++ field (option_map (λ p. p.length) part) end

-- and then name position, name length, part position, part length; 10 ends the line
unfoldable pub line_of : ℕ → Row → List ℕ
line_of i r = head_of i r ++ (place_of r.name 44 ++ place_of r.part 10)

-- the lines of rows, numbered from i on
abbrev pub lines_of : ℕ → List Row → List ℕ
lines_of i [] = []
lines_of i (r ∷ rs) = line_of i r ++ lines_of (suc i) rs

-- `end,NEXT,ENTRIES`
unfoldable pub end_of : ℕ → ℕ → List ℕ
end_of next entries = (101 ∷ 110 ∷ 100 ∷ 44 ∷ []) ++ (field (Some next) 44 ++ field (Some entries) 10)

-- `refused,N`
unfoldable pub refused_of : ℕ → List ℕ
refused_of n = (114 ∷ 101 ∷ 102 ∷ 117 ∷ 115 ∷ 101 ∷ 100 ∷ 44 ∷ []) ++ field (Some n) 10

-- what decoding gives: a line a row, and the last; a refusal alone
unfoldable pub result_of : Went (List Item) → List ℕ
result_of (reached xs next) = lines_of 0 (rows_of xs) ++ end_of next (length xs)
result_of (stopped r n) = refused_of r

-- the same of the words of a header (`words_of`) and its rows
unfoldable pub words_text : List ℕ → List Row → List ℕ
words_text w rs = pick (eqb (get_or w 0 0) 0) (lines_of 0 rs ++ end_of (get_or w 1 0) (get_or w 2 0)) (refused_of (get_or w 0 0))

-- check, and fill: a header that the check refuses has the check's number, and of any other it is what the filling gives
unfoldable pub pair_text : Went (List Item) → Went (List Item) → List ℕ
pair_text (stopped r n) filled = refused_of r
pair_text (reached xs next) filled = result_of filled

-- the listing of the header at a position; 512 rows are lent
unfoldable pub header_text : List ℕ → ℕ → ℕ → ℕ → ℕ → List ℕ
header_text file offsets lengths end at = pair_text (decode file offsets lengths end at without_table) (decode file offsets lengths end at (lent 512))

-- with a superblock: that of the header at its root address, with its widths and its end-of-file address; a refusal alone
unfoldable pub root_text : List ℕ → Out SuperBlock → List ℕ
root_text file (found b q) = header_text file b.size_of_offsets b.size_of_lengths b.end_of_file_address b.root_group_object_header_address
root_text file (refused n) = refused_of n

-- all that the program writes for a file; more than 65,536 bytes is 2
unfoldable pub listing_of : List ℕ → List ℕ
listing_of file = pick (ltb 65536 (length file)) (refused_of 2) (root_text file (super_block_of file))

-- n counts bytes at the start of xs; the second part, which follows, is what `&xs[..n]` asks
abbrev pub Counts : ℕ → List ℕ → Type 0
Counts n xs = (n ≤ length xs) × (n ≡ length (take n xs))
