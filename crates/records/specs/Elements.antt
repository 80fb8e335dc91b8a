-- How many elements a dataspace has, and when its record is true. Assumes nothing: these are definitions.
use Rattle.std.specs.Prelude.{ℕ, ◌*◌, ◌^◌, ◌≡◌, Bool, false, List, [], ◌∷◌, eqb, ltb, take, Option, Some, None}
use Rattle.format.specs.Format.{pick}
use Rattle.records.specs.declared.Dimensions.{Dimensions}
use Rattle.records.specs.declared.DataSpace.{DataSpace}

-- the product of sizes, 1 if there are none
unfoldable pub product : List ℕ → ℕ
product [] = 1
product (n ∷ ns) = n * product ns

-- kind 2 is a null dataspace; version 1 has no kind
abbrev pub is_null : Option ℕ → Bool
is_null None = false
is_null (Some type) = eqb type 2

-- a null dataspace has no elements, whatever its sizes; any other has as many as its sizes make
abbrev pub elements_by : Option ℕ → Dimensions → ℕ
elements_by kind size = pick (is_null kind) 0 (product (take size.count size.sizes))

abbrev pub elements_of : DataSpace → ℕ
elements_of d = elements_by d.kind d.dimension_size

-- a number, or too many from 2 ^ 64 up
abbrev pub count_of : ℕ → Option ℕ
count_of n = pick (ltb n (2 ^ 64)) (Some n) None

-- a record is true where its count is that of its kind and its sizes
abbrev pub TrueSpace : DataSpace → Type 0
TrueSpace d = d.elements ≡ count_of (elements_of d)
