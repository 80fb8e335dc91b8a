-- What is given by hand before a file, in a case. Assumes nothing: these are definitions.
use Rattle.std.specs.Prelude.{ℕ, ◌≡◌, Bool, true, false, List, drop}
use Rattle.format.specs.Format.{Format, done, number, Out, found, refused, read}
use Rattle.test_replayer.specs.declared.Lead.{Lead}

-- the 18 lead bytes: widths of offsets and lengths, end-of-file address, header position; where they are fewer, reading is 3
unfoldable pub lead : Format Lead
lead =
    number 1 (λ offsets.
    number 1 (λ lengths.
    number 8 (λ end.
    number 8 (λ position.
    done {A = Lead} (record { offsets = offsets; lengths = lengths; end_of_file = end; position = position })))))

-- P file l b: what it says of the file behind the lead that its case passed. An input with fewer than the lead bytes does not pass.
module _ (P : List ℕ → Lead → Bool → Type 0) (input : List ℕ) (b : Bool) where
  abbrev pub LedBy : Out Lead → Type 0
  LedBy (found l start) = P (drop start input) l b
  LedBy (refused n) = b ≡ false

  abbrev pub Led : Type 0
  Led = LedBy (read input lead 0)

-- b says whether a text is what is expected
abbrev pub Compared : List ℕ → List ℕ → Bool → Type 0
Compared text expected b = (b ≡ true → text ≡ expected) × (text ≡ expected → b ≡ true)
