-- Sums that others published or wrote, and that the definition gives each: a wrong constant in definition and code alike would show here.
-- Assumes nothing.
use Rattle.std.specs.Prelude.{ℕ, ◌≡◌, refl, List, [], ◌∷◌}
use Rattle.format.specs.Bytes.{le}
use Rattle.lookup3.specs.Lookup3.{plus, minus, rotate, mix_line, mix, final_line, final_mix, add_block, blocks, sum_of, lookup3}

pub record Vector : Type 0 where
  pub bytes : List ℕ
  pub sum : ℕ

abbrev pub vectors : List Vector
vectors =
    -- lookup3.c: of no bytes, and of 30
    record { bytes = []; sum = 0xDEADBEEF }
    -- `Four score and seven years ago`
    ∷ record { bytes = 0x46 ∷ 0x6F ∷ 0x75 ∷ 0x72 ∷ 0x20 ∷ 0x73 ∷ 0x63 ∷ 0x6F ∷ 0x72 ∷ 0x65 ∷ 0x20 ∷ 0x61 ∷ 0x6E ∷ 0x64 ∷ 0x20 ∷ 0x73 ∷ 0x65 ∷ 0x76 ∷ 0x65 ∷ 0x6E ∷ 0x20 ∷ 0x79 ∷ 0x65 ∷ 0x61 ∷ 0x72 ∷ 0x73 ∷ 0x20 ∷ 0x61 ∷ 0x67 ∷ 0x6F ∷ []; sum = 0x17770551 }
    -- the tests of the HDF5 library: of 1 byte and of 4
    ∷ record { bytes = 23 ∷ []; sum = 0xA209C931 }
    ∷ record { bytes = 23 ∷ 187 ∷ 98 ∷ 217 ∷ []; sum = 0x2C88BB51 }
    -- an object header without messages, and one with a gap of 3 bytes
    ∷ record { bytes = 0x4F ∷ 0x48 ∷ 0x44 ∷ 0x52 ∷ 2 ∷ 0 ∷ 0 ∷ []; sum = 0xAC0417EF }
    ∷ record { bytes = 0x4F ∷ 0x48 ∷ 0x44 ∷ 0x52 ∷ 2 ∷ 0 ∷ 3 ∷ 0x61 ∷ 0x62 ∷ 0x63 ∷ []; sum = 0xFB2FA889 }
    ∷ []

abbrev pub each : (Vector → ℕ) → List Vector → List ℕ
each f [] = []
each f (v ∷ vs) = f v ∷ each f vs

pub published : each (λ v. lookup3 v.bytes) vectors ≡ each (λ v. v.sum) vectors
unfolding plus minus rotate mix_line mix final_line final_mix add_block blocks sum_of le
published = refl
