-- IV.A.2.d, the datatype message: a compound's member before its type, versions 1 and 3. Assumes nothing: these are definitions.
use Rattle.std.specs.Prelude.{ℕ, ◌+◌, eqb, ltb}
use Rattle.format.specs.Bytes.{to_multiple_of8}
use Rattle.format.specs.Format.{Format, number, skip, name, check, pick, nothing}

-- a compound's member before its type, version 3: name, closing byte, and an offset of one byte in a compound whose size is not 0
unfoldable pub member3 : ℕ → Format (Unit {0})
member3 size =
    name 4095 (λ _.
    skip 1 (
    pick (ltb 0 size) (number 1 (λ byte_offset_of_member. nothing)) nothing))

-- a compound's member before its type, version 1: name and closing byte, padded together to a multiple of 8; the bytes passed over behind the
-- dimensionality are reserved. Only a scalar member is read.
unfoldable pub member1 : Format (Unit {0})
member1 =
    name 255 (λ length.
    skip 1 (
    skip (to_multiple_of8 (length + 1)) (
    number 4 (λ byte_offset_of_member.
    number 1 (λ dimensionality.
    check (eqb dimensionality 0) 11 (
    skip 3 (
    number 4 (λ dimension_permutation.
    skip 4 (
    number 4 (λ dimension_1_size.
    number 4 (λ dimension_2_size.
    number 4 (λ dimension_3_size.
    number 4 (λ dimension_4_size.
    nothing)))))))))))))

unfoldable pub member_fields : ℕ → ℕ → Format (Unit {0})
member_fields version size = pick (eqb version 3) (member3 size) member1
