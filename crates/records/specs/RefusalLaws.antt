-- Each refusal has a number of its own, since the number gives the refusal back. Assumes nothing.
use Rattle.std.specs.Prelude.{ℕ, ◌≡◌, refl, List, [], ◌∷◌, get_or}
use Rattle.std.proofs.Common.{sym, ap, ◌∙◌, arith}
use Rattle.records.specs.Refusals.{refusal_number}
use Rattle.records.specs.declared.Refusal.{Refusal}
use Rattle.records.specs.declared.Refusal.TheVariants as refusals

-- each refusal at its number; no refusal has the number 0
in_order : List Refusal
in_order =
    refusals.Width
    ∷ refusals.Width
    ∷ refusals.FileSize
    ∷ refusals.Short
    ∷ refusals.Signature
    ∷ refusals.Version
    ∷ refusals.HeaderFlags
    ∷ refusals.ChunkSize
    ∷ refusals.EntryFlags
    ∷ refusals.DataSpace
    ∷ refusals.LinkInfo
    ∷ refusals.DataType
    ∷ refusals.DataFill
    ∷ refusals.DataLayout
    ∷ refusals.Chunked
    ∷ refusals.GroupInfo
    ∷ refusals.FilterPipeline
    ∷ refusals.Attribute
    ∷ refusals.AttributeInfo
    ∷ refusals.ContinuationRange
    ∷ refusals.ContinuationSignature
    ∷ refusals.BlockLevel
    ∷ refusals.TypeLevel
    ∷ refusals.Entries
    ∷ refusals.Table
    ∷ refusals.SuperBlockSignature
    ∷ refusals.SuperBlockVersion
    ∷ refusals.BaseAddress
    ∷ refusals.Checksum
    ∷ refusals.Names
    ∷ []

given_back : (r : Refusal) → get_or in_order (refusal_number r) refusals.Width ≡ r
unfolding in_order
given_back refusals.Width = refl
given_back refusals.FileSize = refl
given_back refusals.Short = refl
given_back refusals.Signature = refl
given_back refusals.Version = refl
given_back refusals.HeaderFlags = refl
given_back refusals.ChunkSize = refl
given_back refusals.EntryFlags = refl
given_back refusals.DataSpace = refl
given_back refusals.LinkInfo = refl
given_back refusals.DataType = refl
given_back refusals.DataFill = refl
given_back refusals.DataLayout = refl
given_back refusals.Chunked = refl
given_back refusals.GroupInfo = refl
given_back refusals.FilterPipeline = refl
given_back refusals.Attribute = refl
given_back refusals.AttributeInfo = refl
given_back refusals.ContinuationRange = refl
given_back refusals.ContinuationSignature = refl
given_back refusals.BlockLevel = refl
given_back refusals.TypeLevel = refl
given_back refusals.Entries = refl
given_back refusals.Table = refl
given_back refusals.SuperBlockSignature = refl
given_back refusals.SuperBlockVersion = refl
given_back refusals.BaseAddress = refl
given_back refusals.Checksum = refl
given_back refusals.Names = refl

-- no refusal has the number 0
pub refusal_positive : (r : Refusal) → refusal_number r ≡ 0 → ⊥
unfolding in_order
refusal_positive r e =
    let first : r ≡ refusals.Width = sym (given_back r) ∙ ap (λ (n : ℕ). get_or in_order n refusals.Width) e in
    let one : refusal_number r ≡ 1 = ap refusal_number first in
    omega arith

pub refusal_unique : (x y : Refusal) → refusal_number x ≡ refusal_number y → x ≡ y
refusal_unique x y e = sym (given_back x) ∙ ap (λ (n : ℕ). get_or in_order n refusals.Width) e ∙ given_back y
