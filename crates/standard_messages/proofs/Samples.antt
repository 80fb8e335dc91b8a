-- Fill values and filter pipelines that the specification ends elsewhere than they end here: the differences in their layout are real.
-- Entries are those of docs/DIFFERENCES.md, part one. Assumes nothing.
use Rattle.std.specs.Prelude.{ℕ, ◌≡◌, refl, List, [], ◌∷◌, ◌++◌, replicate}
use Rattle.format.specs.Bytes.{le}
use Rattle.format.specs.Format.{Format, Out, found, refused, read, bind, times}
use Rattle.ohdr_storage.specs.Storage.{fill_value, fill12, fill3, fill, filter1, filter2, filter_of, reserved, filter_pipeline}
use Rattle.standard.specs.Fields.{optional, raw, many}
use Rattle.standard.specs.Versions.{by_version, marked}
use Rattle.standard.specs.Storage.{size_and_fill_value_lem, fill_fields12, fill_value12, fill_value3, fill_value_message, filter_fields1, filter_description1, pipeline_fields1, filter_pipeline1, filter_fields2, filter_description2, pipeline_fields2, filter_pipeline2, filter_pipeline_message}

-- where what is read from the first byte on ends
abbrev end : {A : Type 0} → Format A → List ℕ → Out (Unit {0})
end F file = elim (read file F 0) [ found a q ↦ found tt q | refused n ↦ refused n ]

-- a body, and where it ends by the specification and here
pub record Sample : Type 0 where
  pub body : List ℕ
  pub standard : Out (Unit {0})
  pub here : Out (Unit {0})

-- 64: a fill value of version 1, none defined, and a size of 0
abbrev pub undefined_fill : Sample
undefined_fill = record { body = 1 ∷ 2 ∷ 2 ∷ 0 ∷ 0 ∷ 0 ∷ 0 ∷ 0 ∷ []; standard = found tt 8; here = found tt 4 }

pub undefined_fill_lem : (end fill_value_message undefined_fill.body ≡ undefined_fill.standard) × (end fill undefined_fill.body ≡ undefined_fill.here)
unfolding read bind le raw by_version marked size_and_fill_value_lem fill_fields12 fill_value12 fill_value3 fill_value_message fill_value fill12 fill3 fill
undefined_fill_lem = (refl, refl)

-- version 1, one filter with a name of so many bytes by its length, without values
abbrev pipeline1 : ℕ → ℕ → List ℕ
pipeline1 low high = (1 ∷ 1 ∷ 0 ∷ 0 ∷ 0 ∷ 0 ∷ 0 ∷ 0 ∷ []) ++ (1 ∷ 0 ∷ low ∷ high ∷ 0 ∷ 0 ∷ 0 ∷ 0 ∷ [])

abbrev pub pipelines : List Sample
pipelines =
    -- 72: version 2, an identification of 256, and a name `n`
    record { body = 2 ∷ 1 ∷ 0 ∷ 1 ∷ 1 ∷ 0 ∷ 0 ∷ 0 ∷ 0 ∷ 0 ∷ 0x6E ∷ []; standard = found tt 11; here = found tt 8 }
    -- 73: a name length of 1
    ∷ record { body = pipeline1 1 0 ++ (0x6E ∷ replicate 7 0); standard = found tt 17; here = found tt 24 }
    -- 74: a name length of 65,535
    ∷ record { body = pipeline1 255 255; standard = refused 3; here = found tt 16 }
    ∷ []

-- what a format ends as in each, and what is said of each
abbrev pub each : {A : Type 0} → (Sample → A) → List Sample → List A
each f [] = []
each f (x ∷ xs) = f x ∷ each f xs

pub pipelines_end : (each (λ x. end filter_pipeline_message x.body) pipelines ≡ each (λ x. x.standard) pipelines) × (each (λ x. end filter_pipeline x.body) pipelines ≡ each (λ x. x.here) pipelines)
unfolding read bind times le raw optional many by_version marked filter_fields1 filter_description1 pipeline_fields1 filter_pipeline1 filter_fields2 filter_description2 pipeline_fields2 filter_pipeline2 filter_pipeline_message filter1 filter2 filter_of reserved filter_pipeline
pipelines_end = (refl, refl)
