-- Each record is its type's default.
use Rattle.data_object.specs.DecodedLaws.{wins≡}
use mathlib.Core.Path.{refl}
use Rattle.data_object.proofs.rejected.Goals as goal

pub returns-clause-rejected_as : goal.returns-clause-rejected_as
returns-clause-rejected_as c = record { answer = refl; rows = refl; records = wins≡ c.default-2.ensures.0 c.default.ensures c.default-3.ensures c.default-5.ensures c.default-4.ensures c.default-6.ensures }
