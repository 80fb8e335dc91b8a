-- Each word at its place.
use Rattle.std.proofs.Common.{refl}
use Rattle.record_words.proofs.put_format_fields.Goals as goal

pub returns : goal.returns
returns c = refl
