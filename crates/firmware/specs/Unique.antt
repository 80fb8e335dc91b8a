-- At most one answer to a lookup, one to a set of names, one to a check and one for a part meets its contract, so that every word of it is decided by the input. Assumes nothing.
use Rattle.std.specs.Prelude.{ℕ, ◌≡◌, List}
use Rattle.std.proofs.Common.{sym, ap, ◌∙◌}
use Rattle.records.specs.declared.Part.{Part}
use Rattle.lookup.specs.Unique.{looked_unique}
use Rattle.lookup_names.specs.Unique.{looked_names_unique}
use Rattle.data_object_check.specs.Checked.{Checked}
use Rattle.data_object_check.specs.CheckedLaws.{checked_unique}
use Rattle.data_object_root.specs.Root.{CheckedRoot}
use Rattle.data_object_root.specs.Laws.{checked_root_unique}
use Rattle.firmware.specs.declared.LookupWords.{LookupWords}
use Rattle.firmware.specs.declared.CheckWords.{CheckWords}
use Rattle.firmware.specs.declared.PartWords.{PartWords}
use Rattle.firmware.specs.Words.{lookup_of, names_of, check_of}
use Rattle.firmware.specs.Handed.{HandedRow, HandedNames, HandedPart, HandedCheck}

pub handed_row_unique : (file table : List ℕ) (rows : ℕ) (name : List ℕ) (r s : LookupWords) → HandedRow file table rows name r → HandedRow file table rows name s → r ≡ s
handed_row_unique file table rows name r s h g = h.words ∙ ap lookup_of (looked_unique file table rows name h.answer g.answer h.looked g.looked) ∙ sym g.words

pub handed_names_unique : (file table : List ℕ) (rows : ℕ) (text names : List ℕ) (lent : ℕ) (a b : List ℕ) (r s : ℕ) → HandedNames file table rows text names lent a r
    → HandedNames file table rows text names lent b s → (a ≡ b) × (r ≡ s)
handed_names_unique file table rows text names lent a b r s h g =
    let one = looked_names_unique file table rows text names lent a b h.answer g.answer h.looked g.looked in
    (one.0, h.word ∙ ap names_of one.1 ∙ sym g.word)

pub handed_part_unique : (file : List ℕ) (p : Part) (r s : PartWords) → HandedPart file p r → HandedPart file p s → r ≡ s
handed_part_unique file p r s h g = h.itself ∙ sym g.itself

pub handed_check_unique : (file : List ℕ) (offsets lengths end at : ℕ) (r s : CheckWords) → HandedCheck (Checked file offsets lengths end at) r → HandedCheck (Checked file offsets lengths end at) s → r ≡ s
handed_check_unique file offsets lengths end at r s h g = h.words ∙ ap check_of (checked_unique file offsets lengths end at h.answer g.answer h.checked g.checked) ∙ sym g.words

pub handed_root_check_unique : (file : List ℕ) (r s : CheckWords) → HandedCheck (CheckedRoot file) r → HandedCheck (CheckedRoot file) s → r ≡ s
handed_root_check_unique file r s h g = h.words ∙ ap check_of (checked_root_unique file h.answer g.answer h.checked g.checked) ∙ sym g.words
