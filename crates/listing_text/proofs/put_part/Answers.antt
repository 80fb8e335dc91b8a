-- The two figures, or two hyphens, are written one after another.
use Rattle.std.proofs.Common.{◌≡◌, rules}
use Rattle.std.specs.Prelude.{option_map}
use Rattle.records.specs.declared.Part.{Part}
use Rattle.listing_text.specs.Listing.{place_of}
use Rattle.text.proofs.Laws.{then}
use Rattle.listing_text.proofs.put_part.Goals as goal

pub returns-clause-wrote : goal.returns-clause-wrote
unfolding place_of
returns-clause-wrote c =
    let p : c.map.result ≡ option_map (λ (p : Part). p.position) c.args.part = search rules in
    let l : c.map-2.result ≡ option_map (λ (p : Part). p.length) c.args.part = search rules in
    rw (← p, ← l) (then c.put_field-at.ensures.wrote c.put_field.ensures.wrote)
