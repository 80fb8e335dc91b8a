-- The words of the group info are set one after another, the optional ones by the calls.
use Rattle.record_words.specs.Facts.{wider}
use Rattle.record_words.proofs.put_group_info.Goals as goal

pub returns : goal.returns
returns c =
    let i = c.args.info in
    rw (
      c.put_optional-4.ensures,
      wider i.length_of_entries c.map-4.result c.map-4.ensures.cases,
      c.put_optional-3.ensures,
      wider i.number_of_entries c.map-3.result c.map-3.ensures.cases,
      c.put_optional-2.ensures,
      wider i.minimum_dense_value c.map-2.result c.map-2.ensures.cases,
      c.put_optional.ensures,
      wider i.maximum_compact_value c.map.result c.map.ensures.cases,
    )
