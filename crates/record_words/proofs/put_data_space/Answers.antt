-- The words of the dataspace are set one after another, its kind, its sizes and its elements by the calls.
use Rattle.record_words.specs.Facts.{wider}
use Rattle.record_words.proofs.put_data_space.Goals as goal

pub returns : goal.returns
returns c = rw (c.put_elements.ensures, c.put_dimensions-2.ensures, c.put_dimensions.ensures, c.put_optional.ensures, wider c.args.space.kind c.map.result c.map.ensures.cases)
