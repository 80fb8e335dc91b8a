-- The words of the datatype are set one after another, its list size and its format by the calls.
use Rattle.record_words.specs.Facts.{wider}
use Rattle.record_words.proofs.put_data_type.Goals as goal

pub returns : goal.returns
returns c = rw (c.put_format.ensures, c.put_optional.ensures, wider c.args.datatype.list_size c.map.result c.map.ensures.cases)
