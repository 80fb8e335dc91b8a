-- Each call sets the words of its record, and together they set all 65, so none of the old ones stays.
use native.Mathlib.Omega.{arith}
use Rattle.data_object_words.specs.Laws.{put_whole}
use Rattle.data_object_words.proofs.put_words.Goals as goal

pub returns : goal.returns
returns c = rw (c.put_data_layout.ensures, c.put_attribute_info.ensures, c.put_group_info.ensures, c.put_link_info.ensures, c.put_data_type.ensures, c.put_data_space.ensures, c.put_answer.ensures) (put_whole c.args.object c.args.words.now (omega arith))
