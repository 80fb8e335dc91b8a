-- What it says that a stored answer is given. Assumes nothing: these are definitions.
use Rattle.std.specs.Prelude.{ℕ, ◌*◌, Bool, List}
use Rattle.row.specs.Rows.{row_words}
use Rattle.data_object_words.specs.Handed.{Handed}
use Rattle.test_report.specs.Report.{report_of, numbers_of}
use Rattle.test_replayer.specs.declared.DecodedText.{DecodedText}
use Rattle.test_replayer.specs.declared.DecodedText.TheVariants as decodeds
use Rattle.test_replayer.specs.declared.Lead.{Lead}
use Rattle.test_replayer.specs.Leads.{Compared}

-- text table words: a text of a decoded header. That of what decoding the file into a table of 64 rows yields is what is expected, or not.
pub record Replays (text : List ℕ → List ℕ → List ℕ) (expected file : List ℕ) (l : Lead) (b : Bool) : Type 0 where
  pub table : List ℕ
  pub words : List ℕ
  pub handed : Handed file l.offsets l.lengths l.end_of_file l.position (64 * row_words) table words
  pub says : Compared (text table words) expected b

-- the report, or the numbers of the rows
abbrev pub text_of : DecodedText → List ℕ → List ℕ → List ℕ → List ℕ
text_of decodeds.Report file table words = report_of file table words
text_of decodeds.Numbers file table words = numbers_of table words
