-- Checking a file's root and filling a table with it, for every file and table: as of a header at a position (Joint), in the words that are handed
-- over. Assumes nothing: these are definitions.
use Rattle.std.specs.Prelude.{ℕ, ◌/◌, ◌≤◌, ◌≡◌, List, Result, Ok, Err}
use Rattle.format.specs.Format.{Out}
use Rattle.records.specs.declared.Refusal.{Refusal}
use Rattle.row.specs.Rows.{row_words}
use Rattle.super_block.specs.declared.SuperBlock.{SuperBlock}
use Rattle.super_block.specs.SuperBlocks.{super_block_of}
use Rattle.grammar.specs.Walk.{entry_limit}
use Rattle.data_object_check.specs.declared.HeaderFigures.{HeaderFigures}
use Rattle.data_object.specs.declared.DataObject.{DataObject}
use Rattle.data_object_words.specs.Words.{words_of}
use Rattle.data_object_root.specs.Root.{HandedBy}
use Rattle.data_object_theorems.specs.Joint.{Fills, Fails}

-- the words are those of an object of which this holds
pub record WordsWith (P : DataObject → Type 0) (w : List ℕ) : Type 0 where
  pub object : DataObject
  pub words : w ≡ words_of object
  pub holds : P object

-- over a file, and a superblock or why it is refused
module _ (file : List ℕ) (o : Out SuperBlock) where
  -- A file that the check refuses as x. The rows taken by then are one number for every table of n words, which is handed over with the words w: no more
  -- than 4,096.
  pub record RefusesBy (x : Refusal) : Type 0 where
    pub taken : ℕ
    pub few : taken ≤ entry_limit
    pub filled : (n : ℕ) (t w : List ℕ) → HandedBy file n t w o → WordsWith (Fails x taken (n / row_words)) w

  -- by the check's answer
  abbrev pub JointBy : Result HeaderFigures Refusal → Type 0
  JointBy (Ok f) = (n : ℕ) (t w : List ℕ) → HandedBy file n t w o → WordsWith (Fills f (n / row_words)) w
  JointBy (Err x) = RefusesBy x

module _ (file : List ℕ) where
  -- with the file's own superblock, where `HandedBy` is `HandedRoot`
  abbrev pub JointRoot : Result HeaderFigures Refusal → Type 0
  JointRoot = JointBy file (super_block_of file)
