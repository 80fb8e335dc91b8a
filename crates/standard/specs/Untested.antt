-- What it means that a rule of the specification on values is not tested: some message that is read breaks it. Assumes nothing: these are
-- definitions.
use Rattle.std.specs.Prelude.{ℕ, ◌≡◌, List}
use Rattle.format.specs.Format.{Format, Out, found, refused, read}

-- where something ends, or that it is refused
abbrev pub ended : {A : Type 0} → Out A → Out (Unit {0})
ended (found a q) = found tt q
ended (refused n) = refused n

-- a message that F reads, and that stands in the specification's format G over the same bytes, with a value of which the rule does not hold
pub record Untested {A B : Type 0} (rule : List ℕ → B → Type 0) (F : Format A) (G : Format B) : Type 0 where
  pub file : List ℕ
  pub end : ℕ
  pub message : B
  pub read_here : ended (read file F 0) ≡ found tt end
  pub standard : read file G 0 ≡ found message end
  pub broken : rule file message → ⊥
