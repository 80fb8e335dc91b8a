-- What stands in formats that are put together, and what reading says of an end. Assumes nothing.
use Rattle.std.specs.Prelude.{ℕ, ◌≤◌, ◌≡◌, refl, Bool, true, false, List}
use Rattle.std.proofs.Common.{sym, ◌∙◌}
use Rattle.format.specs.Format.{Format, Stands, Out, found, refused, read, bind, check}
use Rattle.format.specs.Laws.{never, sound, complete}
use Rattle.format.specs.Covers as covers
use Rattle.format.specs.Steps.{after, read_bind}

module _ (s : List ℕ) where
  -- of two formats one after the other each stands
  pub stands_bind : {A B : Type 0} (F : Format A) (k : A → Format B) (p q : ℕ) (b : B) → Stands s (bind F k) p q b
      → (m : ℕ) × (a : A) × Stands s F p m a × Stands s (k a) m q b
  stands_bind {A} F k p q b h = go (read s F p) refl (sym (read_bind s F k p) ∙ complete s (bind F k) p q b h)
    where
      go : (r : Out A) → read s F p ≡ r → after s k r ≡ found b q → (m : ℕ) × (a : A) × Stands s F p m a × Stands s (k a) m q b
      go (found a m) e d = (m, a, sound s F p m a e, sound s (k a) m q b d)
      go (refused n) e d = never d

  -- and the other way round
  pub bind_stands : {A B : Type 0} (F : Format A) (k : A → Format B) (p m q : ℕ) (a : A) (b : B) → Stands s F p m a → Stands s (k a) m q b → Stands s (bind F k) p q b
  bind_stands F k p m q a b h i = sound s (bind F k) p q b (rw (read_bind, complete s F p m a h) (complete s (k a) m q b i))

  -- what stands after a test has passed it
  pub stands_check : {A : Type 0} (t : Bool) (n : ℕ) (F : Format A) (p q : ℕ) (a : A) → Stands s (check t n F) p q a → (t ≡ true) × Stands s F p q a
  stands_check true n F p q a h = (refl, h)
  stands_check false n F p q a h = absurd h

  -- what is read ends no earlier than it starts
  pub read_forward : {A : Type 0} (F : Format A) (p q : ℕ) (a : A) → read s F p ≡ found a q → p ≤ q
  read_forward F p q a e = covers.forward s F p q a (sound s F p q a e)
