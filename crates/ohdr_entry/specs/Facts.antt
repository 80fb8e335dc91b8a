-- What the proofs of the readers cite. Assumes nothing.
use Rattle.std.specs.Prelude.{ℕ, ◌+◌, ◌-◌, ◌≤◌, ◌<◌, ◌≡◌, Bool, true, false, List, eqb, ltb, leb, None}
use Rattle.std.proofs.Math.Path.{refl}
use Rattle.std.proofs.Common.{sym, ◌∙◌, arith, ltb-true, le-leb}
use Rattle.std.proofs.lemmas.Bool.{lt-leb}
use Rattle.format.specs.Bools.{and_right}
use Rattle.parser.specs.States.{address_valid}
use Rattle.format.specs.Format.{Format, done, skip, here, Out, found, refused, read, bind, pick, nothing}
use Rattle.format.specs.Laws.{never}
use Rattle.format.specs.Standing.{read_forward}
use Rattle.format.specs.Steps.{after, read_bind, read_done, read_here, read_skip}
use Rattle.records.specs.declared.Value.TheVariants as values
use Rattle.grammar.specs.Message.{Kept, Held, name_of, value_of, part_of}
use Rattle.grammar.specs.Message as messages
use Rattle.parser.specs.declared.State.{State}
use Rattle.ohdr_info.specs.Info.{link_info, group_info, attribute_info}
use Rattle.ohdr_storage.specs.Storage.{fill_old, fill, filter_pipeline}
use Rattle.ohdr_datatype.specs.DataTypes.{data_type, type_levels}
use Rattle.ohdr_dataspace.specs.DataSpaces.{data_space}
use Rattle.ohdr_entry.specs.declared.Prefix.{Prefix}
use Rattle.ohdr_entry.specs.declared.Figures.{Figures}
use Rattle.ohdr_entry.specs.Entries.{plain_body, body, message_held, closed}
use Rattle.ohdr_entry.specs.Answers.{position_of, figures_of, Seen, row, seen_in, seen}

-- an address that was tested leaves room before the end of the file
pub before_end : {t : Bool} (s : State) (address : ℕ) → t ≡ address_valid s address → t ≡ true → address ≤ s.end_of_file_address
before_end s a e f =
    let h : a < s.end_of_file_address = ltb-true a s.end_of_file_address (and_right (ltb 0 a) (ltb a s.end_of_file_address) (sym e ∙ f)) in
    omega arith

-- whether a block ends in the file, tested by the room that its offset leaves
pub ends_past : (end offset length : ℕ) → end - offset < length → leb (offset + length) end ≡ false
ends_past e o l h = lt-leb (o + l) e (omega arith)

pub ends_inside : (end offset length : ℕ) → 8 ≤ length → length ≤ end - offset → leb (offset + length) end ≡ true
ends_inside e o l f h = le-leb (o + l) e (omega arith)

-- the rest of an entry's size after its fields, by the test of the code
module _ (b size used : ℕ) where
  pub rest_none : b ≤ used → size ≤ used - b → b + size - used ≡ 0
  rest_none h k = omega arith

  pub rest_some : b ≤ used → used - b < size → b + size - used ≡ size - (used - b)
  rest_some h k = omega arith

-- a position alone is all that a reading with no value has
pub position_self : (r : Out (Unit {0})) → position_of r ≡ r
position_self (found u q) = refl
position_self (refused n) = refl

-- figures with no name, part or number
abbrev pub bare : Out (Unit {0}) → Out Figures
bare (found u q) = found (record { name = None; part = None; number_case = 0; number_bits = 0 }) q
bare (refused n) = refused n

-- the row of a message with this prefix, its body at b
abbrev pub shown : Prefix → ℕ → Out Figures → Out Seen
shown x b (found f q) = found (row (record { kind = x.kind; flags = x.flags; size = x.size; body = b; name = f.name; part = f.part; number_case = f.number_case; number_bits = f.number_bits })) q
shown x b (refused n) = refused n

-- a value, where another was found
abbrev pub instead : {A B : Type 0} → B → Out A → Out B
instead b (found a q) = found b q
instead b (refused n) = refused n

-- an entry that ends at n, or where its fields end
abbrev pub ended : List ℕ → ℕ → Out Seen → Out Seen
ended s n (found v c) = instead v (read s (skip (n - c) nothing) c)
ended s n (refused m) = refused m

module _ (s : List ℕ) where
  -- what is kept of a body does not move its end
  pub position_kept : {A : Type 0} (F : Format A) (con : A → Kept) (p : ℕ) → position_of (read s (bind F (λ a. done (con a))) p) ≡ position_of (read s F p)
  position_kept {A} F con p = rw (read_bind s F (λ a. done (con a)) p) (go (read s F p))
    where
      go : (r : Out A) → position_of (after s (λ a. done (con a)) r) ≡ position_of r
      go (found a q) = rw (read_done s (con a) q)
      go (refused n) = refl

  -- a body with no name, part or value: its figures are known from its end
  abbrev Bare : Format Kept → Type 0
  Bare F = (p : ℕ) → figures_of (read s F p) ≡ bare (position_of (read s F p))

  bare_done : (k : Kept) → name_of k ≡ None → part_of k ≡ None → value_of k ≡ values.None → Bare (done k)
  bare_done k e d v p = rw (read_done s k p, e, d, v)

  bare_bind : {A : Type 0} (F : Format A) (con : A → Kept) → ((a : A) → Bare (done (con a))) → Bare (bind F (λ a. done (con a)))
  bare_bind {A} F con h p = rw (read_bind s F (λ a. done (con a)) p) (go (read s F p))
    where
      go : (r : Out A) → figures_of (after s (λ a. done (con a)) r) ≡ bare (position_of (after s (λ a. done (con a)) r))
      go (found a q) = h a q
      go (refused n) = refl

  bare_pick : (t : Bool) (F G : Format Kept) → Bare F → Bare G → Bare (pick t F G)
  bare_pick true F G f g = f
  bare_pick false F G f g = g

  pub plain_figures : (st : State) (k p : ℕ) → figures_of (read s (plain_body st k) p) ≡ bare (position_of (read s (plain_body st k) p))
  unfolding plain_body
  plain_figures st k =
      bare_pick (eqb k 1) _ _ (bare_bind (data_space st) messages.data_space (λ d. bare_done (messages.data_space d) refl refl refl)) (
      bare_pick (eqb k 2) _ _ (bare_bind (link_info st) messages.link_info (λ l. bare_done (messages.link_info l) refl refl refl)) (
      bare_pick (eqb k 3) _ _ (bare_bind (data_type type_levels) messages.data_type (λ t. bare_done (messages.data_type t) refl refl refl)) (
      bare_pick (eqb k 4) _ _ (bare_bind fill_old (λ _. messages.nothing) (λ _. none)) (
      bare_pick (eqb k 5) _ _ (bare_bind fill (λ _. messages.nothing) (λ _. none)) (
      bare_pick (eqb k 10) _ _ (bare_bind group_info messages.group_info (λ g. bare_done (messages.group_info g) refl refl refl)) (
      bare_pick (eqb k 11) _ _ (bare_bind filter_pipeline (λ _. messages.nothing) (λ _. none)) (
      bare_pick (eqb k 21) _ _ (bare_bind (attribute_info st) messages.attribute_info (λ a. bare_done (messages.attribute_info a) refl refl refl)) none)))))))
    where
      none : Bare (done messages.nothing)
      none = bare_done messages.nothing refl refl refl

  -- a body whose figures were found ends no earlier than it starts
  pub body_forward : (st : State) (k p q : ℕ) (f : Figures) → figures_of (read s (body st k) p) ≡ found f q → p ≤ q
  body_forward st k p q f = go (read s (body st k) p) refl
    where
      go : (r : Out Kept) → read s (body st k) p ≡ r → figures_of r ≡ found f q → p ≤ q
      go (found a m) e d = let i : m ≡ q = cc in rw (← i) (read_forward s (body st k) p m a e)
      go (refused n) e d = never d

  -- a message by the figures of its body
  pub seen_message : (st : State) (x : Prefix) (b p : ℕ) → seen (read s (message_held st x b) p) ≡ shown x b (figures_of (read s (body st x.kind) p))
  unfolding message_held
  seen_message st x b p = rw (read_bind s (body st x.kind) _ p) (go (read s (body st x.kind) p))
    where
      held : Kept → Held
      held k = messages.message (record { type = x.kind; flags = x.flags; size = x.size; body = b; kept = k })

      go : (r : Out Kept) → seen (after s (λ k. done (held k)) r) ≡ shown x b (figures_of r)
      go (found k q) = rw (read_done s (held k) q)
      go (refused n) = refl

  -- an entry by what it holds and where it ends
  pub seen_closed : (F : State → Prefix → ℕ → Format Held) (st : State) (x : Prefix) (b p : ℕ)
      → seen (read s (closed F st x b) p) ≡ ended s (b + x.size) (seen (read s (F st x b) p))
  unfolding closed
  seen_closed F st x b p = rw (read_bind s (F st x b) _ p) (go (read s (F st x b) p))
    where
      stop : (h : Held) (r : Out (Unit {0})) → seen (after s (λ _. done h) r) ≡ instead (seen_in h) r
      stop h (found u q) = rw (read_done s h q)
      stop h (refused n) = refl

      rest : Held → ℕ → Format Held
      rest h c = skip (b + x.size - c) (done h)

      go : (r : Out Held) → seen (after s (λ h. here (rest h)) r) ≡ ended s (b + x.size) (seen r)
      go (found h c) = rw (read_here s (rest h) c, read_skip s (b + x.size - c) (done h) c) (stop h (read s (skip (b + x.size - c) nothing) c))
      go (refused n) = refl
