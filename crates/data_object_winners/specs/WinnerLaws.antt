-- The records that are read at the bodies of the last rows are those that win, since a row's body is its message's, and what a message keeps
-- stands in its body. Assumes nothing.
use Rattle.std.specs.Prelude.{ℕ, zero, suc, ◌≡◌, Bool, true, false, ◌⊎◌, List, [], ◌∷◌, ◌++◌, map, length, eqb, Option, Some, None}
use Rattle.std.proofs.Math.Path.{refl}
use Rattle.std.proofs.Common.{sym, ap, ◌∙◌, inr, eqb-true}
use Rattle.std.proofs.Math.Logic.{inl}
use native.Mathlib.Omega.{arith}
use Rattle.std.proofs.lemmas.List.{length-map}
use Rattle.std.proofs.lemmas.Bool.{eqb-false}
use Rattle.format.specs.Format.{Format, done, bind, pick, Stands, found, read}
use Rattle.format.specs.Laws.{complete}
use Rattle.format.specs.Standing.{stands_bind}
use Rattle.records.specs.Defaults.{default_data_space, default_link_info, default_group_info, default_attribute_info, default_data_type, default_data_layout}
use Rattle.parser.specs.declared.State.{State}
use Rattle.grammar.specs.Message.{Kept, Message, row_of}
use Rattle.grammar.specs.Message as messages
use Rattle.grammar.specs.Table.{messages_of}
use Rattle.grammar.specs.Each.{All, reading_each}
use Rattle.grammar.specs.Grammar.{Item}
use Rattle.row.specs.declared.Row.{Row}
use Rattle.row.specs.Rows.{encode, row_at, first_rows}
use Rattle.row.specs.RowLaws.{written_read}
use Rattle.ohdr_walk.specs.Sources.{source}
use Rattle.data_object_header.specs.Headers.{HeaderReading}
use Rattle.ohdr_info.specs.Info.{link_info, group_info, attribute_info}
use Rattle.ohdr_storage.specs.Storage.{fill_old, fill, filter_pipeline}
use Rattle.ohdr_layout.specs.DataLayouts.{data_layout}
use Rattle.ohdr_datatype.specs.DataTypes.{data_type, type_levels}
use Rattle.ohdr_dataspace.specs.DataSpaces.{data_space}
use Rattle.ohdr_attribute.specs.Attributes.{attribute}
use Rattle.ohdr_entry.specs.Entries.{body, plain_body, layout_body, attribute_body}
use Rattle.ohdr_entry.specs.Entered.{Bodied, bodied}
use Rattle.data_object_winners.specs.Wins.{Wins, win, wins_after, wins_of, defaults}
use Rattle.data_object_winners.specs.Winners.{last_in, value_or, winner}

-- where the last row of a type has its body, among rows; before any it is as l says
abbrev last_of : ℕ → Option ℕ → List Row → Option ℕ
last_of type l [] = l
last_of type l (r ∷ rs) = last_of type (pick (eqb r.kind type) (Some r.body) l) rs

last_snoc : (type : ℕ) (l : Option ℕ) (rs : List Row) (r : Row) → last_of type l (rs ++ (r ∷ [])) ≡ pick (eqb r.kind type) (Some r.body) (last_of type l rs)
last_snoc type l [] r = refl
last_snoc type l (q ∷ rs) r = last_snoc type (pick (eqb q.kind type) (Some q.body) l) rs r

table_rows : (type : ℕ) (t : List ℕ) (n : ℕ) → last_in t type n ≡ last_of type None (first_rows t n)
unfolding last_in
table_rows type t zero = refl
table_rows type t (suc n) =
    ap (pick (eqb (row_at t n).kind type) (Some (row_at t n).body)) (table_rows type t n) ∙ sym (last_snoc type None (first_rows t n) (row_at t n))

-- in a table that holds rows, whatever follows them
table_last : (type : ℕ) (rs : List Row) (rest : List ℕ) → last_in (encode rs ++ rest) type (length rs) ≡ last_of type None rs
table_last type rs rest = table_rows type (encode rs ++ rest) (length rs) ∙ ap (last_of type None) (written_read rs rest)

-- the type of the messages of which a record is kept; 0 where none is
abbrev pub type_of : Kept → ℕ
type_of messages.nothing = 0
type_of (messages.data_space d) = 1
type_of (messages.link_info l) = 2
type_of (messages.data_type t) = 3
type_of (messages.data_layout d) = 8
type_of (messages.group_info g) = 10
type_of (messages.attribute a) = 12
type_of (messages.attribute_info a) = 21

module _ (file : List ℕ) (s : State) where
  -- where the test on a type holds, X stands, and else Y
  either : {P : Type 0} (type n p q : ℕ) (k : Kept) (X Y : Format Kept) → Stands file (pick (eqb type n) X Y) p q k → (type ≡ n → Stands file X p q k → P) → (Stands file Y p q k → P) → P
  either {P} type n p q k X Y h f g = go (eqb type n) refl h
    where
      go : (t : Bool) → eqb type n ≡ t → Stands file (pick t X Y) p q k → P
      go true e h = f (eqb-true type n e) h
      go false e h = g h

  -- what a body of a type keeps is a record of that type
  kept_by : {A : Type 0} (F : Format A) (con : A → Kept) (p q : ℕ) (k : Kept) → Stands file (bind F (λ a. done (con a))) p q k → (a : A) × (m : ℕ) × (con a ≡ k) × (read file F p ≡ found a m)
  kept_by F con p q k h = let w = stands_bind file F (λ a. done (con a)) p q k h in (w.1, w.0, w.3.1, complete file F p w.0 w.1 w.2)

  -- a record of its type, or none
  abbrev Typed : ℕ → Kept → Type 0
  Typed type k = (type_of k ≡ 0) ⊎ (type_of k ≡ type)

  keeps_record : {A : Type 0} (F : Format A) (con : A → Kept) (type n p q : ℕ) (k : Kept) → ((a : A) → type_of (con a) ≡ n) → type ≡ n → Stands file (bind F (λ a. done (con a))) p q k → Typed type k
  keeps_record F con type n p q k f e h = let w = kept_by F con p q k h in inr (ap type_of (sym w.2) ∙ f w.0 ∙ sym e)

  keeps_none : {A : Type 0} (F : Format A) (p q : ℕ) (k : Kept) {type : ℕ} → Stands file (bind F (λ _. done messages.nothing)) p q k → Typed type k
  keeps_none F p q k h = let w = kept_by F (λ _. messages.nothing) p q k h in inl (ap type_of (sym w.2))

  plain_typed : (type p q : ℕ) (k : Kept) → Stands file (plain_body s type) p q k → Typed type k
  unfolding plain_body
  plain_typed type p q k h =
      either type 1 p q k _ _ h (keeps_record (data_space s) messages.data_space type 1 p q k (λ a. refl)) (λ h.
      either type 2 p q k _ _ h (keeps_record (link_info s) messages.link_info type 2 p q k (λ a. refl)) (λ h.
      either type 3 p q k _ _ h (keeps_record (data_type type_levels) messages.data_type type 3 p q k (λ a. refl)) (λ h.
      either type 4 p q k _ _ h (λ e. keeps_none fill_old p q k) (λ h.
      either type 5 p q k _ _ h (λ e. keeps_none fill p q k) (λ h.
      either type 10 p q k _ _ h (keeps_record group_info messages.group_info type 10 p q k (λ a. refl)) (λ h.
      either type 11 p q k _ _ h (λ e. keeps_none filter_pipeline p q k) (λ h.
      either type 21 p q k _ _ h (keeps_record (attribute_info s) messages.attribute_info type 21 p q k (λ a. refl)) (λ h.
      inl (ap type_of (sym h.1))))))))))

  -- the record of a body is one of its type, or there is none
  pub typed : (type p q : ℕ) (k : Kept) → Stands file (body s type) p q k → Typed type k
  unfolding body layout_body attribute_body
  typed type p q k h =
      either type 8 p q k _ _ h (keeps_record (data_layout s) messages.data_layout type 8 p q k (λ a. refl)) (λ h.
      either type 12 p q k _ _ h (keeps_record (attribute s) messages.attribute type 12 p q k (λ a. refl)) (λ h.
      plain_typed type p q k h))

  -- One of the records that win: the messages of a type, read by a format, are those that put it in place.
  pub record Won {A : Type 0} (type : ℕ) (F : Format A) (a₀ : A) (f : Wins → A) : Type 0 where
    pub here : (m : Message) → Bodied file s m → m.type ≡ type → (w : Wins) → value_or a₀ (read file F m.body) ≡ f (win m.kept w)
    pub apart : (k : Kept) → (type_of k ≡ type → ⊥) → (w : Wins) → f (win k w) ≡ f w
    pub some : type ≡ 0 → ⊥

  won_after : {A : Type 0} {type : ℕ} {F : Format A} {a₀ : A} {f : Wins → A} → Won type F a₀ f → (ms : List Message) → All (Bodied file s) ms → (l : Option ℕ) (w : Wins)
      → winner file F a₀ l ≡ f w → winner file F a₀ (last_of type l (map row_of ms)) ≡ f (wins_after w ms)
  won_after v [] b l w e = e
  won_after {type = type} {F = F} {a₀ = a₀} {f = f} v (m ∷ ms) b l w e =
      won_after v ms b.1 (pick (eqb m.type type) (Some m.body) l) (win m.kept w) (go (eqb m.type type) refl)
    where
      other : (m.type ≡ type → ⊥) → type_of m.kept ≡ type → ⊥
      other n d = pass (typed m.type m.body b.0.upto m.kept b.0.stands)
        where
          pass : Typed m.type m.kept → ⊥
          pass (inl z) = v.some (sym d ∙ z)
          pass (inr y) = n (sym y ∙ d)

      go : (t : Bool) → eqb m.type type ≡ t → winner file F a₀ (pick t (Some m.body) l) ≡ f (win m.kept w)
      go true d = v.here m b.0 (eqb-true m.type type d) w
      go false d = e ∙ sym (v.apart m.kept (other (eqb-false m.type type d)) w)

  -- what is read at the last body of a type is the record that wins
  pub won : {A : Type 0} {type : ℕ} {F : Format A} {a₀ : A} {f : Wins → A} → Won type F a₀ f → f defaults ≡ a₀ → (ms : List Message) → All (Bodied file s) ms → (rest : List ℕ)
      → winner file F a₀ (last_in (encode (map row_of ms) ++ rest) type (length ms)) ≡ f (wins_of ms)
  won {type = type} {F = F} {a₀ = a₀} v e ms b rest =
      ap (λ (n : ℕ). winner file F a₀ (last_in (encode (map row_of ms) ++ rest) type n)) (sym (length-map ms row_of))
      ∙ ap (winner file F a₀) (table_last type (map row_of ms) rest) ∙ won_after v ms b None defaults (sym e)

  -- each message of a reading keeps what stands in its body
  pub all_bodied : {at next : ℕ} {xs : List Item} → HeaderReading file s at next xs → All (Bodied file s) (messages_of xs)
  all_bodied h = reading_each (source file s h.fields.flags) (Bodied file s) (λ p q m e. bodied file s h.fields.flags p q m e) h.rest

  -- a body that is one record by itself
  by_body : {A : Type 0} (F : Format A) (con : A → Kept) (n : ℕ) (a₀ : A) (f : Wins → A) → body s n ≡ bind F (λ a. done (con a)) → ((a : A) (w : Wins) → f (win (con a) w) ≡ a)
      → (m : Message) → Bodied file s m → m.type ≡ n → (w : Wins) → value_or a₀ (read file F m.body) ≡ f (win m.kept w)
  by_body F con n a₀ f d puts m b e w =
      let h : Stands file (bind F (λ a. done (con a))) m.body b.upto m.kept = rw (sym d, sym e) b.stands in
      let v = kept_by F con m.body b.upto m.kept h in
      ap (value_or a₀) v.3 ∙ sym (puts v.0 w) ∙ ap (λ (k : Kept). f (win k w)) v.2

  -- what a record does not put in place stays
  record Apart (k : Kept) (w : Wins) : Type 0 where
    ds : (type_of k ≡ 1 → ⊥) → (win k w).ds ≡ w.ds
    dt : (type_of k ≡ 3 → ⊥) → (win k w).dt ≡ w.dt
    li : (type_of k ≡ 2 → ⊥) → (win k w).li ≡ w.li
    gi : (type_of k ≡ 10 → ⊥) → (win k w).gi ≡ w.gi
    ai : (type_of k ≡ 21 → ⊥) → (win k w).ai ≡ w.ai
    layout : (type_of k ≡ 8 → ⊥) → (win k w).layout ≡ w.layout

  apart : (k : Kept) (w : Wins) → Apart k w
  apart messages.nothing w = record { ds = λ n. refl; dt = λ n. refl; li = λ n. refl; gi = λ n. refl; ai = λ n. refl; layout = λ n. refl }
  apart (messages.data_space d) w = record { ds = λ n. absurd (n refl); dt = λ n. refl; li = λ n. refl; gi = λ n. refl; ai = λ n. refl; layout = λ n. refl }
  apart (messages.link_info l) w = record { ds = λ n. refl; dt = λ n. refl; li = λ n. absurd (n refl); gi = λ n. refl; ai = λ n. refl; layout = λ n. refl }
  apart (messages.data_type t) w = record { ds = λ n. refl; dt = λ n. absurd (n refl); li = λ n. refl; gi = λ n. refl; ai = λ n. refl; layout = λ n. refl }
  apart (messages.data_layout d) w = record { ds = λ n. refl; dt = λ n. refl; li = λ n. refl; gi = λ n. refl; ai = λ n. refl; layout = λ n. absurd (n refl) }
  apart (messages.group_info g) w = record { ds = λ n. refl; dt = λ n. refl; li = λ n. refl; gi = λ n. absurd (n refl); ai = λ n. refl; layout = λ n. refl }
  apart (messages.attribute a) w = record { ds = λ n. refl; dt = λ n. refl; li = λ n. refl; gi = λ n. refl; ai = λ n. refl; layout = λ n. refl }
  apart (messages.attribute_info a) w = record { ds = λ n. refl; dt = λ n. refl; li = λ n. refl; gi = λ n. refl; ai = λ n. absurd (n refl); layout = λ n. refl }

  pub space_won : Won 1 (data_space s) default_data_space (λ w. w.ds)
  unfolding body plain_body
  space_won = record { here = by_body (data_space s) messages.data_space 1 default_data_space (λ w. w.ds) refl (λ a w. refl); apart = λ k n w. (apart k w).ds n; some = λ e. omega arith }

  pub type_won : Won 3 (data_type type_levels) default_data_type (λ w. w.dt)
  unfolding body plain_body
  type_won = record { here = by_body (data_type type_levels) messages.data_type 3 default_data_type (λ w. w.dt) refl (λ a w. refl); apart = λ k n w. (apart k w).dt n; some = λ e. omega arith }

  pub link_won : Won 2 (link_info s) default_link_info (λ w. w.li)
  unfolding body plain_body
  link_won = record { here = by_body (link_info s) messages.link_info 2 default_link_info (λ w. w.li) refl (λ a w. refl); apart = λ k n w. (apart k w).li n; some = λ e. omega arith }

  pub group_won : Won 10 group_info default_group_info (λ w. w.gi)
  unfolding body plain_body
  group_won = record { here = by_body group_info messages.group_info 10 default_group_info (λ w. w.gi) refl (λ a w. refl); apart = λ k n w. (apart k w).gi n; some = λ e. omega arith }

  pub info_won : Won 21 (attribute_info s) default_attribute_info (λ w. w.ai)
  unfolding body plain_body
  info_won = record { here = by_body (attribute_info s) messages.attribute_info 21 default_attribute_info (λ w. w.ai) refl (λ a w. refl); apart = λ k n w. (apart k w).ai n; some = λ e. omega arith }

  pub layout_won : Won 8 (data_layout s) default_data_layout (λ w. w.layout)
  unfolding body layout_body
  layout_won = record { here = by_body (data_layout s) messages.data_layout 8 default_data_layout (λ w. w.layout) refl (λ a w. refl); apart = λ k n w. (apart k w).layout n; some = λ e. omega arith }
