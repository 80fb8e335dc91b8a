-- The records that a header gives are the specification's messages, each the last of its type. Assumes nothing.
use Rattle.std.specs.Prelude.{ℕ, ◌≤◌, ◌≡◌, ◌⊎◌, Bool, true, false, List, [], ◌∷◌, eqb}
use Rattle.std.proofs.Math.Path.{refl}
use Rattle.std.proofs.Common.{sym, ◌∙◌, inl, inr, eqb-true}
use Rattle.std.proofs.lemmas.Bool.{eqb-false}
use Rattle.format.specs.Format.{Format, done, bind, Stands, read}
use Rattle.format.specs.Laws.{complete}
use Rattle.format.specs.Standing.{stands_bind}
use Rattle.records.specs.Defaults.{default_data_space, default_link_info, default_group_info, default_attribute_info, default_data_type, default_data_layout}
use Rattle.parser.specs.declared.State.{State}
use Rattle.grammar.specs.Message.{Kept, Message}
use Rattle.grammar.specs.Message as messages
use Rattle.grammar.specs.Grammar.{Item}
use Rattle.grammar.specs.Table.{messages_of}
use Rattle.grammar.specs.Each.{All}
use Rattle.ohdr_info.specs.Info.{link_info, group_info, attribute_info}
use Rattle.ohdr_layout.specs.DataLayouts.{data_layout}
use Rattle.ohdr_datatype.specs.DataTypes.{data_type, type_levels}
use Rattle.ohdr_dataspace.specs.DataSpaces.{data_space}
use Rattle.ohdr_entry.specs.Entries.{body, plain_body, layout_body}
use Rattle.ohdr_entry.specs.Entered.{Bodied}
use Rattle.data_object_header.specs.Headers.{HeaderReading}
use Rattle.data_object_winners.specs.Wins.{Wins, win, wins_after, wins_of, defaults}
use Rattle.data_object_winners.specs.Winners.{value_or}
use Rattle.data_object_winners.specs.WinnerLaws.{type_of, typed, Won, all_bodied, space_won, type_won, link_won, group_won, info_won, layout_won}
use Rattle.standard_header.specs.Is.{SpaceAt, LinkInfoAt, TypeAt, LayoutAt, GroupInfoAt, AttributeInfoAt}
use Rattle.standard_header.proofs.Bodies.{space_at, link_info_at, type_at, layout_at, group_info_at, attribute_info_at}
use Rattle.standard_header.specs.HeaderIs.{NoneOf, last, before, Given, WinsAre}

module _ (file : List ℕ) (s : State) where
  -- a record of a message that stands
  value_is : {A : Type 0} (F : Format A) (con : A → Kept) (n : ℕ) (X : ℕ → ℕ → A → Type 0) (a₀ : A) → body s n ≡ bind F (λ a. done (con a)) → ((p q : ℕ) (a : A) → Stands file F p q a → X p q a)
      → (m : Message) → Bodied file s m → m.type ≡ n → (q : ℕ) × X m.body q (value_or a₀ (read file F m.body))
  value_is F con n X a₀ d t m b e =
      let h : Stands file (bind F (λ a. done (con a))) m.body b.upto m.kept = rw (sym d, sym e) b.stands in
      let w = stands_bind file F (λ a. done (con a)) m.body b.upto m.kept h in
      (w.0, rw (complete file F m.body w.0 w.1 w.2) (t m.body w.0 w.1 w.2))

  given_after : {A : Type 0} (n : ℕ) (F : Format A) (con : A → Kept) (X : ℕ → ℕ → A → Type 0) (a₀ : A) (f : Wins → A) → Won file s n F a₀ f → body s n ≡ bind F (λ a. done (con a)) → ((p q : ℕ) (a : A) → Stands file F p q a → X p q a)
      → (ms : List Message) → All (Bodied file s) ms → (w : Wins) → Given n X (f w) (f (wins_after w ms)) ms
  given_after n F con X a₀ f v d t [] b w = inr (tt, refl)
  given_after n F con X a₀ f v d t (m ∷ ms) b w = more (given_after n F con X a₀ f v d t ms b.1 (win m.kept w))
    where
      other : (m.type ≡ n → ⊥) → type_of m.kept ≡ n → ⊥
      other k e = pass (typed file s m.type m.body b.0.upto m.kept b.0.stands)
        where
          pass : (type_of m.kept ≡ 0) ⊎ (type_of m.kept ≡ m.type) → ⊥
          pass (inl z) = v.some (sym e ∙ z)
          pass (inr y) = k (sym y ∙ e)

      by_type : (q : Bool) → eqb m.type n ≡ q → NoneOf n ms → f (wins_after (win m.kept w) ms) ≡ f (win m.kept w) → Given n X (f w) (f (wins_after (win m.kept w) ms)) (m ∷ ms)
      by_type true q none e =
          let i = eqb-true m.type n q in
          let y = value_is F con n X a₀ d t m b.0 i in
          let x : X m.body y.0 (f (win m.kept w)) = rw (v.here m b.0 i w) at y.1 in
          inl (last {m = m} i none y.0 (rw e x))
      by_type false q none e =
          let i = eqb-false m.type n q in
          inr ((i, none), e ∙ v.apart m.kept (other i) w)

      more : Given n X (f (win m.kept w)) (f (wins_after (win m.kept w) ms)) ms → Given n X (f w) (f (wins_after (win m.kept w) ms)) (m ∷ ms)
      more (inl l) = inl (before l)
      more (inr z) = by_type (eqb m.type n) refl z.0 z.1

  pub wins_are : (longest : ℕ) → 4095 ≤ longest → (ms : List Message) → All (Bodied file s) ms → WinsAre file s longest ms (wins_of ms)
  unfolding body plain_body layout_body
  wins_are longest enough ms b =
      record {
        dataspace = given_after 1 (data_space s) messages.data_space (SpaceAt file s) default_data_space (λ w. w.ds) (space_won file s) refl (space_at file s) ms b defaults;
        link_info_lem = given_after 2 (link_info s) messages.link_info (LinkInfoAt file s) default_link_info (λ w. w.li) (link_won file s) refl (link_info_at file s) ms b defaults;
        datatype = given_after 3 (data_type type_levels) messages.data_type (TypeAt file longest) default_data_type (λ w. w.dt) (type_won file s) refl (type_at file longest enough) ms b defaults;
        data_layout_lem = given_after 8 (data_layout s) messages.data_layout (LayoutAt file s) default_data_layout (λ w. w.layout) (layout_won file s) refl (layout_at file s) ms b defaults;
        group_info_lem = given_after 10 group_info messages.group_info (GroupInfoAt file) default_group_info (λ w. w.gi) (group_won file s) refl (group_info_at file) ms b defaults;
        attribute_info_lem = given_after 21 (attribute_info s) messages.attribute_info (AttributeInfoAt file s) default_attribute_info (λ w. w.ai) (info_won file s) refl (attribute_info_at file s) ms b defaults;
      }

  pub reading_wins : (longest : ℕ) → 4095 ≤ longest → {at after : ℕ} {xs : List Item} → HeaderReading file s at after xs → WinsAre file s longest (messages_of xs) (wins_of (messages_of xs))
  reading_wins longest enough {xs = xs} h = wins_are longest enough (messages_of xs) (all_bodied file s h)
