-- Decoding accepts exactly the headers that have a reading within the limits, and gives that reading; no header has two: its fields stand in one
-- way, and so does what follows them. Assumes nothing.
use Rattle.std.specs.Prelude.{ℕ, ◌+◌, ◌%◌, ◌^◌, ◌≤◌, ◌<◌, ◌≡◌, not, ◌↔◌, List, length, eqb, leb, Result, Ok, Err}
use Rattle.std.proofs.Common.{sym, ◌∙◌, subst₂, arith, le-leb, leb-true}
use Rattle.std.proofs.Math.Path.{ap}
use Rattle.std.proofs.lemmas.Bool.{lt-leb}
use Rattle.format.specs.Bits.{bit}
use Rattle.format.specs.Bytes.{le}
use Rattle.format.specs.Format.{Format, done, number, skip, check, pick, Stands, read}
use Rattle.format.specs.Laws as formats
use Rattle.format.specs.Covers.{forward, inside}
use Rattle.format.specs.Standing.{stands_bind, stands_check}
use Rattle.records.specs.Refusals.{refusal_number}
use Rattle.records.specs.declared.Refusal.{Refusal}
use Rattle.helpers.specs.Answers.{out}
use Rattle.helpers.specs.Facts.{met}
use Rattle.parser.specs.declared.State.{State}
use Rattle.parser.specs.States.{file_limit, Widths, state_for, state_of}
use Rattle.parser.specs.StateLaws.{made, unmade, allowed}
use Rattle.grammar.specs.Grammar.{Item, Reading}
use Rattle.grammar.specs.Walk.{reached, stopped, begun, Limits, start, walk, Fit}
use Rattle.grammar.specs.WalkLaws.{first, was_found, found_then, refused_then, choose_yes, choose_no}
use Rattle.grammar.specs.Theorems.{sound, complete}
use Rattle.grammar.specs.Unique.{unique}
use Rattle.ohdr_walk.specs.Sources.{source}
use Rattle.data_object_header.specs.declared.HeaderFields.{HeaderFields}
use Rattle.data_object_header.specs.Headers.{ohdr, header_fields, HeaderReading, header, decode}

module _ (file : List ℕ) (s : State) where
  header_sound : (l : Limits) (at next : ℕ) (xs : List Item) → header file s l at ≡ reached xs next → HeaderReading file s at next xs × Fit l start xs
  unfolding header
  header_sound l at next xs f =
      let v = first (begun 0 (read file header_fields at)) _ f in
      let r = sound (source file s v.value.flags) l at v.next (v.next + v.value.size) next xs v.then in
      (record { fields = v.value; start = v.next; head = formats.sound file header_fields at v.next v.value (was_found _ _ v.first); rest = r.0 }, r.1)

  header_complete : (l : Limits) (at next : ℕ) (xs : List Item) → HeaderReading file s at next xs × Fit l start xs → header file s l at ≡ reached xs next
  unfolding header
  header_complete l at next xs w =
      let r = w.0 in
      found_then _ _ (formats.complete file header_fields at r.start r.fields r.head)
      ∙ complete (source file s r.fields.flags) l at r.start (r.start + r.fields.size) next xs (r.rest, w.1)

  pub header_accepts : (l : Limits) (at next : ℕ) (xs : List Item) → (header file s l at ≡ reached xs next) ↔ (HeaderReading file s at next xs × Fit l start xs)
  header_accepts l at next xs = (header_sound l at next xs, header_complete l at next xs)

  -- no header has two readings
  pub header_unique : (at next next' : ℕ) (xs xs' : List Item) → HeaderReading file s at next xs → HeaderReading file s at next' xs' → (next ≡ next') × (xs ≡ xs')
  header_unique at next next' xs xs' a b =
      let u = formats.unique file header_fields at a.start b.start a.fields b.fields a.head b.head in
      unique (source file s a.fields.flags) at a.start (a.start + a.fields.size) next next' xs xs' a.rest
      (subst₂ (λ (y : ℕ) (f : HeaderFields). Reading (source file s f.flags) at y (y + f.size) next' xs') (sym u.0) (sym u.1) b.rest)

-- what follows the version, and the flags
abbrev sized : ℕ → Format HeaderFields
sized flags =
    skip (pick (bit flags 5) 16 0) (number (2 ^ (flags % 4)) (λ size. check (leb size 16777216) 7 (done {A = HeaderFields} (record { flags = flags; size = size }))))

abbrev flagged : Format HeaderFields
flagged = number 1 (λ flags. check (not (bit flags 4)) 6 (sized flags))

-- a header's fields as the code reads them, and then its messages
module _ (file : List ℕ) (s : State) (l : Limits) (at : ℕ) {r : Result (HeaderFields × ℕ) Refusal} (f : out r ≡ read file header_fields at) where
  pub unread : {x : Refusal} → r ≡ Err x → header file s l at ≡ stopped (refusal_number x) 0
  unfolding header
  unread {x} e = refused_then _ _ (met out f e)

  module _ {v : HeaderFields} {from : ℕ} (e : r ≡ Ok (v, from)) where
    pub walked : header file s l at ≡ walk (source file s v.flags) l at (from + v.size) from
    unfolding header
    walked = found_then _ _ (met out f e)

    stands : Stands file header_fields at from v
    stands = formats.sound file header_fields at from v (met out f e)

    pub starts_inside : from ≤ length file
    unfolding header_fields ohdr
    starts_inside = inside file header_fields at from v stands (omega (arith, (stands_bind file ohdr _ at from v stands).2.0))

    pub starts_after : at ≤ from
    starts_after = forward file header_fields at from v stands

    pub size_small : v.size ≤ 16777216
    unfolding header_fields
    size_small =
        let a = stands_bind file ohdr _ at from v stands in
        let version = le file a.0 1 in
        let b = stands_check file (eqb version 2) 5 flagged (a.0 + 1) from v a.3.1 in
        let flags = le file (a.0 + 1) 1 in
        let c = stands_check file (not (bit flags 4)) 6 (sized flags) (a.0 + 1 + 1) from v b.1.1 in
        let p = a.0 + 1 + 1 + pick (bit flags 5) 16 0 in
        let size = le file p (2 ^ (flags % 4)) in
        let d = stands_check file (leb size 16777216) 7 (done {A = HeaderFields} (record { flags = flags; size = size })) (p + 2 ^ (flags % 4)) from v c.1.1.1 in
        rw (← ap (λ (x : HeaderFields). x.size) d.1.1) (leb-true size 16777216 d.0)

module _ (offsets lengths end : ℕ) where
  -- the definition by the tests that come first
  module _ (file : List ℕ) (at : ℕ) (l : Limits) where
    pub no_width : {x : Refusal} → state_of offsets lengths end ≡ Err x → decode file offsets lengths end at l ≡ stopped (refusal_number x) 0
    unfolding decode
    no_width e = let u = unmade offsets lengths end e in choose_no _ _ u.0 ∙ ap (λ (k : ℕ). stopped k 0) (sym u.1)

    pub too_large : {s : State} → state_of offsets lengths end ≡ Ok s → file_limit < length file → decode file offsets lengths end at l ≡ stopped 2 0
    unfolding decode
    too_large e h = choose_yes _ _ (made offsets lengths end e).0 ∙ choose_no _ _ (lt-leb _ _ h)

    pub goes_on : {s : State} → state_of offsets lengths end ≡ Ok s → length file ≤ file_limit → decode file offsets lengths end at l ≡ header file s l at
    unfolding decode
    goes_on e h = choose_yes _ _ (made offsets lengths end e).0 ∙ choose_yes _ _ (le-leb _ _ h) ∙ ap (λ (x : State). header file x l at) (sym (made offsets lengths end e).1)

    -- whatever has a reading within the limits is reached
    pub decode_complete : (next : ℕ) (xs : List Item) → Widths (state_for offsets lengths end) → length file ≤ file_limit
        → HeaderReading file (state_for offsets lengths end) at next xs → Fit l start xs → decode file offsets lengths end at l ≡ reached xs next
    unfolding decode
    decode_complete next xs w h r f =
        choose_yes _ _ (allowed offsets lengths end w) ∙ choose_yes _ _ (le-leb _ _ h) ∙ header_complete file (state_for offsets lengths end) l at next xs (r, f)
