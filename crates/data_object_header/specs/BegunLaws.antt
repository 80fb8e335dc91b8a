-- Decoding stops exactly where a header's reading does, with as many entries begun; no header has two such counts. Assumes nothing.
use Rattle.std.specs.Prelude.{ℕ, ◌+◌, ◌≤◌, refl, Bool, ◌&&◌, ◌⊎◌, leb}
use Rattle.std.proofs.Math.Path.{◌≡◌, sym}
use Rattle.std.proofs.Common.{◌∙◌, inl, inr, arith, leb-true, leb-false, le-leb}
use Rattle.std.proofs.Math.Bool.{true, false}
use Rattle.std.proofs.Math.Logic.{⊎_elim}
use mathlib.Core.List.{List}
use Rattle.std.proofs.Math.ListN.{length}
use Rattle.std.proofs.lemmas.Bool.{lt-leb}
use Rattle.format.specs.Format.{read}
use Rattle.format.specs.Laws as formats
use Rattle.parser.specs.declared.State.{State}
use Rattle.parser.specs.States.{file_limit, Widths, width_allowed, state_for}
use Rattle.parser.specs.StateLaws.{allowed, widths_of}
use Rattle.grammar.specs.Grammar.{Item}
use Rattle.grammar.specs.Walk.{Went, stopped, begun, Limits, start, walk, Fit}
use Rattle.grammar.specs.WalkLaws.{choose_yes, choose_no, chose, was_found, found_then, refused_then}
use Rattle.grammar.specs.Begun.{Cause, elsewhere, more, Numbered, Stopped}
use Rattle.grammar.proofs.BegunSound.{Halted, there, later, halted, was_refused, stops_at_once, stops_as, walk_stopped}
use Rattle.grammar.proofs.BegunComplete.{nowhere_read, as_many, same_stopped, stopped_walk}
use Rattle.ohdr_walk.specs.Sources.{source}
use Rattle.data_object_header.specs.Headers.{header_fields, header, decode}
use Rattle.data_object_header.specs.Begun.{HeaderStops, no_fields, in_reading, DecodeStops, bad_width, too_large, in_header}

module _ (file : List ℕ) (s : State) (l : Limits) (at : ℕ) where
  -- where the definition stops, the header's reading stops
  pub header_stopped : (r n : ℕ) → header file s l at ≡ stopped r n → Stopped l start (HeaderStops file s l at) r n
  unfolding header
  header_stopped r n f = go (halted (begun 0 (read file header_fields at)) _ f)
    where
      go : Halted (begun 0 (read file header_fields at)) (λ f from. walk (source file s f.flags) l at (from + f.size) from) r n → Stopped l start (HeaderStops file s l at) r n
      go (there v) =
          let z = was_refused _ (read file header_fields at) v in
          stops_at_once l elsewhere (no_fields (formats.none file header_fields at r z.0)) tt (omega (arith, z.1)) (omega (arith, z.1))
      go (later x from v j) =
          stops_as l (λ xs c h. in_reading x from (formats.sound file header_fields at from x (was_found _ _ v)) h)
          (walk_stopped (source file s x.flags) l at (from + x.size) from r n j)

  -- and the other way round
  pub stopped_header : (r n : ℕ) (h : Stopped l start (HeaderStops file s l at) r n) → (r' : ℕ) × Numbered l h.cause r' × (header file s l at ≡ stopped r' n)
  unfolding header
  stopped_header r n h = go h.stops h.number h.begun h.few h.fit
    where
      go : {xs : List Item} {c : Cause} → HeaderStops file s l at xs c → Numbered l c r → n ≡ 0 + length xs + more c → n ≤ l.entries → Fit l start xs
          → (r' : ℕ) × Numbered l c r' × (header file s l at ≡ stopped r' n)
      go (no_fields z) a b d f = let v = nowhere_read file header_fields at z in (v.0, tt, as_many (omega (arith, b)) (refused_then _ _ v.1))
      go (in_reading {xs = xs} {c = c} x from g z) a b d f =
          let v = stopped_walk (source file s x.flags) l at (from + x.size) from r n (record { items = xs; cause = c; stops = z; number = a; begun = b; few = d; fit = f }) in
          (v.0, v.1, found_then _ _ (formats.complete file header_fields at from x g) ∙ v.2)

module _ (file : List ℕ) (offsets lengths end at : ℕ) (l : Limits) where
  pub decode_stopped : (r n : ℕ) → decode file offsets lengths end at l ≡ stopped r n → DecodeStops file offsets lengths end at l r n
  unfolding decode
  decode_stopped r n f = ⊎_elim
      (λ w. sized (widths_of offsets lengths end w.0) (chose (leb (length file) file_limit) _ _ w.1))
      (λ w.
      let k : 1 ≡ r = cc w.1 in
      let z : 0 ≡ n = cc w.1 in
      bad_width (λ x. other w.0 (allowed offsets lengths end x)) (sym k) (sym z))
      (chose (width_allowed offsets && width_allowed lengths) _ _ f)
    where
      other : {b : Bool} → b ≡ false → b ≡ true → ⊥
      other e d = let z : false ≡ true = sym e ∙ d in let y : ◌≡◌ {A = ℕ} 0 1 = cc in absurd (omega arith)

      sized : Widths (state_for offsets lengths end)
          → ((leb (length file) file_limit ≡ true) × (header file (state_for offsets lengths end) l at ≡ stopped r n)) ⊎ ((leb (length file) file_limit ≡ false) × (◌≡◌ {A = Went (List Item)} (stopped 2 0) (stopped r n)))
          → DecodeStops file offsets lengths end at l r n
      sized a (inl w) = in_header a (leb-true _ _ w.0) (header_stopped file (state_for offsets lengths end) l at r n w.1)
      sized a (inr w) =
          let k : 2 ≡ r = cc w.1 in
          let z : 0 ≡ n = cc w.1 in
          too_large a (leb-false _ _ w.0) (sym k) (sym z)

  pub stopped_decode : (r n : ℕ) → DecodeStops file offsets lengths end at l r n → (r' : ℕ) × (decode file offsets lengths end at l ≡ stopped r' n)
  unfolding decode
  stopped_decode r n (bad_width h _ e) = (1, as_many (sym e) (choose_no _ _ (refused_width (width_allowed offsets && width_allowed lengths) refl)))
    where
      refused_width : (b : Bool) → width_allowed offsets && width_allowed lengths ≡ b → width_allowed offsets && width_allowed lengths ≡ false
      refused_width true e = absurd (h (widths_of offsets lengths end e))
      refused_width false e = e
  stopped_decode r n (too_large w h _ e) = (2, as_many (sym e) (choose_yes _ _ (allowed offsets lengths end w) ∙ choose_no _ _ (lt-leb _ _ h)))
  stopped_decode r n (in_header w h z) =
      let v = stopped_header file (state_for offsets lengths end) l at r n z in
      (v.0, choose_yes _ _ (allowed offsets lengths end w) ∙ choose_yes _ _ (le-leb _ _ h) ∙ v.2)

  -- no header has two counts of entries begun
  pub decode_begun_unique : (r r' n n' : ℕ) → DecodeStops file offsets lengths end at l r n → DecodeStops file offsets lengths end at l r' n' → n ≡ n'
  decode_begun_unique r r' n n' h h' = same_stopped (stopped_decode r n h).1 (stopped_decode r' n' h').1
