-- A header has at most one reading, since one entry by itself, a signature and a closing each stand in one way. Assumes nothing.
use Rattle.std.specs.Prelude.{ℕ, suc, ◌+◌, ◌-◌, ◌≤◌, ◌<◌, ◌≡◌, refl, List, [], ◌∷◌, ◌++◌}
use Rattle.std.proofs.Common.{sym, ap, ap₂, ◌∙◌, subst, subst₂, arith}
use Rattle.format.specs.Format.{Stands}
use Rattle.format.specs.Laws as formats
use Rattle.grammar.specs.Message.{Message, Held, message, continuation}
use Rattle.grammar.specs.Grammar.{Source, Item, item, ochk, header_end, One, Run, ends, goes, Entry, is_message, is_continuation, Block, is_block, Reading}

module _ (src : Source) where
  abbrev once : (p q q' : ℕ) (x x' : Held) → One src p q x → One src p q' x' → (q ≡ q') × (x ≡ x')
  once p q q' x x' h h' = formats.unique src.file src.entry p q q' x x' h h'

  data RunView (level p e q : ℕ) (xs : List Item) : Type 0 where
    ended : e < p + src.prefix → p ≡ q → [] ≡ xs → RunView level p e q xs
    went : (m : ℕ) (ys zs : List Item) → p + src.prefix ≤ e → Entry src level p m ys → Run src level m e q zs → ys ++ zs ≡ xs → RunView level p e q xs

  data EntryView (level p q : ℕ) (xs : List Item) : Type 0 where
    one : (r : Message) → One src p q (message r) → item p q (message r) ∷ [] ≡ xs → EntryView level p q xs
    more : (o l : ℕ) (ys : List Item) → One src p q (continuation o l) → Block src (suc level) o l ys → item p q (continuation o l) ∷ ys ≡ xs → EntryView level p q xs

  data BlockView (level o l : ℕ) (xs : List Item) : Type 0 where
    held : (start q : ℕ) → Stands src.file ochk o start tt → Run src level start (o + l - 4) q xs → BlockView level o l xs

  run_view : {level p e q : ℕ} {xs : List Item} → Run src level p e q xs → RunView level p e q xs
  run_view (ends h) = ended h refl refl
  run_view (goes h a r) = went _ _ _ h a r refl

  entry_view : {level p q : ℕ} {xs : List Item} → Entry src level p q xs → EntryView level p q xs
  entry_view (is_message h) = one _ h refl
  entry_view (is_continuation h n b) = more _ _ _ h b refl

  block_view : {level o l : ℕ} {xs : List Item} → Block src level o l xs → BlockView level o l xs
  block_view (is_block m h r t) = held _ _ h r

  abbrev RunOnce : ℕ → ℕ → ℕ → ℕ → List Item → Type 0
  RunOnce level p e q xs = (q' : ℕ) (xs' : List Item) → Run src level p e q' xs' → (q ≡ q') × (xs ≡ xs')

  abbrev EntryOnce : ℕ → ℕ → ℕ → List Item → Type 0
  EntryOnce level p q xs = (q' : ℕ) (xs' : List Item) → Entry src level p q' xs' → (q ≡ q') × (xs ≡ xs')

  abbrev BlockOnce : ℕ → ℕ → ℕ → List Item → Type 0
  BlockOnce level o l xs = (xs' : List Item) → Block src level o l xs' → xs ≡ xs'

  ends_once : (level p e q' : ℕ) (xs' : List Item) → e < p + src.prefix → RunView level p e q' xs' → (p ≡ q') × ([] ≡ xs')
  ends_once level p e q' xs' h (ended _ a b) = (a, b)
  ends_once level p e q' xs' h (went m ys zs g a r b) = absurd (omega arith)

  goes_once : (level p e m q : ℕ) (xs ys : List Item) → p + src.prefix ≤ e → EntryOnce level p m xs → RunOnce level m e q ys → (q' : ℕ) (xs' : List Item) → RunView level p e q' xs' → (q ≡ q') × (xs ++ ys ≡ xs')
  goes_once level p e m q xs ys h i j q' xs' (ended g a b) = absurd (omega arith)
  goes_once level p e m q xs ys h i j q' xs' (went m' ys' zs' g a r b) =
      let u = i m' ys' a in
      let v = j q' zs' (subst (λ (x : ℕ). Run src level x e q' zs') (sym u.0) r) in
      (v.0, ap₂ (λ (x y : List Item). x ++ y) u.1 v.1 ∙ b)

  message_once : (level p q : ℕ) (r : Message) → One src p q (message r) → (q' : ℕ) (xs' : List Item) → EntryView level p q' xs' → (q ≡ q') × (item p q (message r) ∷ [] ≡ xs')
  message_once level p q r h q' xs' (one r' h' b) =
      let u = once p q q' _ _ h h' in
      (u.0, ap₂ (λ (x : ℕ) (y : Held). item p x y ∷ []) u.0 u.1 ∙ b)
  message_once level p q r h q' xs' (more o l ys h' k b) =
      let u = once p q q' _ _ h h' in
      let z : ◌≡◌ {A = ℕ} 0 1 = cc u.1 in absurd (omega arith)

  continuation_once : (level p q o l : ℕ) (xs : List Item) → One src p q (continuation o l) → BlockOnce (suc level) o l xs → (q' : ℕ) (xs' : List Item) → EntryView level p q' xs' → (q ≡ q') × (item p q (continuation o l) ∷ xs ≡ xs')
  continuation_once level p q o l xs h i q' xs' (one r' h' b) =
      let u = once p q q' _ _ h h' in
      let z : ◌≡◌ {A = ℕ} 0 1 = cc u.1 in absurd (omega arith)
  continuation_once level p q o l xs h i q' xs' (more o' l' ys h' k b) =
      let u = once p q q' _ _ h h' in
      let eo : o' ≡ o = cc u.1 in
      let el : l' ≡ l = cc u.1 in
      let v = i ys (subst₂ (λ (x y : ℕ). Block src (suc level) x y ys) eo el k) in
      (u.0, ap₂ (λ (x : ℕ) (y : Held). item p x y ∷ xs) u.0 u.1 ∙ ap (λ (y : List Item). item p q' (continuation o' l') ∷ y) v ∙ b)

  block_once : (level o l start q : ℕ) (xs : List Item) → Stands src.file ochk o start tt → RunOnce level start (o + l - 4) q xs → (xs' : List Item) → BlockView level o l xs' → xs ≡ xs'
  block_once level o l start q xs h j xs' (held start' q' h' r) =
      let u = (formats.unique src.file ochk o start start' tt tt h h').0 in
      (j q' xs' (subst (λ (x : ℕ). Run src level x (o + l - 4) q' xs') (sym u) r)).1

  pub run_once : {level p e q : ℕ} {xs : List Item} → Run src level p e q xs → RunOnce level p e q xs
  run_once r = elim r as (λ level p e q xs y. RunOnce level p e q xs) (λ level p q xs y. EntryOnce level p q xs) (λ level o l xs y. BlockOnce level o l xs) [
    | ends {level = level} {p = p} {e = e} h ↦ λ q' xs' r'. ends_once level p e q' xs' h (run_view r')
    | goes {level = level} {p = p} {e = e} {m = m} {q = q} {xs = xs} {ys = ys} h (a → i) (r → j) ↦ λ q' xs' r'. goes_once level p e m q xs ys h i j q' xs' (run_view r')
    | is_message {level = level} {p = p} {q = q} {m = r} h ↦ λ q' xs' r'. message_once level p q r h q' xs' (entry_view r')
    | is_continuation {level = level} {p = p} {q = q} {offset = o} {length = l} {xs = xs} h n (b → i) ↦ λ q' xs' r'. continuation_once level p q o l xs h i q' xs' (entry_view r')
    | is_block {level = level} {offset = o} {size = l} {start = start} {q = q} {xs = xs} m h (r → j) t ↦ λ xs' r'. block_once level o l start q xs h j xs' (block_view r')
  ]

  -- the readings of a header have the same end and the same items
  pub unique : (o p e next next' : ℕ) (xs xs' : List Item) → Reading src o p e next xs → Reading src o p e next' xs' → (next ≡ next') × (xs ≡ xs')
  unique o p e next next' xs xs' r r' =
      let u = run_once r.run r'.last xs' r'.run in
      let c : Stands src.file (header_end src.sum o e r.last) r.last next' tt = subst (λ (x : ℕ). Stands src.file (header_end src.sum o e x) x next' tt) (sym u.0) r'.close in
      ((formats.unique src.file (header_end src.sum o e r.last) r.last next next' tt tt r.close c).0, u.1)
