-- Wherever an attribute that is read stands, the standard's attribute message stands over the same bytes with the same name and value, or a
-- listed difference applies. Assumes nothing.
use Rattle.std.specs.Prelude.{ℕ, ◌+◌, ◌≤◌, ◌≡◌, refl, ◌⊎◌, Bool, true, false, ◌||◌, List, eqb, leb}
use Rattle.std.proofs.Common.{sym, ap, ◌∙◌, inl, inr, arith, eqb-true}
use Rattle.std.proofs.Math.ListN.{length}
use Rattle.format.specs.Bits.{bit}
use Rattle.format.specs.Bytes.{le, Trimmed, to_multiple_of8}
use Rattle.format.specs.Format.{Format, done, number, skip, text, here, Stands, bind, check}
use Rattle.format.specs.Standing.{stands_bind, stands_check, bind_stands}
use Rattle.records.specs.declared.Value.{Value}
use Rattle.records.specs.declared.Part.{Part}
use Rattle.records.specs.declared.Attribute as ours
use Rattle.parser.specs.declared.State.{State}
use Rattle.ohdr_datatype.specs.DataTypes.{type_levels}
use Rattle.ohdr_attribute.specs.declared.AttributeFields.{AttributeFields}
use Rattle.ohdr_attribute.specs.Attributes.{padding, name_and_value, encoding, attribute_fields, attribute}
use Rattle.ohdr_attribute.specs.Without.{With, Without, with_or_without}
use Rattle.standard.specs.Fields.{raw}
use Rattle.standard.specs.Tie.{Stood, Tied, tied_done, tied_number, tied_check}
use Rattle.standard.specs.Versions.{version_stands, marked_stands}
use Rattle.standard.specs.AttributeRules.{NullTerminated}
use Rattle.standard.specs.Attributes.{Sizes1, sizes1, Sizes3, sizes3, Described, described, raw_size, Attribute1, attribute1, Attribute3, attribute3, of_version_1, of_version_3, attribute_message}
use Rattle.standard_attribute.specs.Differences.{ContentsDiffer, no_reading, AttributeDiffers, shared, in_version_1, in_version_3}
use Rattle.standard_attribute.specs.Same.{SameName, SameAttribute, NameStood}
use Rattle.standard_attribute.specs.Same as names
use Rattle.standard_attribute.proofs.Contents.{padded_length, Held, contents_tied}

-- what stands before the name, after the version
abbrev our_fields : ℕ → Format AttributeFields
our_fields version =
    number 1 (λ flags.
    number 2 (λ name_size.
    check (leb name_size 4096) 17 (
    number 2 (λ datatype_size.
    number 2 (λ dataspace_size.
    bind (encoding version) (λ _.
    done {A = AttributeFields} (record { version = version; name_size = name_size })))))))

abbrev their_sizes1 : ℕ → Format Sizes1
their_sizes1 version =
    number 1 (λ reserved.
    number 2 (λ name_size.
    number 2 (λ datatype_size.
    number 2 (λ dataspace_size.
    done {A = Sizes1} (record { version = version; reserved = reserved; name_size = name_size; datatype_size = datatype_size; dataspace_size = dataspace_size })))))

abbrev their_sizes3 : ℕ → Format Sizes3
their_sizes3 version =
    number 1 (λ flags.
    number 2 (λ name_size.
    number 2 (λ datatype_size.
    number 2 (λ dataspace_size.
    number 1 (λ encoding.
    done {A = Sizes3} (record { version = version; flags = flags; name_size = name_size; datatype_size = datatype_size; dataspace_size = dataspace_size; name_character_set_encoding = encoding }))))))

fields1_tied : Tied (λ f x. f ≡ record { version = 1; name_size = x.name_size }) (our_fields 1) (their_sizes1 1)
unfolding encoding bind
fields1_tied = tied_number (λ flags. tied_number (λ name_size. tied_check (leb name_size 4096) 17 (λ _. tied_number (λ a. tied_number (λ b. tied_done refl)))))

fields3_tied : Tied (λ f x. f ≡ record { version = 3; name_size = x.name_size }) (our_fields 3) (their_sizes3 3)
unfolding encoding bind
fields3_tied = tied_number (λ flags. tied_number (λ name_size. tied_check (leb name_size 4096) 17 (λ _. tied_number (λ a. tied_number (λ b. tied_number (λ c. tied_done refl))))))

-- the fields before the name are those of version 1 or of version 3
data FieldsTied (s : List ℕ) (p m : ℕ) (f : AttributeFields) : Type 0 where
  first : (x : Sizes1) → Stands s sizes1 p m x → f ≡ record { version = 1; name_size = x.name_size } → p + 1 ≤ length s → le s p 1 ≡ 1 → FieldsTied s p m f
  third : (x : Sizes3) → Stands s sizes3 p m x → f ≡ record { version = 3; name_size = x.name_size } → p + 1 ≤ length s → le s p 1 ≡ 3 → FieldsTied s p m f

sizes1_stands : (s : List ℕ) (p m : ℕ) (x : Sizes1) → p + 1 ≤ length s → le s p 1 ≡ 1 → Stands s (their_sizes1 1) (p + 1) m x → Stands s sizes1 p m x
unfolding sizes1
sizes1_stands s p m x l e h = (l, rw e h)

sizes3_stands : (s : List ℕ) (p m : ℕ) (x : Sizes3) → p + 1 ≤ length s → le s p 1 ≡ 3 → Stands s (their_sizes3 3) (p + 1) m x → Stands s sizes3 p m x
unfolding sizes3
sizes3_stands s p m x l e h = (l, rw e h)

fields_tied : (s : List ℕ) (p m : ℕ) (f : AttributeFields) → Stands s attribute_fields p m f → FieldsTied s p m f
unfolding attribute_fields
fields_tied s p m f h =
    let v = le s p 1 in
    let w = stands_check s (eqb v 1 || eqb v 3) 17 (our_fields v) (p + 1) m f h.1 in
    go (eqb v 1) refl (eqb v 3) refl w.0 w.1
  where
    go : (a : Bool) → eqb (le s p 1) 1 ≡ a → (b : Bool) → eqb (le s p 1) 3 ≡ b → (a || b) ≡ true → Stands s (our_fields (le s p 1)) (p + 1) m f → FieldsTied s p m f
    go true e b d t i =
        let g = eqb-true (le s p 1) 1 e in
        let x = fields1_tied.ties s (p + 1) m f (rw g at i) in
        first x.value (sizes1_stands s p m x.value h.0 g x.stands) x.related h.0 g
    go false e true d t i =
        let g = eqb-true (le s p 1) 3 d in
        let x = fields3_tied.ties s (p + 1) m f (rw g at i) in
        third x.value (sizes3_stands s p m x.value h.0 g x.stands) x.related h.0 g
    go false e false d t i = let z : ◌≡◌ {A = ℕ} 0 1 = cc in absurd (omega arith)

raw_stands : (s : List ℕ) (p n : ℕ) → p + n ≤ length s → Stands s (raw n) p (p + n) (record { position = p; length = n })
unfolding raw
raw_stands s p n h = (h, (refl, refl))

-- a name that is null-terminated has the length that is left without zeros at the end
terminated_length : (s : List ℕ) (p m l n : ℕ) → Trimmed s p m l → NullTerminated s (record { position = p; length = m }) n → l ≡ n
terminated_length s p m l n h i =
    padded_length s p m l n h (record {
      within = omega (arith, i.size);
      text = i.name;
      zeros = λ j a b. let e : j ≡ n = omega (arith, i.size) in rw e i.terminator;
    })

-- a text of a name field is its name
pub same_name : (s : List ℕ) (m n l : ℕ) (name : Part) → Trimmed s m n l → name ≡ record { position = m; length = l } → SameName s name (record { position = m; length = n })
same_name s m n l name h e =
    let f : l ≡ name.length = ap (λ (x : Part). x.length) (sym e) in
    record {
      bytes = record { position = ap (λ (x : Part). x.position) e; length = rw f at h };
      terminated = λ k i. sym f ∙ terminated_length s m n l k h i;
    }

-- what follows the fields before the name
abbrev pub our_name : State → AttributeFields → Format ours.Attribute
our_name state f =
    here (λ from.
    text f.name_size (λ length.
    skip (padding f.version f.name_size) (
    name_and_value f.version state (record { position = from; length = length }))))

module _ (s : List ℕ) (state : State) where
  -- the name of an attribute that is read, where the fields before it are f
  name_of : (m q : ℕ) (a : ours.Attribute) (f : AttributeFields) → Stands s (our_name state f) m q a → SameName s a.name (record { position = m; length = f.name_size })
  name_of m q a f h =
      let part : Part = record { position = m; length = h.0 } in
      same_name s m f.name_size h.0 a.name h.1 ((with_or_without s f.version state part (m + f.name_size + padding f.version f.name_size) q a).0 h.2.1).0

  name_by : (p m q : ℕ) (a : ours.Attribute) (f : AttributeFields) → FieldsTied s p m f → Stands s (our_name state f) m q a → NameStood s p a.name
  name_by p m q a f (first x h e l v) i = names.in_version_1 m x h (rw e at (name_of m q a f i))
  name_by p m q a f (third x h e l v) i = names.in_version_3 m x h (rw e at (name_of m q a f i))

  -- Whatever follows it, also where a difference applies: the name is the standard's name field.
  pub name_tied : (p q : ℕ) (a : ours.Attribute) → Stands s (attribute state) p q a → NameStood s p a.name
  unfolding attribute
  name_tied p q a h =
      let w = stands_bind s attribute_fields (our_name state) p q a h in
      name_by p w.0 q a w.1 (fields_tied s p w.0 w.1 w.2) w.3

module _ (s : List ℕ) (state : State) (longest : ℕ) (wide : 4095 ≤ longest) where
  abbrev width : ℕ
  width = state.size_of_lengths

  -- datatype, dataspace and data that stand, or that have no reading
  abbrev Contents : (version : ℕ) (pad : ℕ → ℕ) → ((n : ℕ) → padding version n ≡ pad n) → ℕ → ℕ → ℕ → ℕ → Value → Type 0
  Contents version pad same-pad a b p q v =
      ContentsDiffer s state longest version pad a b p ⊎ Held s state longest wide version pad same-pad a b p q v

  contents_of : (version : ℕ) (pad : ℕ → ℕ) (same-pad : (n : ℕ) → padding version n ≡ pad n) (a b p q : ℕ) (x : ours.Attribute) → With s version state p q x ⊎ Without s version state p q x
      → Contents version pad same-pad a b p q x.value
  contents_of version pad same-pad a b p q x (inl w) = contents_tied s state longest wide version pad same-pad a b p q x.value w.stands
  contents_of version pad same-pad a b p q x (inr w) = inl (no_reading w.nowhere)

  abbrev Found : ℕ → ℕ → ours.Attribute → Type 0
  Found p q a = AttributeDiffers s state longest p ⊎ Stood (SameAttribute s) (attribute_message longest type_levels width) s p q a

  -- the message of version 1
  abbrev the_attribute1 : Sizes1 → ℕ → ℕ → Described → ℕ → Attribute1
  the_attribute1 x m e c u =
      record { sizes = x; name = record { position = m; length = x.name_size }; name_padding = e; described = c; «data» = record { position = u; length = raw_size c } }

  stands1 : (p m u : ℕ) (x : Sizes1) (c : Described) → Stands s sizes1 p m x → m + x.name_size + to_multiple_of8 x.name_size ≤ length s
      → Stands s (described longest type_levels width to_multiple_of8 x.datatype_size x.dataspace_size) (m + x.name_size + to_multiple_of8 x.name_size) u c → u + raw_size c ≤ length s
      → Stands s (attribute1 longest type_levels width) p (u + raw_size c) (the_attribute1 x m (le s (m + x.name_size) (to_multiple_of8 x.name_size)) c u)
  unfolding attribute1
  stands1 p m u x c h l i k =
      bind_stands s sizes1 _ p m _ x _ h
      (bind_stands s (raw x.name_size) _ m (m + x.name_size) _ (record { position = m; length = x.name_size }) _ (raw_stands s m x.name_size (omega arith)) (
        l,
        bind_stands s (described longest type_levels width to_multiple_of8 x.datatype_size x.dataspace_size) _ (m + x.name_size + to_multiple_of8 x.name_size) u _ c _ i
            (bind_stands s (raw (raw_size c)) _ u (u + raw_size c) _ (record { position = u; length = raw_size c }) _ (raw_stands s u (raw_size c) k) (refl, refl)),
      ))

  -- the message of version 3
  abbrev the_attribute3 : Sizes3 → ℕ → Described → ℕ → Attribute3
  the_attribute3 x m c u =
      record { sizes = x; name = record { position = m; length = x.name_size }; described = c; «data» = record { position = u; length = raw_size c } }

  stands3 : (p m u : ℕ) (x : Sizes3) (c : Described) → Stands s sizes3 p m x → (bit x.flags 0 || bit x.flags 1) ≡ false → m + x.name_size ≤ length s
      → Stands s (described longest type_levels width (λ _. 0) x.datatype_size x.dataspace_size) (m + x.name_size) u c → u + raw_size c ≤ length s
      → Stands s (attribute3 longest type_levels width) p (u + raw_size c) (the_attribute3 x m c u)
  unfolding attribute3
  stands3 p m u x c h e l i k =
      bind_stands s sizes3 _ p m _ x _ h
      (rw e (bind_stands s (raw x.name_size) (λ name. bind (described longest type_levels width (λ _. 0) x.datatype_size x.dataspace_size) (λ c. bind (raw (raw_size c)) (λ d. done {A = Attribute3} (record { sizes = x; name = name; described = c; «data» = d }))))
      m (m + x.name_size) (u + raw_size c) (record { position = m; length = x.name_size }) (the_attribute3 x m c u) (raw_stands s m x.name_size l)
      (bind_stands s (described longest type_levels width (λ _. 0) x.datatype_size x.dataspace_size) _ (m + x.name_size) u _ c _ i
      (bind_stands s (raw (raw_size c)) _ u (u + raw_size c) _ (record { position = u; length = raw_size c }) _ (raw_stands s u (raw_size c) k) (refl, refl)))))

  -- the table of the version that is written
  message1 : (p q : ℕ) (x : Attribute1) → p + 1 ≤ length s → le s p 1 ≡ 1 → Stands s (attribute1 longest type_levels width) p q x → Stands s (attribute_message longest type_levels width) p q (of_version_1 x)
  unfolding attribute_message
  message1 p q x l e h = version_stands s _ p q (of_version_1 x) l (rw e (marked_stands s of_version_1 (attribute1 longest type_levels width) p q x h))

  message3 : (p q : ℕ) (x : Attribute3) → p + 1 ≤ length s → le s p 1 ≡ 3 → Stands s (attribute3 longest type_levels width) p q x → Stands s (attribute_message longest type_levels width) p q (of_version_3 x)
  unfolding attribute_message
  message3 p q x l e h = version_stands s _ p q (of_version_3 x) l (rw e (marked_stands s of_version_3 (attribute3 longest type_levels width) p q x h))

  module _ (p m q : ℕ) (a : ours.Attribute) (one : p + 1 ≤ length s) where
    found1 : (x : Sizes1) (l : ℕ) → le s p 1 ≡ 1 → Stands s sizes1 p m x → Trimmed s m x.name_size l → a.name ≡ record { position = m; length = l }
        → m + x.name_size + to_multiple_of8 x.name_size ≤ length s
        → Contents 1 to_multiple_of8 (λ _. refl) x.datatype_size x.dataspace_size (m + x.name_size + to_multiple_of8 x.name_size) q a.value → Found p q a
    found1 x l e h t n i (inl d) = inl (in_version_1 m x h d)
    found1 x l e h t n i (inr c) =
        inr (record {
          value = of_version_1 v;
          stands = message1 p q v one e (rw c.end at (stands1 p m c.upto x c.contents h i c.stands c.inside));
          related = record { name = same_name s m x.name_size l a.name t n; members = c.members; value = c.value };
        })
      where
        v : Attribute1
        v = the_attribute1 x m (le s (m + x.name_size) (to_multiple_of8 x.name_size)) c.contents c.upto

    version1 : (x : Sizes1) → le s p 1 ≡ 1 → Stands s sizes1 p m x → Stands s (our_name state (record { version = 1; name_size = x.name_size })) m q a → Found p q a
    version1 x e h i =
        let part : Part = record { position = m; length = i.0 } in
        let from = m + x.name_size + to_multiple_of8 x.name_size in
        let w = (with_or_without s 1 state part from q a).0 i.2.1 in
        found1 x i.0 e h i.1 w.0 i.2.0 (contents_of 1 to_multiple_of8 (λ _. refl) x.datatype_size x.dataspace_size from q a w.1)

    found3 : (x : Sizes3) (l : ℕ) → le s p 1 ≡ 3 → Stands s sizes3 p m x → (bit x.flags 0 || bit x.flags 1) ≡ false → Trimmed s m x.name_size l
        → a.name ≡ record { position = m; length = l }
        → Contents 3 (λ _. 0) (λ _. refl) x.datatype_size x.dataspace_size (m + x.name_size) q a.value → Found p q a
    found3 x l e h f t n (inl d) = inl (in_version_3 m x h d)
    found3 x l e h f t n (inr c) =
        inr (record {
          value = of_version_3 v;
          stands = message3 p q v one e (rw c.end at (stands3 p m c.upto x c.contents h f t.inside c.stands c.inside));
          related = record { name = same_name s m x.name_size l a.name t n; members = c.members; value = c.value };
        })
      where
        v : Attribute3
        v = the_attribute3 x m c.contents c.upto

    version3 : (x : Sizes3) → le s p 1 ≡ 3 → Stands s sizes3 p m x → Stands s (our_name state (record { version = 3; name_size = x.name_size })) m q a → Found p q a
    version3 x e h i = go (bit x.flags 0 || bit x.flags 1) refl
      where
        go : (t : Bool) → (bit x.flags 0 || bit x.flags 1) ≡ t → Found p q a
        go true d = inl (shared m x h d)
        go false d =
            let part : Part = record { position = m; length = i.0 } in
            let none : m + x.name_size + 0 ≡ m + x.name_size = omega arith in
            let j : Stands s (name_and_value 3 state part) (m + x.name_size) q a = rw none at i.2.1 in
            let w = (with_or_without s 3 state part (m + x.name_size) q a).0 j in
            found3 x i.0 e h d i.1 w.0 (contents_of 3 (λ _. 0) (λ _. refl) x.datatype_size x.dataspace_size (m + x.name_size) q a w.1)

  by_version_lem : (p m q : ℕ) (a : ours.Attribute) (f : AttributeFields) → FieldsTied s p m f → Stands s (our_name state f) m q a → Found p q a
  by_version_lem p m q a f (first x h e l v) i = version1 p m q a l x v h (rw e at i)
  by_version_lem p m q a f (third x h e l v) i = version3 p m q a l x v h (rw e at i)

  -- An attribute stands only where the standard's attribute message stands over the same bytes, with the same name and value; or the bytes
  -- differ in one of the ways that are listed. The relation speaks of the file, since a name and a value are handed out as parts of it.
  pub attribute_tied : (p q : ℕ) (a : ours.Attribute) → Stands s (attribute state) p q a
      → AttributeDiffers s state longest p ⊎ Stood (SameAttribute s) (attribute_message longest type_levels state.size_of_lengths) s p q a
  unfolding attribute
  attribute_tied p q a h =
      let w = stands_bind s attribute_fields (our_name state) p q a h in
      by_version_lem p w.0 q a w.1 (fields_tied s p w.0 w.1 w.2) w.3
