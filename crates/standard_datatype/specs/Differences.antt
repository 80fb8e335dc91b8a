-- Where the bytes of a datatype that is read are not those of the standard's datatype message, in the words of the standard's formats.
-- Each case is an entry of docs/DIFFERENCES.md, part one. Assumes nothing: these are definitions.
use Rattle.std.specs.Prelude.{ℕ, suc, ◌+◌, ◌≤◌, ◌≡◌, List, eqb, get_or}
use Rattle.format.specs.Format.{Stands, pick}
use Rattle.standard.specs.Datatypes.{DatatypeHeader, datatype_header, class, version, member_count, Member, member, Datatype, datatype_message}

-- the longest name of a member, by the version of its compound
abbrev pub name_limit : ℕ → ℕ
name_limit version = pick (eqb version 1) 255 4095

-- a name above a limit
abbrev pub LongName : ℕ → List ℕ → ℕ → Type 0
LongName limit s p = (i : ℕ) → i ≤ limit → get_or s (p + i) 0 ≡ 0 → ⊥

mutual
  -- the datatype message at p differs: its header stands by the standard, and its properties differ
  pub data TypeDiffers (longest : ℕ) (s : List ℕ) : ℕ → Type 0 where
    in_properties : {p : ℕ} (m : ℕ) (h : DatatypeHeader) → Stands s datatype_header p m h → PropertiesDiffer longest s h m → TypeDiffers longest s p

  -- the properties at p of the datatype message with this header differ
  pub data PropertiesDiffer (longest : ℕ) (s : List ℕ) : DatatypeHeader → ℕ → Type 0 where
    -- 35: members of a compound of size 0
    compound_of_size_0 : {h : DatatypeHeader} {p : ℕ} → class h ≡ 6 → version h ≡ 3 → h.size ≡ 0 → (member_count h ≡ 0 → ⊥) → PropertiesDiffer longest s h p
    -- a member of a compound differs
    in_members : {h : DatatypeHeader} {p : ℕ} → class h ≡ 6 → MembersDiffer longest s h (member_count h) p → PropertiesDiffer longest s h p
    -- the parent type differs
    in_parent_type : {h : DatatypeHeader} {p : ℕ} → class h ≡ 9 → TypeDiffers longest s p → PropertiesDiffer longest s h p

  -- of so many members from p on, in a compound with this header, one differs: those before it stand by the standard
  pub data MembersDiffer (longest : ℕ) (s : List ℕ) : DatatypeHeader → ℕ → ℕ → Type 0 where
    -- 34: its name is long
    long_name : {h : DatatypeHeader} {n p : ℕ} → LongName (name_limit (version h)) s p → MembersDiffer longest s h (suc n) p
    -- its type differs
    in_member_type : {h : DatatypeHeader} {n p : ℕ} (m : ℕ) (x : Member) → Stands s (member longest h) p m x → TypeDiffers longest s m → MembersDiffer longest s h (suc n) p
    -- a later one differs
    in_later : {h : DatatypeHeader} {n p : ℕ} (m q levels : ℕ) (x : Member) (type : Datatype)
        → Stands s (member longest h) p m x → Stands s (datatype_message longest levels) m q type → MembersDiffer longest s h n q
        → MembersDiffer longest s h (suc n) p
