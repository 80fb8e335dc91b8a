-- Formats: which fields stand where, and what reading them gives. Assumes nothing: these are definitions.
use Rattle.std.specs.Prelude.{ℕ, zero, suc, ◌+◌, ◌≤◌, ◌≡◌, ◌⊎◌, Bool, true, false, ◌&&◌, ◌||◌, List, length, leb, ltb, eqb}
use Rattle.format.specs.Bytes.{le, Named, Trimmed, name_length, text_length}

-- A format with a value of type A: its fields in the file's order, each given the values of those before it.
pub data Format : Type 0 → Type 1 where
  -- nothing more, and the value
  done : {A : Type 0} → A → Format A
  -- no reading, and the number of the refusal
  refuse : {A : Type 0} → ℕ → Format A
  -- a little-endian number of so many bytes
  number : {A : Type 0} → ℕ → (ℕ → Format A) → Format A
  -- so many bytes, of any value
  skip : {A : Type 0} → ℕ → Format A → Format A
  -- so many bytes that are handed out as they are
  bytes : {A : Type 0} → ℕ → Format A → Format A
  -- a name, which ends before its first zero or at so many bytes; what follows is given its length
  name : {A : Type 0} → ℕ → (ℕ → Format A) → Format A
  -- a text in so many bytes; what follows is given its length without the zeros at its end
  text : {A : Type 0} → ℕ → (ℕ → Format A) → Format A
  -- nothing; what follows is given the position
  here : {A : Type 0} → (ℕ → Format A) → Format A
  -- a format at another position; what follows stands here, and is given its value
  there : {A B : Type 0} → ℕ → Format B → (B → Format A) → Format A
  -- a format and what follows it, or, where it has no reading, another from the same position
  attempt : {A B : Type 0} → Format B → (B → Format A) → Format A → Format A

-- Stands s F p q a: in the file s, F fills p to q and has the value a.
abbrev pub Stands : {A : Type 0} → List ℕ → Format A → ℕ → ℕ → A → Type 0
Stands s (done x) p q a = (p ≡ q) × (x ≡ a)
Stands s (refuse n) p q a = ⊥
Stands s (number w k) p q a = (p + w ≤ length s) × Stands s (k (le s p w)) (p + w) q a
Stands s (skip n F) p q a = (p + n ≤ length s) × Stands s F (p + n) q a
Stands s (bytes n F) p q a = (p + n ≤ length s) × Stands s F (p + n) q a
Stands s (name limit k) p q a = (n : ℕ) × Named s p limit n × Stands s (k n) (p + n) q a
Stands s (text n k) p q a = (l : ℕ) × Trimmed s p n l × Stands s (k l) (p + n) q a
Stands s (here k) p q a = Stands s (k p) p q a
Stands s (there {B = B} o F k) p q a = (m : ℕ) × (b : B) × Stands s F o m b × Stands s (k b) p q a
Stands s (attempt {B = B} F k G) p q a =
    ((m : ℕ) × (b : B) × Stands s F p m b × Stands s (k b) m q a)
    ⊎ (((m : ℕ) (b : B) → Stands s F p m b → ⊥) × Stands s G p q a)

-- The value and the position after it, or the number of a refusal.
pub data Out (A : Type 0) : Type 0 where
  found : A → ℕ → Out A
  refused : ℕ → Out A

-- the name's end is its limit or a zero, and lies in the file
abbrev pub name_ends : List ℕ → ℕ → ℕ → ℕ → Bool
name_ends s p limit n = ltb (p + n) (length s) || (eqb n limit && leb (p + n) (length s))

-- read s F p: what reading F at p gives. Each field is tested when it is read; one that leaves the file is 3.
unfoldable pub read : {A : Type 0} → List ℕ → Format A → ℕ → Out A
read s (done x) p = found x p
read s (refuse n) p = refused n
read s (number w k) p = elim (leb (p + w) (length s)) [ true ↦ read s (k (le s p w)) (p + w) | false ↦ refused 3 ]
read s (skip n F) p = elim (leb (p + n) (length s)) [ true ↦ read s F (p + n) | false ↦ refused 3 ]
read s (bytes n F) p = elim (leb (p + n) (length s)) [ true ↦ read s F (p + n) | false ↦ refused 3 ]
read s (name limit k) p =
    let n = name_length s p limit in
    elim (name_ends s p limit n) [ true ↦ read s (k n) (p + n) | false ↦ refused 3 ]
read s (text n k) p = elim (leb (p + n) (length s)) [ true ↦ read s (k (text_length s p n)) (p + n) | false ↦ refused 3 ]
read s (here k) p = read s (k p) p
read s (there o F k) p = elim (read s F o) [ found b m ↦ read s (k b) p | refused n ↦ refused n ]
read s (attempt F k G) p = elim (read s F p) [ found b m ↦ read s (k b) m | refused n ↦ read s G p ]

-- a format, and what follows it, which is given its value
unfoldable pub bind : {A B : Type 0} → Format A → (A → Format B) → Format B
bind (done x) k = k x
bind (refuse n) k = refuse n
bind (number w f) k = number w (λ v. bind (f v) k)
bind (skip n F) k = skip n (bind F k)
bind (bytes n F) k = bytes n (bind F k)
bind (name limit f) k = name limit (λ n. bind (f n) k)
bind (text n f) k = text n (λ l. bind (f l) k)
bind (here f) k = here (λ p. bind (f p) k)
bind (there o F f) k = there o F (λ b. bind (f b) k)
bind (attempt F f G) k = attempt F (λ b. bind (f b) k) (bind G k)

-- a format n times, and then another
unfoldable pub times : {A B : Type 0} → ℕ → Format A → Format B → Format B
times zero F G = G
times (suc n) F G = bind F (λ _. times n F G)

-- a, where the test holds, and else b
abbrev pub pick {ℓ} : {A : Type ℓ} → Bool → A → A → A
pick true a b = a
pick false a b = b

-- a format where a test holds, and else a refusal
abbrev pub check : {A : Type 0} → Bool → ℕ → Format A → Format A
check test n F = pick test F (refuse n)

-- nothing more, and no value
abbrev pub nothing : Format (Unit {0})
nothing = done tt

-- a signature: four given bytes, as one little-endian number; others are refused
abbrev pub signature : ℕ → ℕ → Format (Unit {0})
signature mark refusal = number 4 (λ value. check (eqb value mark) refusal nothing)
