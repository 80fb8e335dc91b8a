-- What may stand where, in and under a header's run of entries. Entry, run, block, level and reading are document 01's words; at each stands what
-- the standard says.
-- Assumes nothing: these are definitions.
use Rattle.std.specs.Prelude.{ℕ, suc, ◌+◌, ◌-◌, ◌≤◌, ◌<◌, Bool, List, [], ◌∷◌, ◌++◌}
use Rattle.format.specs.Format.{Format, skip, check, nothing, signature, Stands}
use Rattle.grammar.specs.Message.{Message, Held, message, continuation}

-- IV.A.2.q: `OCHK`, the bytes 4F 43 48 4B
unfoldable pub ochk : Format (Unit {0})
ochk = signature 0x4B48434F 20

-- an entry of a reading: from where to where it stands, and what it holds
pub record Item : Type 0 where
  pub from : ℕ
  pub upto : ℕ
  pub held : Held

abbrev pub item : ℕ → ℕ → Held → Item
item p q x = record { from = p; upto = q; held = x }

-- levels of blocks that are allowed under a header's run; a level is document 01's term, the standard has continuation blocks and no bound (IV.A.2.q)
abbrev pub block_levels : ℕ
block_levels = 25

-- What does not change while a header is walked: the file, a prefix's bytes, one entry by itself, and whether the checksum stored at the second
-- place is that of the bytes from the first up to it.
pub record Source : Type 1 where
  pub file : List ℕ
  pub prefix : ℕ
  pub entry : Format Held
  pub sum : ℕ → ℕ → Bool

-- What closes a block from o to w, and a header from o whose chunk ends at e, after a run that ends at q: the gap, the 4 bytes of the stored checksum
-- (a block's w counts them), and then its test.
unfoldable pub block_end : (ℕ → ℕ → Bool) → ℕ → ℕ → ℕ → Format (Unit {0})
block_end sum o w q = skip (w - q) (check (sum o (w - 4)) 28 nothing)

unfoldable pub header_end : (ℕ → ℕ → Bool) → ℕ → ℕ → ℕ → Format (Unit {0})
header_end sum o e q = skip (e - q) (skip 4 (check (sum o e) 28 nothing))

module _ (src : Source) where
  -- one entry by itself stands from p to q, and holds x
  abbrev pub One : ℕ → ℕ → Held → Type 0
  One p q x = Stands src.file src.entry p q x

  mutual
    -- Run level p e q xs: a run from p within e ends at q, and xs is all that stands in it, in the reading's order.
    -- Either p + prefix is above e, and q is p; or it is at most e, an entry stands from p to m, and a run from m within e ends at q.
    -- Document 01's term; the standard speaks of the header messages of a chunk (IV.A.1.b).
    pub data Run : ℕ → ℕ → ℕ → ℕ → List Item → Type 0 where
      ends : {level p e : ℕ} → e < p + src.prefix → Run level p e p []
      goes : {level p e m q : ℕ} {xs ys : List Item} → p + src.prefix ≤ e → Entry level p m xs → Run level m e q ys → Run level p e q (xs ++ ys)

    -- Entry level p q xs: an entry stands from p to q, and xs is it and then all in its block.
    -- A continuation also holds a block, one level above its entry's, at most 25.
    -- Document 01's term; the standard calls it a header message, with its type, size and flags (IV.A.1.b).
    pub data Entry : ℕ → ℕ → ℕ → List Item → Type 0 where
      is_message : {level p q : ℕ} {m : Message} → One p q (message m) → Entry level p q (item p q (message m) ∷ [])
      is_continuation : {level p q offset length : ℕ} {xs : List Item} → One p q (continuation offset length) → suc level ≤ block_levels → Block (suc level) offset length xs
          → Entry level p q (item p q (continuation offset length) ∷ xs)

    -- Block level offset size xs: `OCHK` at its offset, a run from there within offset + size − 4, and what closes it;
    -- xs is all that stands in it. Document 01's term; the standard's is object header continuation block (IV.A.2.q).
    pub data Block : ℕ → ℕ → ℕ → List Item → Type 0 where
      is_block : {level offset size start q : ℕ} {xs : List Item} (next : ℕ) → Stands src.file ochk offset start tt → Run level start (offset + size - 4) q xs
          → Stands src.file (block_end src.sum offset (offset + size) q) q next tt → Block level offset size xs

  -- Reading o p e next xs: in a header at o, a run from p within the chunk end e, and what closes it. The header's run is level 0.
  -- Document 01's term; to the standard these are the chunks of one object header (IV.A.1.b).
  pub record Reading (o p e next : ℕ) (xs : List Item) : Type 0 where
    pub last : ℕ
    pub run : Run 0 p e last xs
    pub close : Stands src.file (header_end src.sum o e last) last next tt
