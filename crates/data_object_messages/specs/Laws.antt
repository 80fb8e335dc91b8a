-- The ways out of reading a header's messages, and what the definition gives where they are refused or done. Assumes nothing.
use Rattle.std.specs.Prelude.{ℕ, ◌+◌, ◌≤◌, ◌<◌, ◌≡◌, List, length, Result, Ok, Err}
use Rattle.std.proofs.Common.{sym, ap, ◌∙◌, arith}
use Rattle.format.specs.Format.{read}
use Rattle.helpers.specs.Answers.{out}
use Rattle.records.specs.Refusals.{refusal_number}
use Rattle.records.specs.declared.Refusal.{Refusal}
use Rattle.row.specs.Rows.{put_all}
use Rattle.parser.specs.declared.State.{State}
use Rattle.parser.specs.States.{file_limit, state_of}
use Rattle.grammar.specs.Grammar.{Item}
use Rattle.grammar.specs.Table.{messages, rows_of}
use Rattle.grammar.specs.Walk.{reached, stopped, Limits}
use Rattle.grammar.specs.WalkLaws.{first}
use Rattle.grammar.specs.Filled.{Walked, grown, tell, untold, walk_on}
use Rattle.ohdr_closing.specs.declared.Progress.{Progress}
use Rattle.ohdr_closing.specs.Answers.{walked_of}
use Rattle.ohdr_walk.specs.Sources.{source}
use Rattle.data_object_header.specs.declared.HeaderFields.{HeaderFields}
use Rattle.data_object_header.specs.Headers.{header_fields, decode}
use Rattle.data_object_header.specs.HeaderLaws.{unread, walked, starts_after, starts_inside, size_small, no_width, too_large, goes_on}
use Rattle.data_object_messages.specs.Messages.{fresh, header_on, decode_on}

-- a header's fields, and then its messages
module _ (file : List ℕ) (s : State) (at : ℕ) (l : Limits) (t : List ℕ) {r : Result (HeaderFields × ℕ) Refusal} (f : out r ≡ read file header_fields at) where
  pub fields_refused : {x : Refusal} → r ≡ Err x → stopped (refusal_number x) 0 ≡ header_on file s at l t
  fields_refused e = sym (ap (tell (fresh t)) (unread file s l at f e))

  pub fields_read : {v : HeaderFields} {from : ℕ} → r ≡ Ok (v, from) → walk_on (source file s v.flags) l at (from + v.size) from t ≡ header_on file s at l t
  fields_read e = sym (ap (tell (fresh t)) (walked file s l at f e))

  pub fields_bound : {v : HeaderFields} {from : ℕ} → r ≡ Ok (v, from) → (at ≤ from) × (from ≤ length file) × (v.size ≤ 16777216)
  fields_bound e = (starts_after file s l at f e, starts_inside file s l at f e, size_small file s l at f e)

-- the tests that come first
module _ (file : List ℕ) (offsets lengths end at : ℕ) (l : Limits) (t : List ℕ) where
  pub not_made : {x : Refusal} → state_of offsets lengths end ≡ Err x → stopped (refusal_number x) 0 ≡ decode_on file offsets lengths end at l t
  not_made e = sym (ap (tell (fresh t)) (no_width offsets lengths end file at l e))

  module _ {s : State} (m : state_of offsets lengths end ≡ Ok s) where
    pub not_small : file_limit < length file → stopped 2 0 ≡ decode_on file offsets lengths end at l t
    not_small h = sym (ap (tell (fresh t)) (too_large offsets lengths end file at l m h))

    pub goes_in : length file ≤ file_limit → header_on file s at l t ≡ decode_on file offsets lengths end at l t
    goes_in h = sym (ap (tell (fresh t)) (goes_on offsets lengths end file at l m h))

  -- a walk that was refused
  pub stops : (x k : ℕ) → stopped x k ≡ decode_on file offsets lengths end at l t → decode file offsets lengths end at l ≡ stopped x k
  stops x k e = untold (fresh t) (decode file offsets lengths end at l) (sym e)

  -- a walk that was done, over a table t which it leaves as u: its items, and what of them is told
  pub record Told (p : Progress) (u : List ℕ) : Type 0 where
    pub items : List Item
    pub reaches : decode file offsets lengths end at l ≡ reached items p.at
    pub entries : p.entries ≡ length items
    pub rows : p.rows ≡ messages items
    pub filled : u ≡ put_all t 0 (rows_of items)

  pub told : (p : Progress) (u : List ℕ) → reached (walked_of p u) p.at ≡ decode_on file offsets lengths end at l t → Told p u
  told p u e =
      let v = first (decode file offsets lengths end at l) (λ xs q. reached (grown (fresh t) xs) q) (sym e) in
      let c : v.next ≡ p.at = cc v.then in
      let d : grown (fresh t) v.value ≡ walked_of p u = cc v.then in
      record {
        items = v.value;
        reaches = v.first ∙ ap (reached v.value) c;
        entries = omega (arith, ap (λ (x : Walked). x.entries) d);
        rows = omega (arith, ap (λ (x : Walked). x.rows) d);
        filled = sym (ap (λ (x : Walked). x.table) d);
      }
