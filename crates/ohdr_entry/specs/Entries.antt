-- IV.A.1.b, an entry of a version 2 object header by itself: its prefix, its body by its type, and its closing.
-- Assumes nothing: these are definitions.
use Rattle.std.specs.Prelude.{ℕ, ◌+◌, ◌-◌, eqb}
use Rattle.std.specs.Int.Bits.{bit_and}
use Rattle.format.specs.Bits.{bit}
use Rattle.format.specs.Format.{Format, done, number, skip, here, bind, check, pick, nothing}
use Rattle.parser.specs.declared.State.{State}
use Rattle.ohdr_info.specs.Info.{link_info, group_info, attribute_info}
use Rattle.ohdr_entry.specs.Continuations.{continuation}
use Rattle.ohdr_storage.specs.Storage.{fill_old, fill, filter_pipeline}
use Rattle.ohdr_layout.specs.DataLayouts.{data_layout}
use Rattle.ohdr_datatype.specs.DataTypes.{data_type, type_levels}
use Rattle.ohdr_dataspace.specs.DataSpaces.{data_space}
use Rattle.ohdr_attribute.specs.Attributes.{attribute}
use Rattle.grammar.specs.Message.{Kept, Held}
use Rattle.grammar.specs.Message as messages
use Rattle.ohdr_entry.specs.declared.Prefix.{Prefix}

-- the bytes of an entry before its body: header flag bit 2 brings a creation order of 2 bytes
abbrev pub prefix_size : ℕ → ℕ
prefix_size header-flags = pick (bit header-flags 2) 6 4

-- bodies of which a row shows neither name nor part; one that is skipped by its size has no fields
unfoldable pub plain_body : State → ℕ → Format Kept
plain_body s type =
    pick (eqb type 1) (bind (data_space s) (λ d. done (messages.data_space d))) (
    pick (eqb type 2) (bind (link_info s) (λ l. done (messages.link_info l))) (
    pick (eqb type 3) (bind (data_type type_levels) (λ t. done (messages.data_type t))) (
    pick (eqb type 4) (bind fill_old (λ _. done messages.nothing)) (
    pick (eqb type 5) (bind fill (λ _. done messages.nothing)) (
    pick (eqb type 10) (bind group_info (λ g. done (messages.group_info g))) (
    pick (eqb type 11) (bind filter_pipeline (λ _. done messages.nothing)) (
    pick (eqb type 21) (bind (attribute_info s) (λ a. done (messages.attribute_info a))) (
    done messages.nothing))))))))

-- a layout has a part, an attribute a name and perhaps a part
unfoldable pub layout_body : State → Format Kept
layout_body s = bind (data_layout s) (λ l. done (messages.data_layout l))

unfoldable pub attribute_body : State → Format Kept
attribute_body s = bind (attribute s) (λ a. done (messages.attribute a))

-- a body by the type of its message
unfoldable pub body : State → ℕ → Format Kept
body s type = pick (eqb type 8) (layout_body s) (pick (eqb type 12) (attribute_body s) (plain_body s type))

-- the creation order, where header flag bit 2 is set
unfoldable pub creation_order : ℕ → Format (Unit {0})
creation_order header-flags = pick (bit header-flags 2) (number 2 (λ creation-order. nothing)) nothing

-- type, size and flags, of which bits 0 and 2 alone may be set, and the creation order
unfoldable pub prefix : ℕ → Format Prefix
prefix header-flags =
    number 1 (λ type.
    number 2 (λ size.
    number 1 (λ flags.
    check (eqb (bit_and flags 0b11111010) 0) 8 (
    bind (creation_order header-flags) (λ _.
    done {A = Prefix} (record { kind = type; size = size; flags = flags }))))))

-- what an entry with this prefix holds, its body at b: a message, or a continuation
unfoldable pub message_held : State → Prefix → ℕ → Format Held
message_held s x b =
    bind (body s x.kind) (λ k. done (messages.message (record { type = x.kind; flags = x.flags; size = x.size; body = b; kept = k })))

unfoldable pub continuation_held : State → Prefix → ℕ → Format Held
continuation_held s x b = bind (continuation s) (λ c. done (messages.continuation c.offset c.length))

-- from b to c what is held, and it ends at the larger of c and b + size
unfoldable pub closed : (State → Prefix → ℕ → Format Held) → State → Prefix → ℕ → Format Held
closed F s x b = bind (F s x b) (λ h. here (λ c. skip (b + x.size - c) (done h)))

-- an entry: its prefix up to b, and its body from b on
unfoldable pub entry : State → ℕ → Format Held
entry s header-flags =
    bind (prefix header-flags) (λ x.
    here (λ b.
    pick (eqb x.kind 16) (closed continuation_held s x b) (closed message_held s x b)))
