-- A type inside a type has one level less, so the calls end; members are read in a loop, turn by turn.
use Rattle.helpers.specs.Facts.{handed_on}
use Rattle.ohdr_datatype.specs.Facts.{class_is, class_not, low_two_bytes, type_none, type_more}
use Rattle.ohdr_datatype.specs.DataTypes.{member as memberFormat, type_layer, plain, properties, list_properties}
use Rattle.format.specs.Steps.{read_done, read_refuse, read_bind, times_none, times_more}
use native.Mathlib.Omega.{arith}
use mathlib.Core.Logic.{⊎_elim, inl, inr}
use mathlib.Core.Path.{◌≡◌}
use Prim.Native.Nat.{◌+◌, ◌-◌, ◌<◌}
use Rattle.ohdr_datatype.proofs.+types.Goals as goal

pub compound-returns-in_err-place : goal.compound-returns-in_err-place
compound-returns-in_err-place t c =
    let h : 0 < c.args.count - c.loop.counter = omega arith in
    rw (c.loop.invariant, times_more h, read_bind, ← c.member.ensures, c.in_err-place.was, handed_on c.from_residual.result c.in_err-place.field-0.0 c.from_residual.ensures.1)

pub compound-loop-preserved : goal.compound-loop-preserved
compound-loop-preserved t c =
    let h : 0 < c.args.count - c.loop.counter = omega arith in
    let e : c.args.count - c.loop.counter - 1 ≡ c.args.count - (c.loop.counter + 1) = omega arith in
    rw (c.loop.invariant, times_more h, read_bind, ← c.member.ensures, c.in_ok-place.was, e)

pub compound-returns : goal.compound-returns
unfolding plain
compound-returns t c =
    let z : c.args.count - c.loop.counter ≡ 0 = omega arith in
    rw (c.loop.invariant, times_none z, read_done)

pub list_properties-returns-in_err-base : goal.list_properties-returns-in_err-base
unfolding list_properties
list_properties-returns-in_err-base t c = rw (read_bind, ← c.message_data_type.ensures, c.in_err-base.was, handed_on c.from_residual.result c.in_err-base.field-0.0 c.from_residual.ensures.1)

pub list_properties-returns : goal.list_properties-returns
unfolding list_properties
list_properties-returns t c = rw (read_bind, ← c.message_data_type.ensures, c.in_ok-base.was, read_done)

pub member-returns-in_err-type_at : goal.member-returns-in_err-type_at
unfolding memberFormat
member-returns-in_err-type_at t c = rw (read_bind, ← c.member_fields.ensures, c.in_err-type_at.was, handed_on c.from_residual.result c.in_err-type_at.field-0.0 c.from_residual.ensures.1)

pub member-returns-in_err-next : goal.member-returns-in_err-next
unfolding memberFormat
member-returns-in_err-next t c = rw (read_bind, ← c.member_fields.ensures, c.in_ok-type_at.was, read_bind, ← c.message_data_type.ensures, c.in_err-next.was, handed_on c.from_residual-in_err-next.result c.in_err-next.field-0.0 c.from_residual-in_err-next.ensures.1)

pub member-returns : goal.member-returns
unfolding memberFormat
member-returns t c = rw (read_bind, ← c.member_fields.ensures, c.in_ok-type_at.was, read_bind, ← c.message_data_type.ensures, c.in_ok-next.was, read_done)

pub message_data_type-returns-then-levels-eq0 : goal.message_data_type-returns-then-levels-eq0
message_data_type-returns-then-levels-eq0 t c = rw (type_none c.if-levels-eq0.true, read_refuse)

pub message_data_type-returns-in_err-header : goal.message_data_type-returns-in_err-header
unfolding type_layer
message_data_type-returns-in_err-header t c = rw (type_more c.if-levels-eq0.false, read_bind, ← c.data_type_header.ensures, c.in_err-header.was, handed_on c.from_residual.result c.in_err-header.field-0.0 c.from_residual.ensures.1)

pub message_data_type-returns-in_err-data_fmt : goal.message_data_type-returns-in_err-data_fmt
unfolding type_layer
message_data_type-returns-in_err-data_fmt t c = rw (type_more c.if-levels-eq0.false, read_bind, ← c.data_type_header.ensures, c.in_ok-header.was, read_bind, ← c.type_properties.ensures, c.in_err-data_fmt.was, handed_on c.from_residual-in_err-data_fmt.result c.in_err-data_fmt.field-0.0 c.from_residual-in_err-data_fmt.ensures.1)

pub message_data_type-returns : goal.message_data_type-returns
unfolding type_layer
message_data_type-returns t c = rw (type_more c.if-levels-eq0.false, read_bind, ← c.data_type_header.ensures, c.in_ok-header.was, read_bind, ← c.type_properties.ensures, c.in_ok-data_fmt.was, ← c.list_size.ensures, read_done)

pub type_properties-returns-in-0 : goal.type_properties-returns-in-0
unfolding properties
type_properties-returns-in-0 t c = rw (class_is c.args.header.class_and_version c.in-0.is) c.fixed_properties.ensures

pub type_properties-returns-in-1 : goal.type_properties-returns-in-1
unfolding properties
type_properties-returns-in-1 t c = rw (class_is c.args.header.class_and_version c.in-1.is) c.float_format.ensures

pub type_properties-returns-in-3 : goal.type_properties-returns-in-3
unfolding properties plain
type_properties-returns-in-3 t c = let cv = c.args.header.class_and_version in ⊎_elim (λ e. rw (class_is cv {k = 3} e, read_done)) (λ e. rw (class_is cv {k = 7} e, read_done)) c.in-3.is

pub type_properties-returns-in-6 : goal.type_properties-returns-in-6
unfolding properties
type_properties-returns-in-6 t c = rw (class_is c.args.header.class_and_version c.in-6.is, low_two_bytes) c.compound.ensures

pub type_properties-returns-in-9 : goal.type_properties-returns-in-9
unfolding properties
type_properties-returns-in-9 t c = rw (class_is c.args.header.class_and_version c.in-9.is) c.list_properties.ensures

pub type_properties-returns-in_default : goal.type_properties-returns-in_default
unfolding properties
type_properties-returns-in_default t c =
    let cv = c.args.header.class_and_version in
    rw (class_not cv 0 (omega arith), class_not cv 1 (omega arith), class_not cv 3 (λ e. grind (arith, inl, inr)), class_not cv 7 (λ e. grind (arith, inl, inr)), class_not cv 6 (omega arith), class_not cv 9 (omega arith), read_refuse)
