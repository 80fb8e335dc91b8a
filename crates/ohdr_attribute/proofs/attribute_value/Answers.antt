-- The class and the size choose the value, then whether there is one element, and each is read by its own call.
use Rattle.ohdr_attribute.specs.Attributes.{value}
use Rattle.ohdr_datatype.specs.Facts.{class_is, class_not}
use Rattle.records.specs.Elements.{elements_of}
use borrow.Author.Tests.{lt-ltb, le-ltb}
use native.Mathlib.Omega.{arith}
use lib.Dec.{eqb}
use mathlib.Core.Path.{◌≡◌, sym, ◌∙◌}
use mathlib.Core.Bool.{true, false}
use Prim.Native.Nat.{◌*◌}
use Rattle.ohdr_attribute.proofs.attribute_value.Goals as goal
use Rattle.ohdr_attribute.proofs.attribute_value.Goals.{in_default-via-in-3+else-size-gt0 as sized, in_default-via-in_default-1 as other_class}

pub returns-in-3 : goal.returns-in-3
unfolding value
returns-in-3 c = let t = c.args.datatype in
    let m = elements_of c.args.space in
    rw (class_is t.class_and_version c.in-3.is, lt-ltb 0 t.size c.if-size-gt0.true) (c.text_value.ensures (m * t.size) (c.times-total.ensures m c.requires))

pub returns-in-9 : goal.returns-in-9
unfolding value
returns-in-9 c = rw (class_is c.args.datatype.class_and_version c.in-9.is) c.list_value.ensures

pub returns-in_default : goal.returns-in_default
unfolding value
returns-in_default c = let t = c.args.datatype in
    let m = elements_of c.args.space in
    let one : eqb m 1 ≡ true = sym (c.is_one.ensures m c.requires) ∙ c.if-is_one.true in
    elim c.in_default.branch [
      | sized w ↦ rw (class_is t.class_and_version {k = 3} w.in-3.is, le-ltb 0 t.size w.if-size-gt0.false, one) c.element_value.ensures
      | other_class w ↦ rw (class_not t.class_and_version 3 (λ e. omega arith), class_not t.class_and_version 9 (λ e. omega arith), one) c.element_value.ensures
    ]

pub returns-in_default-2 : goal.returns-in_default-2
unfolding value
returns-in_default-2 c = let t = c.args.datatype in
    let m = elements_of c.args.space in
    let many : eqb m 1 ≡ false = sym (c.is_one.ensures m c.requires) ∙ c.if-is_one.false in
    let other = c.other_value.ensures (m * t.size) (c.times-total.ensures m c.requires) in
    elim c.in_default.branch [
      | sized w ↦ rw (class_is t.class_and_version {k = 3} w.in-3.is, le-ltb 0 t.size w.if-size-gt0.false, many) other
      | other_class w ↦ rw (class_not t.class_and_version 3 (λ e. omega arith), class_not t.class_and_version 9 (λ e. omega arith), many) other
    ]
