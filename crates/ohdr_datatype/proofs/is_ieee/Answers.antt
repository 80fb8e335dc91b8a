-- Single or double: each comparison is one side of the definition, but for the order of its seven tests.
use Rattle.std.specs.Prelude.{ℕ, ◌≡◌, refl, Bool, true, false, ◌&&◌, eqb}
use Rattle.std.proofs.Common.{sym, ap, ◌∙◌}
use Rattle.records.specs.declared.FloatProperties.{FloatProperties}
use Rattle.ohdr_datatype.specs.DataTypes.{ieee, float_is}
use Rattle.ohdr_datatype.proofs.is_ieee.Goals as goal

-- the test of the mantissa's location may come before three others
earlier : (p l e m r : Bool) → (m && (p && (l && (e && r)))) ≡ (p && (l && (e && (m && r))))
earlier p l e true r = refl
earlier false l e false r = refl
earlier true false e false r = refl
earlier true true false false r = refl
earlier true true true false r = refl

-- the seven tests in the order of the fields
in_order : (f : FloatProperties) (p l e s b : ℕ)
    → float_is f p l e s b
    ≡ (eqb f.bit_offset 0 && (eqb f.bit_precision p && (eqb f.exponent_location l && (eqb f.exponent_size e && (eqb f.mantissa_location 0 && (eqb f.mantissa_size s && eqb f.exponent_bias b))))))
unfolding float_is
in_order f p l e s b =
    ap (λ (t : Bool). eqb f.bit_offset 0 && t)
    (earlier (eqb f.bit_precision p) (eqb f.exponent_location l) (eqb f.exponent_size e) (eqb f.mantissa_location 0) (eqb f.mantissa_size s && eqb f.exponent_bias b))

pub returns-then-eq : goal.returns-then-eq
unfolding ieee
returns-then-eq c =
    let single : float_is c.args.f 32 23 8 23 127 ≡ true = in_order c.args.f 32 23 8 23 127 ∙ sym c.if-eq.ensures in
    rw (c.if-eq.true, single)

pub returns-else-eq : goal.returns-else-eq
unfolding ieee
returns-else-eq c =
    let single : float_is c.args.f 32 23 8 23 127 ≡ false = in_order c.args.f 32 23 8 23 127 ∙ sym c.if-eq.ensures in
    let double : float_is c.args.f 64 52 11 52 1023 ≡ c.eq-else-eq.result = in_order c.args.f 64 52 11 52 1023 ∙ sym c.eq-else-eq.ensures in
    rw (single, double)
