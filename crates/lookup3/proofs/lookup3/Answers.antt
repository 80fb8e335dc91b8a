-- The sum from the start is the sum from block i on, of the blocks that are left and with the words mixed so far.
use Rattle.lookup3.specs.declared.Words.{Words}
use Rattle.lookup3.specs.Lookup3.{final_mix}
use lib.ListN.{length}
use native.Mathlib.Omega.{arith}
use Prim.Native.Nat.{◌-◌, ◌/◌}
use mathlib.Core.Path.{◌≡◌, sym, ap, ◌∙◌}
use Rattle.lookup3.specs.Laws.{sum_none, sum_some, block_more_of, block_last_of}
use Rattle.lookup3.proofs.lookup3.Goals as goal

pub returns-then-length-eq0 : goal.returns-then-length-eq0
returns-then-length-eq0 c = ap (λ (x : Words). x.c) c.start-w.ensures ∙ rw (sum_none c.args.part.now c.if-length-eq0.true, c.if-length-eq0.true)

pub loop-i-init : goal.loop-i-init
loop-i-init c = sum_some c.args.part.now (length c.args.part.now) c.start-w.result c.if-length-eq0.false c.start-w.ensures

pub loop-i-preserved : goal.loop-i-preserved
loop-i-preserved c = let p = c.args.part.now in
    c.loop-i.invariant ∙ block_more_of p c.loop-i.i ((length p - 1) / 12) c.loop-i.w c.loop-i-test.true ∙ rw (← c.add_block.ensures, ← c.mix-w.ensures)

pub returns : goal.returns
returns c =
    let p = c.args.part.now in
    let e : c.loop-i.i ≡ (length p - 1) / 12 = omega arith in
    c.final_mix.ensures ∙ ap final_mix c.add_last.ensures ∙ sym (rw e at c.loop-i.invariant ∙ block_last_of p ((length p - 1) / 12) c.loop-i.w)
