-- The goals of `convolve::lay_around` that the search leaves.
use Prim.Native.Nat.{ℕ, ◌-◌}
use mathlib.Core.Path.{ap, ◌∙◌}
use mathlib.Core.List.{List}
use Rattle.sums.specs.Table.{at}
use lib.ListN.{length, drop}
use Rattle.convolve.proofs.Layouts.{around_again, around-step, turn_back}
use native.Mathlib.Omega.{arith}
use Rattle.convolve.proofs.lay_around.Goals as goal

pub loop-j-init : goal.loop-j-init
loop-j-init c = around_again c.args.b.now c.args.d.now _ _ c.lay_once.ensures

pub loop-j-preserved : goal.loop-j-preserved
loop-j-preserved c =
    let b = c.args.b.now in
    let d = c.lay_once.new.d in
    let j = c.loop-j.j in
    let v = ap (λ (z : List ℕ). at z (j - length b)) c.loop-j.invariant ∙ turn_back b (drop j d) j (omega arith) (omega arith) in
    cc (around-step b d j _ (omega arith) v)
