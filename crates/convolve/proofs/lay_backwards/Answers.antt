-- The goals of `convolve::lay_backwards` that the search leaves.
use Prim.Native.Nat.{◌+◌, ◌-◌}
use mathlib.Core.Path.{◌≡◌}
use lib.ListN.{length}
use Rattle.sums.specs.Table.{at}
use Rattle.sums.proofs.Fill.{fill_none, fill_step, fill_all}
use Rattle.convolve.specs.Layout.{backwards}
use native.Mathlib.Omega.{arith}
use Rattle.convolve.proofs.lay_backwards.Goals as goal

pub loop-i-init : goal.loop-i-init
loop-i-init c = fill_none _ _

pub loop-i-preserved : goal.loop-i-preserved
loop-i-preserved c =
    cc (fill_step (λ t. at c.args.a.now (length c.args.a.now - (t + 1))) c.args.x.now c.loop-i.i (omega arith))

pub returns : goal.returns
unfolding backwards
returns c =
    let e : c.loop-i.i ≡ length c.args.a.now = omega arith in
    cc (fill_all (λ t. at c.args.a.now (length c.args.a.now - (t + 1))) c.args.x.now c.loop-i.i (omega arith))
