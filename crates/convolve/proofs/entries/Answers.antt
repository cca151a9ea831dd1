-- The goals of `convolve::entries` that the search leaves.
use Prim.Native.Nat.{◌+◌, ◌%◌, min}
use mathlib.Core.Path.{◌≡◌, ◌∙◌}
use lib.ListN.{length}
use native.Mathlib.Nat.{mod-lt}
use Rattle.sums.proofs.Fill.{fill_none, fill_store}
use Rattle.along.specs.Along.{along}
use Rattle.convolve.proofs.Output.{entry_of}
use native.Mathlib.Omega.{arith}
use Rattle.convolve.proofs.entries.Goals as goal
use Rattle.convolve.proofs.entries.Goals.{then-k-j, else-k-j}

pub loop-k-init : goal.loop-k-init
loop-k-init c =
    let e : min 0 (length c.args.x.now) ≡ 0 = omega arith in
    rw e (fill_none _ _)

pub overflow_cast-out : goal.overflow_cast-out
overflow_cast-out c =
    let e = entry_of c.args.x.now c.args.d.now c.args.m c.loop-k.k c.loop-j.j c.four_entries-sums.ensures c.loop-j-test.true in
    omega (arith, e, mod-lt (along c.args.x.now c.args.d.now (c.loop-k.k + c.loop-j.j + 1)) c.requires.positive)

pub loop-j-preserved : goal.loop-j-preserved
loop-j-preserved c =
    let n = length c.args.x.now in
    let i = c.loop-k.k + c.loop-j.j in
    elim c.if-k-j.branch [
      | then-k-j w ↦
          let here : min i n ≡ i = omega arith in
          let next : i + 1 ≡ min (c.loop-k.k + (c.loop-j.j + 1)) n = omega arith in
          w.out-is
          ∙ rw (← next) (fill_store (λ t. along c.args.x.now c.args.d.now (t + 1) % c.args.m) c.args.out.now i (omega arith) (rw here at c.loop-j.invariant)
          (entry_of c.args.x.now c.args.d.now c.args.m c.loop-k.k c.loop-j.j c.four_entries-sums.ensures c.loop-j-test.true))
      | else-k-j w ↦
          let next : min i n ≡ min (c.loop-k.k + (c.loop-j.j + 1)) n = omega arith in
          w.out-is ∙ rw next at c.loop-j.invariant
    ]
