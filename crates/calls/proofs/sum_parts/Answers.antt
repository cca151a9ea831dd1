-- The goals of `calls::sum_parts` that the search leaves.
use mathlib.Core.Path.{ap}
use mathlib.Core.List.{List}
use Prim.Native.Nat.{ℕ, ◌+◌, ◌*◌, ◌≤◌, ◌<◌}
use native.Mathlib.Nat.{mul-le-mul_right}
use lib.ListN.{length}
use Rattle.sums.specs.Table.{at}
use Rattle.sums.proofs.Sums.{sum_none, sum_last, sum-le}
use Rattle.ring.proofs.Fold.{inside}
use Rattle.calls.specs.Ready.{InParts}
use native.Mathlib.Omega.{arith}
use Rattle.calls.proofs.sum_parts.Goals as goal

-- Place k of part t is in the list, and a part is no longer than the list.
reach : {a : List ℕ} {step parts k t : ℕ} → InParts a step parts k → t < parts → (k + t * step < length a) × (step ≤ length a)
reach {step = step} {parts = parts} p h = (omega (arith, p.whole, inside _ _ _ _ p.inside h), omega (arith, p.whole, mul-le-mul_right {m = 1} {n = parts} step (omega arith)))

pub loop-t-init : goal.loop-t-init
loop-t-init c = (omega arith, omega (arith, sum_none))

pub bounds-a-i : goal.bounds-a-i
bounds-a-i c = omega (arith, c.loop-t.invariant.0, reach c.requires c.loop-t-test.true)

pub overflow_add-total : goal.overflow_add-total
overflow_add-total c =
    let word : (j : ℕ) → at c.args.a.now j ≤ 4294967295 = λ j. omega (arith, c.type_inv.a j) in
    let few : c.args.parts ≤ length c.args.a.now = omega (arith, c.requires.whole, mul-le-mul_right {m = 1} {n = c.args.step} c.args.parts (omega (arith, c.requires.inside))) in
    omega (
      arith,
      word c.loop-t.i,
      c.from-total.ensures,
      c.loop-t.invariant.1,
      sum-le c.loop-t._t (λ j. at c.args.a.now (c.args.k + j * c.args.step)) 4294967295 (λ j. word _),
    )

pub overflow_add-i : goal.overflow_add-i
overflow_add-i c = omega (arith, c.loop-t.invariant.0, reach c.requires c.loop-t-test.true)

pub loop-t-preserved : goal.loop-t-preserved
loop-t-preserved c = (omega (arith, c.loop-t.invariant.0), omega (arith, sum_last, c.from-total.ensures, c.loop-t.invariant.1, ap (at c.args.a.now) c.loop-t.invariant.0))
