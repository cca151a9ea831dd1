-- `lift::lift` meets its contract: before round t the inverse is right modulo p^min(2^t, k), and the rounds are the smallest count with which that
-- is p^k. Assumes nothing.
use mathlib.Core.Path.{◌≡◌}
use Prim.Native.Nat.{◌^◌}
use lib.ListN.{length}
use Rattle.ring.specs.Inverse.{Inverse}
use Rattle.lift.proofs.Lifting.{reached}
use Rattle.lift.proofs.lift.Given as goal

abbrev pub invariant-loop-t : goal.invariant-loop-t
invariant-loop-t l = (l.q ≡ l.power.prime ^ reached l.power.exponent l._t) × Inverse (length l.f) (l.power.prime ^ reached l.power.exponent l._t) l.f l.g
