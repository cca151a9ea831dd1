-- `modular::factor::times_power` meets its contract. The loop's invariant: the product is x p^k; it is at most m where it is multiplied, so it fits.
-- Assumes nothing.
use Prim.Native.Nat.{◌*◌, ◌^◌}
use mathlib.Core.Path.{◌≡◌}
use Rattle.modular.proofs.factor.times_power.Given as goal

abbrev pub invariant-loop-k : goal.invariant-loop-k
invariant-loop-k l = l.product ≡ l.x * l.p ^ l._k
