-- `modular::prime::is_prime` meets its contract. The loop's invariant: d is odd, nothing from 2 to below d divides p, and q is p over d. Assumes nothing.
use Prim.Native.Nat.{◌/◌, ◌%◌}
use mathlib.Core.Path.{◌≡◌}
use Rattle.modular.proofs.Trial.{Free}
use Rattle.modular.proofs.prime.is_prime.Given as goal

abbrev pub invariant-loop-d : goal.invariant-loop-d
invariant-loop-d l = (l.d % 2 ≡ 1) × Free l.p l.d × (l.q ≡ l.p / l.d)
