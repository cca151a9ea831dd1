-- `modular::factor::product` meets its contract. The loop's invariant: x is the product of the first powers, one for each turn, or both are above m.
-- Assumes nothing.
use lib.ListN.{length}
use Rattle.modular.proofs.Running.{Running}
use Rattle.modular.proofs.factor.product.Given as goal

abbrev pub invariant-loop-p : goal.invariant-loop-p
invariant-loop-p l = Running l.m l.primes l.exponents (length l.yielded) l.x
