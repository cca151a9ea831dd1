-- `invert::solve`: after so many turns the output is the inverse of f modulo the product of the first powers, one for each turn. Assumes nothing.
use mathlib.Core.Path.{◌≡◌}
use lib.ListN.{length}
use Rattle.ring.specs.Inverse.{Inverse}
use Rattle.pattern.proofs.FirstPowers.{first-powers}
use Rattle.invert.proofs.solve.Given as goal

abbrev pub invariant-loop-p : goal.invariant-loop-p
invariant-loop-p l =
    (goal.iterator-loop-p).can_next l.p-iterator
    × (goal.iterator-loop-p).is_finite l.p-iterator
    × (l.big ≡ first-powers l.m.primes.now l.m.exponents.now (length l.yielded))
    × Inverse (length l.f) l.big l.f l.out
