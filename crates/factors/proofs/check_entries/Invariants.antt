-- `factors::check_entries`: the entries passed are right, so those that are left decide, after the last prime passed. Assumes nothing.
use mathlib.Core.Path.{◌≡◌}
use lib.ListN.{length, drop}
use Rattle.answer.specs.First.{first}
use Rattle.checks.specs.Factors.{entries_order}
use Rattle.factors.proofs.check_entries.Given as goal

abbrev pub invariant-loop-i : goal.invariant-loop-i
invariant-loop-i l =
    (goal.iterator-loop-i).can_next l.i-iterator
    × (goal.iterator-loop-i).is_finite l.i-iterator
    × (first (entries_order 0 0 l.primes l.exponents) ≡ first (entries_order l.before (length l.yielded) (drop (length l.yielded) l.primes) (drop (length l.yielded) l.exponents)))
