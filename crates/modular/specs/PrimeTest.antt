-- A prime as a test that computes. It is true exactly for primes, by `prime_exactly` in proofs/PrimeTest.antt.
use Rattle.std.specs.Prelude.{ℕ, zero, suc, ◌+◌, ◌-◌, ◌%◌, Bool, true, not, ◌&&◌, eqb, leb}

-- None of the k numbers from 2 up divides p.
unfoldable pub undivided? : ℕ → ℕ → Bool
undivided? p zero = true
undivided? p (suc k) = undivided? p k && not (eqb (p % (k + 2)) 0)

-- 2 or more, and no number from 2 to p - 1 divides it.
unfoldable pub prime? : ℕ → Bool
prime? p = leb 2 p && undivided? p (p - 2)
