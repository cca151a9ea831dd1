-- "Entry k of the product of a and b is the sum over i of a_i times b_((k-i) mod n), modulo m." (document 01, Ring, pattern, readings)
-- k - i is written k + (n - i), since i is at most n and numbers are not negative.
use Rattle.std.specs.Prelude.{ℕ, ◌+◌, ◌*◌, ◌-◌, ◌%◌, List}
use Rattle.sums.specs.Sum.{sum}
use Rattle.sums.specs.Table.{at, table}

unfoldable pub mix : ℕ → ℕ → List ℕ → List ℕ → List ℕ
mix n m a b = table n (λ k. sum n (λ i. at a i * at b ((k + (n - i)) % n)) % m)
