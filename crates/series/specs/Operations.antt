-- Sum and product of polynomials modulo m, any modulus above 1, and x^n - 1 (document 01, When there is no inverse).
use Rattle.std.specs.Prelude.{ℕ, zero, suc, ◌+◌, ◌*◌, ◌-◌, ◌%◌}
use Rattle.sums.specs.Sum.{sum}
use Rattle.series.specs.Series.{Series}

-- The product, not yet reduced: the coefficient at k is the sum over i of a_i times b_(k-i).
unfoldable pub times : Series → Series → Series
times a b = λ k. sum (suc k) (λ i. a i * b (k - i))

unfoldable pub red : ℕ → Series → Series
red m a = λ k. a k % m

unfoldable pub add : ℕ → Series → Series → Series
add m a b = λ k. (a k + b k) % m

unfoldable pub mul : ℕ → Series → Series → Series
mul m a b = λ k. times a b k % m

unfoldable pub zeros : Series
zeros = λ k. 0

-- c x^j.
unfoldable pub term : ℕ → ℕ → Series
term c zero zero = c
term c zero (suc k) = 0
term c (suc j) zero = 0
term c (suc j) (suc k) = term c j k

abbrev pub one : Series
one = term 1 0

-- (low + high x) x^j.
unfoldable pub linear : ℕ → ℕ → ℕ → Series
linear low high j = λ k. term low j k + term high (suc j) k

-- x^n - 1.
unfoldable pub xn_minus_one : ℕ → ℕ → Series
xn_minus_one n m = add m (term 1 n) (term (m - 1) 0)
