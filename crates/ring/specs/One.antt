-- The polynomials 1 and 0 as rings: [1, 0, .., 0] and [0, .., 0]. Modulo 1 both are [0, .., 0].
use Rattle.std.specs.Prelude.{ℕ, zero, suc, ◌%◌, List}
use Rattle.sums.specs.Table.{table}

-- The coefficient of x^k in the polynomial 1.
abbrev pub first : ℕ → ℕ
first zero = 1
first (suc k) = 0

unfoldable pub one : ℕ → ℕ → List ℕ
one n m = table n (λ k. first k % m)

unfoldable pub zeros : ℕ → List ℕ
zeros n = table n (λ _. 0)
