-- Polynomials modulo p as functions from places to numbers: the coefficient of x^k stands at place k. "It stands for the polynomial whose
-- x^i coefficient is entry i." (document 01, Ring, pattern, readings)
use Rattle.std.specs.Prelude.{ℕ, ◌-◌, ◌≤◌, ◌<◌, ◌≡◌}

abbrev pub Series : Type 0
Series = ℕ → ℕ

-- Every coefficient from place D on is 0.
unfoldable pub Below : ℕ → Series → Type 0
Below D a = (k : ℕ) → D ≤ k → a k ≡ 0

-- A polynomial is 0 from some place on.
pub record Polynomial (a : Series) : Type 0 where
  pub bound : ℕ
  pub below : Below bound a

-- "Coefficients 0 to p-1" (document 01, When there is no inverse).
unfoldable pub Reduced : ℕ → Series → Type 0
Reduced p a = (k : ℕ) → a k < p

-- l is the number of coefficients of a: the last of them is not 0.
pub record Length (a : Series) (l : ℕ) : Type 0 where
  pub below : Below l a
  pub top : 0 < l → 0 < a (l - 1)
