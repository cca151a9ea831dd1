-- "A prime p of m is singular for f when f and x^n - 1 share a factor of degree 1 or more in polynomials modulo p." (document 01, When there is no
-- inverse) The factor is shown with both quotients, and all three are polynomials.
use Rattle.std.specs.Prelude.{ℕ, suc, ◌≤◌, ◌%◌, ◌≡◌, ◌≢◌}
use Rattle.series.specs.Series.{Series, Below, Polynomial}
use Rattle.series.specs.Operations.{red, mul, xn_minus_one}

-- A shared factor of degree d.
pub record SharedFactor (n p : ℕ) (f : Series) (d : ℕ) : Type 0 where
  pub factor : Series
  pub below : Below (suc d) factor
  pub lead : factor d % p ≢ 0
  pub quotient : Series
  pub poly : Polynomial quotient
  pub divides : red p f ≡ mul p factor quotient
  pub rest : Series
  pub poly' : Polynomial rest
  pub divides' : xn_minus_one n p ≡ mul p factor rest

pub record Singular (n p : ℕ) (f : Series) : Type 0 where
  pub degree : ℕ
  pub high : 1 ≤ degree
  pub shared : SharedFactor n p f degree
