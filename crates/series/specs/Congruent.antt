-- a and b are equal "modulo x^n - 1 and p" (document 01, When there is no inverse): a is b and a multiple of x^n - 1. The multiple is by a
-- polynomial: among series x^n - 1 divides everything.
use Rattle.std.specs.Prelude.{ℕ, ◌≡◌}
use Rattle.series.specs.Series.{Series, Polynomial}
use Rattle.series.specs.Operations.{red, add, mul, xn_minus_one}

pub record Congruent (n p : ℕ) (a b : Series) : Type 0 where
  pub by : Series
  pub poly : Polynomial by
  pub sum : red p a ≡ add p b (mul p (xn_minus_one n p) by)
