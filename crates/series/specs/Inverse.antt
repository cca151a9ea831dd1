-- "The g with f times g equal to 1 modulo x^n - 1 and m" (demand 2), for a prime p in place of m.
use Rattle.std.specs.Prelude.{ℕ}
use Rattle.series.specs.Series.{Series, Polynomial}
use Rattle.series.specs.Operations.{mul, one}
use Rattle.series.specs.Congruent.{Congruent}

pub record Inverse (n p : ℕ) (f g : Series) : Type 0 where
  pub poly : Polynomial g
  pub product : Congruent n p (mul p f g) one

-- f has an inverse.
pub record Invertible (n p : ℕ) (f : Series) : Type 0 where
  pub inverse : Series
  pub is : Inverse n p f inverse
