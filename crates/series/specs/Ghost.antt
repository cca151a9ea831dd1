-- "w the monic polynomial of least degree with f times w zero modulo x^n - 1 and p, coefficients 0 to p-1." (document 01, When there is no inverse)
-- Its degree is e. Of least degree: a v of smaller degree with f times v zero is zero.
use Rattle.std.specs.Prelude.{ℕ, suc, ◌≡◌}
use Rattle.series.specs.Series.{Series, Below, Reduced}
use Rattle.series.specs.Operations.{red, mul, zeros}
use Rattle.series.specs.Congruent.{Congruent}

pub record Ghost (n p : ℕ) (f : Series) (e : ℕ) (w : Series) : Type 0 where
  pub reduced : Reduced p w
  pub below : Below (suc e) w
  pub monic : w e ≡ 1
  pub zero : Congruent n p (mul p f w) zeros
  pub least : (v : Series) → Below e v → Congruent n p (mul p f v) zeros → red p v ≡ zeros
