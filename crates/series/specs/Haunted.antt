-- What there is in place of an inverse: the shared factor's degree d, 1 or more, and the ghost w, whose degree is n - d. "Its degree is below n."
-- (document 01, When there is no inverse)
use Rattle.std.specs.Prelude.{ℕ, ◌-◌, ◌≤◌}
use Rattle.series.specs.Series.{Series}
use Rattle.series.specs.SharedFactor.{SharedFactor}
use Rattle.series.specs.Ghost.{Ghost}

pub record Haunted (n p : ℕ) (f : Series) (d : ℕ) (w : Series) : Type 0 where
  pub high : 1 ≤ d
  pub most : d ≤ n
  pub shared : SharedFactor n p f d
  pub ghost : Ghost n p f (n - d) w
