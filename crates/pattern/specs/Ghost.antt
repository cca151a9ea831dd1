-- "The ghost is w with each coefficient times m/p." (document 01, When there is no inverse)
use Rattle.std.specs.Prelude.{ℕ, ◌*◌, ◌/◌, ◌≡◌, List}
use Rattle.sums.specs.Table.{at, table}
use Rattle.pattern.specs.GhostPolynomial.{GhostPolynomial}

pub record Ghost (n m : ℕ) (f : List ℕ) (p : ℕ) (ghost : List ℕ) : Type 0 where
  pub w : List ℕ
  pub polynomial : GhostPolynomial n p f w
  pub times : ghost ≡ table n (λ k. m / p * at w k)
