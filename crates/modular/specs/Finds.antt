-- What is found where the inverse of y modulo m is sought: the inverse, or the factor above 1 that y and m share.
use Rattle.std.specs.Prelude.{ℕ, ◌<◌, ◌≡◌, ◌↔◌, Result, Ok, Err}
use Rattle.modular.specs.Inverse.{InverseOf}
use Rattle.modular.specs.Gcd.{Gcd}
use Rattle.modular.specs.declared.inverse.Shares.{Shares}

pub record Shared (m y d : ℕ) : Type 0 where
  pub above : 1 < d
  pub gcd : Gcd y m d

pub record Finds (m y : ℕ) (r : Result ℕ Shares) : Type 0 where
  pub inverse : (z : ℕ) → (r ≡ Ok z) ↔ InverseOf m y z
  pub shares : (d : ℕ) → (r ≡ Err (record { divisor = d })) ↔ Shared m y d
