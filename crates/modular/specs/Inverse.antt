-- The inverse of a number y modulo m: the z from 0 to m-1 with y z equal to 1 modulo m.
use Rattle.std.specs.Prelude.{ℕ, ◌*◌, ◌%◌, ◌<◌, ◌≡◌, Bool, true}
use Rattle.modular.specs.Prime.{Prime}

pub record InverseOf (m y z : ℕ) : Type 0 where
  pub low : z < m
  pub product : y * z % m ≡ 1

-- A number that has an inverse because p is a prime: from 1 to p-1.
pub record Nonzero (p y : ℕ) : Type 0 where
  pub prime : Prime p
  pub some : 0 < y
  pub low : y < p

-- A number from 1 to m-1 whose inverse is sought, modulo an m of which it may be known that it is a prime.
pub record Lead (m y : ℕ) (prime : Bool) : Type 0 where
  pub two : 1 < m
  pub some : 0 < y
  pub low : y < m
  pub known : prime ≡ true → Prime m
