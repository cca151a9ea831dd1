-- "A prime p of m is singular for f when ..", "p is the smallest singular prime" (document 01, When there is no inverse): a prime of m, singular for f,
-- and no smaller prime of m is.
use Rattle.std.specs.Prelude.{ℕ, ◌<◌, List}
use Rattle.std.specs.Int.{◌∣◌}
use Rattle.modular.specs.Prime.{Prime}
use Rattle.pattern.specs.Singular.{Singular}

pub record Smallest (n m : ℕ) (f : List ℕ) (p : ℕ) : Type 0 where
  pub prime : Prime p
  pub divides : p ∣ m
  pub singular : Singular n p f
  pub least : (q : ℕ) → Prime q → q ∣ m → q < p → ¬ Singular n q f
