-- d is the greatest common divisor of a and b: it divides both, and whatever divides both divides it.
use Rattle.std.specs.Prelude.{ℕ}
use Rattle.std.specs.Int.{◌∣◌}

pub record Gcd (a b d : ℕ) : Type 0 where
  pub left : d ∣ a
  pub right : d ∣ b
  pub greatest : (e : ℕ) → e ∣ a → e ∣ b → e ∣ d
