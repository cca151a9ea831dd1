-- "Primes" (document 01, Ring, pattern, readings): 2 or more, and only 1 and the number itself divide it.
use Rattle.std.specs.Prelude.{ℕ, ◌≤◌, ◌≡◌, ◌⊎◌, Bool, true}
use Rattle.std.specs.Int.{◌∣◌}

pub record Prime (p : ℕ) : Type 0 where
  pub two : 2 ≤ p
  pub only : (d : ℕ) → d ∣ p → (d ≡ 1) ⊎ (d ≡ p)

-- r tells whether p is a prime.
pub record TellsPrime (p : ℕ) (r : Bool) : Type 0 where
  pub is : r ≡ true → Prime p
  pub told : Prime p → r ≡ true
