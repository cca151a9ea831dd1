-- s is near 2^32 t / p: its whole part by 2^32, times p, is at most t, and less than twice p short. So x + t less that much is below 3 p.
use Rattle.std.specs.Prelude.{ℕ, ◌+◌, ◌*◌, ◌/◌, ◌^◌, ◌≤◌, ◌<◌, ◌≡◌}
use Rattle.rows.specs.Row.{most_row_modulus}

pub record Near (x t s p : ℕ) : Type 0 where
  pub modulus : p ≤ most_row_modulus
  pub low : x < p
  pub under : s / 2 ^ 32 * p ≤ t
  pub over : t < s / 2 ^ 32 * p + 2 * p

-- What one entry of a row asks: its numbers below p.
pub record Entry (p x y : ℕ) : Type 0 where
  pub modulus : p ≤ most_row_modulus
  pub onto : x < p
  pub from : y < p

-- The same of two entries, whose factors have the moduli p and q.
pub record TwoEntries (p q x y z : ℕ) : Type 0 where
  pub first : Entry p x y
  pub same : q ≡ p
  pub second : z < p
