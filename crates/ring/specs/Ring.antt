-- "A ring is n whole numbers, entry 0 to entry n-1, each from 0 to m-1." (document 01, Ring, pattern, readings)
use Rattle.std.specs.Prelude.{ℕ, ◌<◌, ◌≡◌, List, length}
use Rattle.sums.specs.Table.{at}

pub record Ring (n m : ℕ) (l : List ℕ) : Type 0 where
  pub long : length l ≡ n
  pub low : (i : ℕ) → i < n → at l i < m
