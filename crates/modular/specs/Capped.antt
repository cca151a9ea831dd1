-- What the functions of src/factor.rt work with in place of a product that may not fit a word.
use Rattle.std.specs.Prelude.{ℕ, ◌≤◌, ◌<◌, ◌≡◌}

-- r is x, or both are above m.
pub record Capped (m x r : ℕ) : Type 0 where
  pub same : r ≤ m → r ≡ x
  pub over : m < r → m < x
