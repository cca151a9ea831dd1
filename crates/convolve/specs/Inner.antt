-- What the functions behind `convolve` ask of their callers.
use Rattle.std.specs.Prelude.{ℕ, ◌+◌, ◌*◌, ◌≤◌, ◌<◌, ◌≡◌, List, length}
use Rattle.limits.specs.Limits.{most_entries, most_modulus}
use Rattle.along.specs.Asks.{Low}
use Rattle.convolve.specs.Mixable.{Mixable}

-- d goes around twice, and three places further, so that four sums can start at every place of x.
pub record Rows (x d : List ℕ) (m : ℕ) (out : List ℕ) : Type 0 where
  pub twice : length d ≡ length x + length x + 3
  pub same : length out ≡ length x
  pub low_x : Low x
  pub low_d : Low d
  pub positive : 0 < m
  pub limit : m ≤ most_modulus

-- b is not empty, and d holds it at least once.
pub record HoldsOnce (b d : List ℕ) : Type 0 where
  pub least : 1 ≤ length b
  pub room : length b ≤ length d

-- N words have room for a, and D for b around twice and three places further.
pub record RoomForBoth (N D : ℕ) (a b : List ℕ) (m : ℕ) (out : List ℕ) : Type 0 where
  pub mixable : Mixable a b m out
  pub room : length a ≤ N
  pub small : N ≤ most_entries
  pub twice : D ≡ 2 * N + 3
