-- What the loops of fold ask of their arguments.
use Rattle.std.specs.Prelude.{ℕ, ◌*◌, ◌≤◌, ◌<◌, ◌≡◌, List, length}
use Rattle.std.specs.Int.{◌∣◌}
use Rattle.limits.specs.Limits.{most_entries}

pub record Foldable (a : List ℕ) (m : ℕ) (out : List ℕ) : Type 0 where
  pub modulus : 0 < m
  pub few : length a ≤ most_entries
  pub some : 0 < length out
  pub onto : length out ∣ length a

-- Place k in each of the parts that a is made of, one after the other, each `step` long.
pub record InParts (a : List ℕ) (step parts k : ℕ) : Type 0 where
  pub few : length a ≤ most_entries
  pub whole : parts * step ≡ length a
  pub inside : k < step
