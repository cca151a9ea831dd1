-- What the loops of this crate ask of their slices.
use Rattle.std.specs.Prelude.{ℕ, ◌*◌, ◌^◌, ◌<◌, ◌≡◌, List, length}
use Rattle.sums.specs.Table.{at}

pub record Reducible (a : List ℕ) (divisor : ℕ) (out : List ℕ) : Type 0 where
  pub modulus : 0 < divisor
  pub room : length out ≡ length a

-- Every entry times the factor is a word of 32 bits.
pub record Multipliable (row : List ℕ) (factor : ℕ) : Type 0 where
  pub fits : (k : ℕ) → factor * at row k < 2 ^ 32
