-- Mixing is the row of counts times 000's circulant matrix of the pattern: both are the same sum, since mixing commutes.
-- Assumes nothing.
use Prim.Native.Nat.{ℕ}
use mathlib.Core.Path.{◌≡◌}
use mathlib.Core.List.{List}
use Rattle.ring.specs.Mix.{mix}
use Rattle.ring.specs.Matrix.{circulant, row_times}
use Rattle.ring.proofs.Product.{mix_comm}

pub mix-row : (n m : ℕ) (a c : List ℕ) → mix n m a c ≡ row_times n m c (circulant n a)
unfolding mix row_times
mix-row n m a c = mix_comm n m a c
