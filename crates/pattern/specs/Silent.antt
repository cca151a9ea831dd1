-- "A ghost: counts, not all zero modulo m, whose readings are all zero" (demand 2). That what invert writes with SINGULAR is such a ring is `invert_ghost`
-- in proofs/Demand2.antt.
use Rattle.std.specs.Prelude.{ℕ, ◌%◌, ◌<◌, ◌≡◌, ◌≢◌, List}
use Rattle.sums.specs.Table.{at}
use Rattle.ring.specs.Ring.{Ring}
use Rattle.ring.specs.Mix.{mix}
use Rattle.ring.specs.One.{zeros}

pub record Silent (n m : ℕ) (f c : List ℕ) : Type 0 where
  pub ring : Ring n m c
  pub place : ℕ
  pub inside : place < n
  pub some : at c place % m ≢ 0
  pub silent : mix n m f c ≡ zeros n
