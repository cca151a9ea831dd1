-- The sum that slides along a row.
use Rattle.std.specs.Prelude.{ℕ, ◌+◌, ◌*◌, List, length}
use Rattle.sums.specs.Sum.{sum}
use Rattle.sums.specs.Table.{at}

-- x times the part of c that starts at j: the product at i, and the sum over all i.
abbrev pub term : List ℕ → List ℕ → ℕ → ℕ → ℕ
term x c j i = at x i * at c (i + j)

abbrev pub along : List ℕ → List ℕ → ℕ → ℕ
along x c j = sum (length x) (term x c j)
