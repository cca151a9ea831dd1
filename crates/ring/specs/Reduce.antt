-- "Each entry becomes its remainder by m'." (document 01, The calls, Reduce) The first n entries of any list are taken.
use Rattle.std.specs.Prelude.{ℕ, ◌%◌, List}
use Rattle.sums.specs.Table.{at, table}

unfoldable pub reduce : ℕ → ℕ → List ℕ → List ℕ
reduce n m a = table n (λ k. at a k % m)
