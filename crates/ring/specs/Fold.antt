-- "Entry k is the sum modulo m of all entries whose place is k modulo n'." (document 01, The calls, Fold)
-- The sum goes over all n places and counts an entry where its place fits.
use Rattle.std.specs.Prelude.{ℕ, ◌%◌, cond, List, eqb}
use Rattle.sums.specs.Sum.{sum}
use Rattle.sums.specs.Table.{at, table}

unfoldable pub fold : ℕ → ℕ → ℕ → List ℕ → List ℕ
fold n n' m a = table n' (λ k. sum n (λ i. cond (eqb (i % n') k) (at a i) 0) % m)
