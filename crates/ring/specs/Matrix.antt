-- "In 000's matrices (entry i,j is a_(j-i)) this is the row of counts times the matrix, and not the matrix times a column."
-- (document 01, Ring, pattern, readings) The theorem that mixing is the former is `mix-row` in proofs/Matrix.antt.
use Rattle.std.specs.Prelude.{ℕ, ◌+◌, ◌*◌, ◌-◌, ◌%◌, List}
use Rattle.sums.specs.Sum.{sum}
use Rattle.sums.specs.Table.{at, table}

-- Entry i,j of 000's circulant matrix of a; j - i goes around n.
abbrev pub circulant : ℕ → List ℕ → ℕ → ℕ → ℕ
circulant n a i j = at a ((j + (n - i)) % n)

-- The row c times the matrix A, modulo m.
unfoldable pub row_times : ℕ → ℕ → List ℕ → (ℕ → ℕ → ℕ) → List ℕ
row_times n m c A = table n (λ j. sum n (λ i. at c i * A i j) % m)
