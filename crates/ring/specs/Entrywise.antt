-- Sum, difference and multiple of rings, entry by entry modulo m. No contract of a call names them: they state laws.
use Rattle.std.specs.Prelude.{ℕ, ◌+◌, ◌*◌, ◌-◌, ◌%◌, List}
use Rattle.sums.specs.Table.{at, table}

unfoldable pub add : ℕ → ℕ → List ℕ → List ℕ → List ℕ
add n m a b = table n (λ k. (at a k + at b k) % m)

-- (m - b_k % m stands for - b_k)
unfoldable pub sub : ℕ → ℕ → List ℕ → List ℕ → List ℕ
sub n m a b = table n (λ k. (at a k + (m - at b k % m)) % m)

unfoldable pub scale : ℕ → ℕ → ℕ → List ℕ → List ℕ
scale n m c a = table n (λ k. c * at a k % m)
