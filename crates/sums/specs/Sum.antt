-- The sum of f 0, f 1, .. f (n - 1): "the sum over i" of document 01.
use Rattle.std.specs.Prelude.{ℕ, zero, suc, ◌+◌}

unfoldable pub sum : ℕ → (ℕ → ℕ) → ℕ
sum zero f = 0
sum (suc n) f = sum n f + f n
