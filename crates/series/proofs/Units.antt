-- A number has an inverse exactly if it is a unit, and modulo a prime every number that is not 0 is one. Assumes nothing.
use Prim.Native.Nat.{ℕ, ◌*◌, ◌%◌, ◌<◌}
use mathlib.Core.Path.{◌≡◌, sym, ◌∙◌, ap}
use native.Mathlib.Omega.{arith}
use native.Mathlib.Nat.{mod-lt, mod-eq_of_lt}
use Rattle.sums.proofs.Remainders.{mul-mod}
use Rattle.modular.specs.Inverse.{InverseOf, Nonzero}
use Rattle.modular.proofs.Divisions.{prime_inverse}

pub inverse_unit : {m y z : ℕ} → 1 < m → InverseOf m y z → z * y % m ≡ 1 % m
inverse_unit {m} {y} {z} two i = ap (λ (x : ℕ). x % m) {x = z * y} {y = y * z} (omega arith) ∙ i.product ∙ sym (mod-eq_of_lt two)

pub unit_inverse : {m y : ℕ} → 1 < m → (z : ℕ) → z * y % m ≡ 1 % m → InverseOf m y (z % m)
unit_inverse {m} {y} two z u = record { low = mod-lt z (omega arith); product = mul-mod y z m ∙ ap (λ (x : ℕ). x % m) {x = y * z} {y = z * y} (omega arith) ∙ u ∙ mod-eq_of_lt two }

pub unit : (p y : ℕ) → Nonzero p y → (z : ℕ) × (z * y % p ≡ 1 % p)
unit p y h = let w = prime_inverse p y h in (w.0, inverse_unit h.prime.two w.1)
