-- Numbers modulo m beyond those of crate sums: a remainder inside a product or a sum changes nothing, and a unit times b is 0 only if b is.
-- Assumes nothing.
use Prim.Native.Nat.{ℕ, suc, ◌+◌, ◌*◌, ◌-◌, ◌%◌, ◌<◌}
use mathlib.Core.Path.{◌≡◌, sym, ◌∙◌, ap}
use native.Mathlib.Omega.{arith}
use native.Mathlib.Nat.{mod-add-mod, add-mod-mod, mul-mod_left, mul-zero, zero-mod}
use Rattle.sums.proofs.Remainders.{mul-mod}

pub mod-mul : (a b m : ℕ) → a % m * b % m ≡ a * b % m
mod-mul a b m = ap (λ (x : ℕ). x % m) {x = a % m * b} {y = b * (a % m)} (omega arith) ∙ mul-mod b a m ∙ ap (λ (x : ℕ). x % m) {x = b * a} {y = a * b} (omega arith)

pub add-mod-eq : (m a a' b b' : ℕ) → a % m ≡ a' % m → b % m ≡ b' % m → (a + b) % m ≡ (a' + b') % m
add-mod-eq m a a' b b' h k =
    sym (mod-add-mod a m b) ∙ ap (λ (x : ℕ). (x + b) % m) h ∙ mod-add-mod a' m b ∙ sym (add-mod-mod a' b m) ∙ ap (λ (x : ℕ). (a' + x) % m) k ∙ add-mod-mod a' b' m

-- Both summands reduced first.
pub add_mods : (m a b : ℕ) → (a % m + b % m) % m ≡ (a + b) % m
add_mods m a b = mod-add-mod a m (b % m) ∙ add-mod-mod a b m

pub mul-mod-zero : (m c b : ℕ) → b % m ≡ 0 → c * b % m ≡ 0
mul-mod-zero m c b h = sym (mul-mod c b m) ∙ ap (λ (x : ℕ). c * x % m) h ∙ ap (λ (x : ℕ). x % m) (mul-zero c) ∙ zero-mod m

pub unit_zero : (m c z b : ℕ) → z * c % m ≡ 1 % m → c * b % m ≡ 0 → b % m ≡ 0
unit_zero m c z b u h =
    ap (λ (x : ℕ). x % m) {x = b} {y = 1 * b} (omega arith) ∙ sym (mod-mul 1 b m) ∙ ap (λ (x : ℕ). x * b % m) (sym u) ∙ mod-mul (z * c) b m
    ∙ ap (λ (x : ℕ). x % m) {x = z * c * b} {y = z * (c * b)} (omega arith) ∙ mul-mod-zero m z (c * b) h

-- x and m - 1 times x make 0.
pub add_minus : (m x : ℕ) → 0 < m → (x + (m - 1) * x) % m ≡ 0
add_minus m x h = ap (λ (y : ℕ). y % m) (omega (arith, ap (λ (y : ℕ). x * y) q)) ∙ mul-mod_left x m
  where
    q : m ≡ suc (m - 1)
    q = omega arith
