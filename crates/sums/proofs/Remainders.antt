-- Remainders of products and sums, and the place (k - i) mod n of a list that goes around.
-- Each holds because a multiple of the modulus may be added or taken away. Assumes nothing.
use Prim.Native.Nat.{ℕ, zero, suc, ◌+◌, ◌*◌, ◌-◌, ◌%◌, ◌/◌, ◌≤◌, ◌<◌}
use mathlib.Core.Path.{◌≡◌, sym, ap, ◌∙◌}
use mathlib.Core.Logic.{◌≢◌}
use native.Mathlib.Omega.{arith}
use native.Mathlib.Decide.{dec_le}
use native.Mathlib.Nat.{div-add-mod, div-add-mod', add-mul-mod_self_left, add-mod_right, mod-add-mod, mod-eq_of_lt, mul-le-mul_right, mul-sub, add_comm}

pub mul-mod : (a b m : ℕ) → a * (b % m) % m ≡ a * b % m
mul-mod a b m =
    sym (add-mul-mod_self_left (a * (b % m)) m (a * (b / m))) ∙ ap (λ (x : ℕ). x % m) (omega (arith, ap (λ (x : ℕ). a * x) (div-add-mod b m)))

pub mod_cancel : (m x y z : ℕ) → 0 < m → (x + z) % m ≡ (y + z) % m → x % m ≡ y % m
mod_cancel m x y z p e = sym (back x) ∙ ap (λ (v : ℕ). (v + (m * z - z)) % m) e ∙ back y
  where
    back : (x : ℕ) → ((x + z) % m + (m * z - z)) % m ≡ x % m
    back x = mod-add-mod _ m _ ∙ ap (λ (v : ℕ). v % m) (omega (arith, mul-le-mul_right z p)) ∙ add-mul-mod_self_left x m z

-- Two numbers with one remainder by q differ by a multiple of q.
pub mod_split : (q x y : ℕ) → x % q ≡ y % q → y ≤ x → q * (x / q - y / q) + y ≡ x
mod_split q x y e h = omega (arith, mul-sub q (x / q) (y / q), div-add-mod x q, div-add-mod y q)

-- The place k - i, around n.
pub around_low : (n k i : ℕ) → k < n → i ≤ k → (k + (n - i)) % n ≡ k - i
around_low n k i h l = ap (λ (x : ℕ). x % n) (omega arith) ∙ add-mod_right (k - i) n ∙ mod-eq_of_lt (omega arith)

pub around_high : (n k i : ℕ) → k < i → i ≤ n → (k + (n - i)) % n ≡ k + (n - i)
around_high n k i h l = mod-eq_of_lt (omega arith)

pub around-zero : (n k i : ℕ) → k < n → i < n → i ≢ k → (k + (n - i)) % n ≢ 0
around-zero n k i h l d = elim (dec_le i k) [ yes e ↦ omega (arith, around_low n k i h e) | no e ↦ omega (arith, around_high n k i (omega arith) (omega arith)) ]

-- What repeats every p places is told by the remainder.
pub repeats : (p : ℕ) (f : ℕ → ℕ) → ((x : ℕ) → f (x + p) ≡ f x) → (x : ℕ) → f (x % p) ≡ f x
repeats p f h x = sym (go (x / p) (x % p)) ∙ ap f (add_comm (x % p) (x / p * p) ∙ div-add-mod' x p)
  where
    go : (q r : ℕ) → f (r + q * p) ≡ f r
    go zero r = ap f (omega arith)
    go (suc q) r = ap f (omega arith) ∙ h (r + q * p) ∙ go q r
