-- A prime that divides a product divides one of its factors, since what it does not divide has an inverse modulo it. Assumes nothing.
use Prim.Native.Nat.{ℕ, zero, suc, ◌*◌, ◌%◌, ◌^◌}
use mathlib.Core.Path.{◌≡◌, sym, ap, ◌∙◌}
use mathlib.Core.Logic.{◌≢◌, ⊎_elim}
use native.Mathlib.Omega.{arith}
use native.Mathlib.Nat.{mod-lt, mod-eq_of_lt, mul-one, mul-zero, zero-mod, pow-zero, pow-suc, dvd_of_mod-eq-zero}
use Rattle.sums.proofs.Remainders.{mul-mod}
use Rattle.modular.specs.Prime.{Prime}
use Rattle.modular.proofs.Divisions.{prime_inverse}

pub prime_mul : (q a b : ℕ) → Prime q → a % q ≢ 0 → a * b % q ≡ 0 → b % q ≡ 0
prime_mul q a b pr h e =
    let w = prime_inverse q (a % q) (record { prime = pr; some = omega arith; low = mod-lt a (omega (arith, pr.two)) }) in
    through w.0 w.1.product
  where
    -- b = b (a z) = z (a b) = 0 modulo q.
    through : (z : ℕ) → a % q * z % q ≡ 1 → b % q ≡ 0
    through z i =
        ap (λ (x : ℕ). x % q) (sym (mul-one b)) ∙ ap (λ (x : ℕ). b * x % q) (sym i) ∙ mul-mod b (a % q * z) q ∙ ap (λ (x : ℕ). x % q) (omega arith)
        ∙ mul-mod (b * z) a q ∙ ap (λ (x : ℕ). x % q) (omega arith) ∙ sym (mul-mod z (a * b) q) ∙ ap (λ (x : ℕ). z * x % q) e ∙ ap (λ (x : ℕ). x % q) (mul-zero z)
        ∙ zero-mod q

pub prime_pow : (q p e : ℕ) → Prime q → p % q ≢ 0 → p ^ e % q ≢ 0
prime_pow q p zero pr h z = omega (arith, z, ap (λ (x : ℕ). x % q) (pow-zero p), mod-eq_of_lt pr.two)
prime_pow q p (suc e) pr h z = h (prime_mul q (p ^ e) p pr (prime_pow q p e pr h) (ap (λ (x : ℕ). x % q) (sym (pow-suc p e)) ∙ z))

pub prime_prime : (q p : ℕ) → Prime q → Prime p → q ≢ p → p % q ≢ 0
prime_prime q p pq pp h z = ⊎_elim (λ (e : q ≡ 1). omega (arith, pq.two)) h (pp.only q (dvd_of_mod-eq-zero q z))
