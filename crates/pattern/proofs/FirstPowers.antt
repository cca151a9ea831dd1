-- The product of the first i powers of a factor list: what the inverses are joined modulo, one power after the other, until it is m.
-- It is never a multiple of the prime that comes next, so that prime's powers share no factor with it. Assumes nothing.
use Rattle.std.specs.Prelude.{Result, Ok, Err}
use Prim.Native.Nat.{ℕ, zero, suc, ◌+◌, ◌*◌, ◌%◌, ◌/◌, ◌^◌, ◌≤◌, ◌<◌, ◌∣◌}
use mathlib.Core.Path.{◌≡◌, refl, sym, ap, ◌∙◌, subst}
use mathlib.Core.Logic.{◌≢◌}
use mathlib.Core.List.{List, [], ◌∷◌}
use native.Mathlib.Omega.{arith}
use native.Mathlib.Decide.{ℕ_discrete}
use native.Mathlib.Numerals.{add-one}
use native.Mathlib.Nat.{mod-eq_of_lt, mod-eq-zero_of_dvd, dvd_of_mod-eq-zero, dvd-mul_right, dvd-mul_left_of_dvd, mul_assoc, mul-pos, mul-le-mul, mul-mod_left, mul-div_cancel, div-mul_cancel, one-le-pow, pow-zero, pow-suc, eq-one_of_dvd-one, dvd_trans}
use lib.ListN.{length, take}
use lib.Seq.{take-length}
use Rattle.sums.specs.Table.{at}
use Rattle.modular.specs.Prime.{Prime}
use Rattle.modular.specs.Inverse.{InverseOf}
use Rattle.modular.specs.Finds.{Shared, Finds}
use Rattle.modular.specs.FactorList.{Rising, powers, FactorList}
use Rattle.modular.specs.declared.inverse.Shares.{Shares}
use Rattle.modular.proofs.Divisions.{found}
use Rattle.modular.proofs.Primes.{prime_mul, prime_pow, prime_prime}
use Rattle.modular.proofs.Factors.{head_divides, rising_same, rising_order, powers_some, listed}

abbrev pub first-powers : List ℕ → List ℕ → ℕ → ℕ
first-powers ps es i = powers (take i ps) (take i es)

-- ---- along the list

rising_next : (before : ℕ) (ps es : List ℕ) → Rising before ps es → (i : ℕ) → i < length ps → first-powers ps es (suc i) ≡ first-powers ps es i * at ps i ^ at es i
rising_next before [] es r i h = absurd (omega arith)
rising_next before (p ∷ ps) [] r i h = absurd r
rising_next before (p ∷ ps) (e ∷ es) r zero h = omega arith
rising_next before (p ∷ ps) (e ∷ es) r (suc i) h = ap (λ (x : ℕ). p ^ e * x) (rising_next p ps es r.1 i (omega arith)) ∙ sym (mul_assoc (p ^ e) (first-powers ps es i) (at ps i ^ at es i))

rising_some : (before : ℕ) (ps es : List ℕ) → Rising before ps es → (i : ℕ) → 0 < first-powers ps es i
rising_some before ps es r zero = omega arith
rising_some before [] es r (suc i) = omega arith
rising_some before (p ∷ ps) [] r (suc i) = omega arith
rising_some before (p ∷ ps) (e ∷ es) r (suc i) = mul-pos (one-le-pow e p (omega (arith, r.0.above))) (rising_some p ps es r.1 i)

rising_low : (before : ℕ) (ps es : List ℕ) → Rising before ps es → (i : ℕ) → first-powers ps es i ≤ powers ps es
rising_low before ps es r zero = powers_some before ps es r
rising_low before [] [] r (suc i) = omega arith
rising_low before [] (e ∷ es) r (suc i) = absurd r
rising_low before (p ∷ ps) [] r (suc i) = absurd r
rising_low before (p ∷ ps) (e ∷ es) r (suc i) = mul-le-mul {n₁ = p ^ e} {n₂ = p ^ e} (omega arith) (rising_low p ps es r.1 i)

rising_divides : (before : ℕ) (ps es : List ℕ) → Rising before ps es → (i j : ℕ) → j < i → j < length ps → at ps j ∣ first-powers ps es i
rising_divides before ps es r zero j l h = absurd (omega arith)
rising_divides before [] es r (suc i) j l h = absurd (omega arith)
rising_divides before (p ∷ ps) [] r (suc i) j l h = absurd r
rising_divides before (p ∷ ps) (e ∷ es) r (suc i) zero l h = dvd_of_mod-eq-zero p (head_divides p e (first-powers ps es i) r.0.exponent)
rising_divides before (p ∷ ps) (e ∷ es) r (suc i) (suc j) l h = dvd-mul_left_of_dvd (at ps j) (rising_divides p ps es r.1 i j (omega arith) (omega arith)) (p ^ e)

-- A prime above the first i primes does not divide the product of their powers.
rising_apart : (before q : ℕ) (ps es : List ℕ) → Rising before ps es → Prime q → (i : ℕ) → ((j : ℕ) → j < i → j < length ps → at ps j < q) → first-powers ps es i % q ≢ 0
rising_apart before q ps es r pr zero h z = omega (arith, z, mod-eq_of_lt pr.two)
rising_apart before q [] es r pr (suc i) h z = omega (arith, z, mod-eq_of_lt pr.two)
rising_apart before q (p ∷ ps) [] r pr (suc i) h z = omega (arith, z, mod-eq_of_lt pr.two)
rising_apart before q (p ∷ ps) (e ∷ es) r pr (suc i) h z =
    rising_apart p q ps es r.1 pr i (λ j a b. h (suc j) (omega arith) (omega arith))
    (prime_mul q (p ^ e) (first-powers ps es i) pr (prime_pow q p e pr (prime_prime q p pr r.0.prime (λ s. omega (arith, h 0 (omega arith) (omega arith))))) z)

module _ {m : ℕ} {ps es : List ℕ} (f : FactorList m ps es) where
  pub first_next : (i : ℕ) → i < length ps → first-powers ps es (i + 1) ≡ first-powers ps es i * at ps i ^ at es i
  first_next i h = rw (add-one i) (rising_next 0 ps es f.rising i h)

  pub first_all : first-powers ps es (length ps) ≡ m
  first_all = ap (λ (l : List ℕ). powers l (take (length ps) es)) (take-length ps) ∙ ap (λ (k : ℕ). powers ps (take k es)) (rising_same 0 ps es f.rising) ∙ ap (powers ps) (take-length es) ∙ f.product

  pub first_some : (i : ℕ) → 0 < first-powers ps es i
  first_some = rising_some 0 ps es f.rising

  pub first_low : (i : ℕ) → first-powers ps es i ≤ m
  first_low i = omega (arith, rising_low 0 ps es f.rising i, f.product)

  pub first_divides : (i j : ℕ) → j < i → j < length ps → at ps j ∣ first-powers ps es i
  first_divides = rising_divides 0 ps es f.rising

  pub first_apart : (i : ℕ) → i < length ps → first-powers ps es i % at ps i ≢ 0
  first_apart i h = rising_apart 0 (at ps i) ps es f.rising (listed f i h).prime i (λ j a b. rising_order 0 ps es f.rising j i a h)

-- ---- no shared factor

-- A divisor of p^k that p does not divide is 1.
power_divisor : (p k d c : ℕ) → Prime p → d % p ≢ 0 → d * c ≡ p ^ k → d ≡ 1
power_divisor p zero d c pr h e = eq-one_of_dvd-one (subst (λ (x : ℕ). d ∣ x) (e ∙ pow-zero p) (dvd-mul_right d c))
power_divisor p (suc k) d c pr h e = power_divisor p k d (c / p) pr h (cancel (mul_assoc d (c / p) p ∙ ap (λ (x : ℕ). d * x) whole ∙ e ∙ pow-suc p k))
  where
    cancel : {x y : ℕ} → x * p ≡ y * p → x ≡ y
    cancel {x} {y} q = sym (mul-div_cancel x (omega (arith, pr.two))) ∙ ap (λ (z : ℕ). z / p) q ∙ mul-div_cancel y (omega (arith, pr.two))

    whole : c / p * p ≡ c
    whole = div-mul_cancel p (dvd_of_mod-eq-zero p (prime_mul p d c pr h (ap (λ (x : ℕ). x % p) (e ∙ pow-suc p k) ∙ mul-mod_left (p ^ k) p)))

-- A power of p shares no factor with what p does not divide.
pub power_shares : (p k y : ℕ) {d : ℕ} → Prime p → y % p ≢ 0 → Shared (p ^ k) y d → ⊥
power_shares p k y {d} pr h s = elim (ℕ_discrete (d % p) 0) [
  | yes z ↦ h (mod-eq-zero_of_dvd p (dvd_trans p (dvd_of_mod-eq-zero p z) s.gcd.left))
  | no z ↦ omega (arith, s.above, power_divisor p k d (p ^ k / d) pr z (omega (arith, div-mul_cancel d s.gcd.right)))
]

pub power_inverse : (p k y : ℕ) → Prime p → y % p ≢ 0 → 1 < p ^ k → (z : ℕ) × InverseOf (p ^ k) y z
power_inverse p k y pr h l = pick (found (p ^ k) y l)
  where
    pick : (r : Result ℕ Shares) × Finds (p ^ k) y r → (z : ℕ) × InverseOf (p ^ k) y z
    pick (Ok z, f) = (z, (f.inverse z).0 refl)
    pick (Err s, f) = absurd (power_shares p k y pr h ((f.shares s.divisor).0 refl))

pub power_above : (p k : ℕ) → 1 < p → 1 ≤ k → 1 < p ^ k
power_above p zero h l = omega arith
power_above p (suc k) h l = omega (arith, pow-suc p k, mul-le-mul {n₁ = 1} {n₂ = p ^ k} (one-le-pow k p (omega arith)) h)
