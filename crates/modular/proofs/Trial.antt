-- Trial division: if nothing from 2 to below d divides p and p is below d times d, p is a prime, since of two factors one is below d.
-- An odd number has no even divisor, so odd d are enough. Assumes nothing.
use Prim.Native.Nat.{ℕ, ◌+◌, ◌*◌, ◌/◌, ◌%◌, ◌≤◌, ◌<◌}
use mathlib.Core.Path.{◌≡◌, refl, sym, ap, ◌∙◌}
use mathlib.Core.Logic.{◌≢◌, ◌⊎◌, inl, inr, ⊎_elim}
use mathlib.Core.Bool.{true, false, false≢true}
use native.Mathlib.Omega.{arith}
use native.Mathlib.Decide.{dec_lt, ℕ_discrete}
use native.Mathlib.Nat.{div-lt_iff_lt-mul, le-div_iff_mul-le, dvd_trans, mod-eq-zero_of_dvd, dvd_of_mod-eq-zero, mod-zero, le_of_dvd, mul-le-mul_left, mul-le-mul_right, mul-mod_right, div-add-mod', lt_of_mul-lt-mul_right}
use Rattle.modular.specs.Prime.{Prime, TellsPrime}

-- Nothing from 2 to below d divides p.
abbrev pub Free : ℕ → ℕ → Type 0
Free p d = (k : ℕ) → 2 ≤ k → k < d → p % k ≢ 0

pub free_start : (p : ℕ) → p % 2 ≢ 0 → Free p 3
free_start p odd k a b e = let t : k ≡ 2 = omega arith in odd (ap (λ (x : ℕ). p % x) (sym t) ∙ e)

pub free_next : (p d : ℕ) → p % 2 ≢ 0 → d % 2 ≡ 1 → Free p d → p % d ≢ 0 → Free p (d + 2)
free_next p d odd o free at-d k a b e = elim (dec_lt k d) [
  | yes l ↦ free k a l e
  | no l ↦ elim (ℕ_discrete k d) [
    | yes s ↦ at-d (ap (λ (x : ℕ). p % x) (sym s) ∙ e)
    | no s ↦ odd (mod-eq-zero_of_dvd 2 (dvd_trans 2 (dvd_of_mod-eq-zero 2 (omega arith)) (dvd_of_mod-eq-zero k e)))
  ]
]

-- A divisor that is tried is at most a third of p.
pub tried_low : (p d : ℕ) → 3 ≤ d → d ≤ p / d → 3 * d ≤ p
tried_low p d h l = omega (arith, (le-div_iff_mul-le {k = d} (omega arith)).0 l, mul-le-mul_right d h)

-- Where the quotient by d is below d, p is below the square of d; where it times d is p, d divides p, and else not.
pub past_quotient : (p d : ℕ) → 0 < d → p / d < d → p < d * d
past_quotient p d h l = (div-lt_iff_lt-mul {k = d} {x = p} {y = d} h).0 l

pub divides : (p d : ℕ) → p / d * d ≡ p → p % d ≡ 0
divides p d e = omega (arith, e, div-add-mod' p d)

pub divides_not : (p d : ℕ) → p / d * d ≢ p → p % d ≢ 0
divides_not p d n e = n (omega (arith, e, div-add-mod' p d))

module _ (p d : ℕ) (two : 2 ≤ p) (l : p < d * d) (free : Free p d) where
  -- k divides p, and q is the other factor.
  other : (k q : ℕ) → q * k ≡ p → d ≤ k → k ≡ p
  other k q e g = elim (dec_lt 1 q) [
    | yes h ↦ absurd (free q h small (ap (λ (x : ℕ). x % q) (sym e) ∙ mul-mod_right q k))
    | no h ↦ elim (ℕ_discrete q 1) [ yes o ↦ omega (arith, ap (λ (x : ℕ). x * k) o) | no o ↦ omega (arith, ap (λ (x : ℕ). x * k) (zero h o)) ]
  ]
    where
      small : q < d
      small = lt_of_mul-lt-mul_right d (omega (arith, mul-le-mul_left q g))

      zero : (1 < q → ⊥) → (q ≡ 1 → ⊥) → q ≡ 0
      zero h o = omega arith

  pub free_prime : Prime p
  free_prime = record { two = two; only = λ k v. whole k (mod-eq-zero_of_dvd k v) }
    where
      whole : (k : ℕ) → p % k ≡ 0 → (k ≡ 1) ⊎ (k ≡ p)
      whole k z = elim (ℕ_discrete k 1) [
        | yes e ↦ inl e
        | no e ↦ elim (dec_lt k d) [
          | yes s ↦ absurd (elim (ℕ_discrete k 0) [ yes n ↦ omega (arith, mod-zero p, ap (λ (x : ℕ). p % x) n) | no n ↦ free k (omega arith) s z ])
          | no s ↦ inr (other k (p / k) (omega (arith, div-add-mod' p k)) (omega arith))
        ]
      ]

-- A divisor of p below p, other than 1.
pub composite : (p d : ℕ) → 2 ≤ d → d < p → p % d ≡ 0 → Prime p → ⊥
composite p d h l e pr = ⊎_elim (λ (s : d ≡ 1). omega arith) (λ (s : d ≡ p). omega arith) (pr.only d (dvd_of_mod-eq-zero d e))

pub two_prime : Prime 2
two_prime = record { two = omega arith; only = λ d v. whole d (le_of_dvd (omega arith) v) (mod-eq-zero_of_dvd d v) }
  where
    whole : (d : ℕ) → d ≤ 2 → 2 % d ≡ 0 → (d ≡ 1) ⊎ (d ≡ 2)
    whole d l e = elim (ℕ_discrete d 0) [
      | yes n ↦ absurd (omega (arith, mod-zero 2, ap (λ (x : ℕ). 2 % x) n))
      | no n ↦ elim (ℕ_discrete d 1) [ yes o ↦ inl o | no o ↦ inr (omega arith) ]
    ]

-- The two answers.
pub tells_prime : {p : ℕ} → Prime p → TellsPrime p true
tells_prime pr = record { is = λ _. pr; told = λ _. refl }

pub tells_none : {p : ℕ} → (Prime p → ⊥) → TellsPrime p false
tells_none not = record { is = λ e. absurd (false≢true e); told = λ pr. absurd (not pr) }
