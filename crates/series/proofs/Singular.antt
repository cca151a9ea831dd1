-- Modulo a prime: f and x^n - 1 share a factor of degree 1 or more exactly when f has no inverse, and the ghost's degree is n minus the degree of the
-- greatest shared factor. The cofactor of a shared factor in x^n - 1 is what f takes to 0. Assumes nothing.
use Prim.Native.Nat.{ℕ, suc, ◌+◌, ◌*◌, ◌-◌, ◌%◌, ◌≤◌, ◌<◌}
use mathlib.Core.Path.{◌≡◌, sym, ◌∙◌, ap, subst}
use mathlib.Core.Logic.{◌↔◌, ◌⊎◌, inl, inr}
use native.Mathlib.Decide.{dec_lt}
use native.Mathlib.Omega.{arith}
use native.Mathlib.Nat.{mod-lt}
use Rattle.sums.proofs.Remainders.{mul-mod}
use Rattle.modular.specs.Prime.{Prime}
use Rattle.series.specs.Series.{Series, Below}
use Rattle.series.specs.Operations.{red, mul, zeros, xn_minus_one}
use Rattle.series.specs.Inverse.{Invertible}
use Rattle.series.specs.SharedFactor.{SharedFactor, Singular}
use Rattle.series.specs.Ghost.{Ghost}
use Rattle.series.specs.Haunted.{Haunted}
use Rattle.series.proofs.SeriesRing
use Rattle.series.proofs.SeriesRing.{ring}
use Rattle.series.proofs.Degrees
use Rattle.series.proofs.Cycle
use Rattle.series.proofs.Units.{unit}
use Rattle.series.proofs.Ghosts.{Zero, product-zero, inverse_zero}
use Rattle.series.proofs.Existence.{inverse_or_ghost}

module _ (n p : ℕ) (prime : Prime p) (some : 0 < n) (f : Series) where
  pos : 0 < p
  pos = omega (arith, prime.two)

  module _ (d : ℕ) (s : SharedFactor n p f d) where
    -- f times the rest is the quotient times x^n - 1.
    rest_zero : Zero n p f (red p s.rest)
    rest_zero = product-zero n p f (red p s.rest) s.quotient s.poly
        (SeriesRing.mul_redʳ p f s.rest ∙ sym (SeriesRing.mul_redˡ p f s.rest) ∙ ap (λ (x : Series). mul p x s.rest) s.divides ∙ turned s.factor s.quotient s.rest ∙ ap (λ (x : Series). mul p x s.quotient) (sym s.divides'))
      where
        turned : (a b c : Series) → mul p (mul p a b) c ≡ mul p (mul p a c) b
        turned a b c = simp ring

    -- Its leading coefficient is a unit.
    z : (z : ℕ) × (z * (s.factor d % p) % p ≡ 1 % p)
    z = unit p (s.factor d % p) (record { prime = prime; some = omega (arith, s.lead); low = mod-lt (s.factor d) pos })

    z_unit : z.0 * s.factor d % p ≡ 1 % p
    z_unit = sym (mul-mod z.0 (s.factor d) p) ∙ z.1

    divides : xn_minus_one n p ≡ mul p s.factor (red p s.rest)
    divides = s.divides' ∙ sym (SeriesRing.mul_redʳ p s.factor s.rest)

    -- The rest has n - d + 1 coefficients,
    rest_below : d ≤ n → Below (n + 1 - d) (red p s.rest)
    rest_below l =
        Degrees.top_drop p d (n + 1 - d) z.0 s.poly'.bound s.factor (red p s.rest) s.below z_unit (Degrees.reduced_red p s.rest pos) (Degrees.below_red p s.poly'.bound s.rest s.poly'.below)
        (subst (Below (d + (n + 1 - d))) divides (Degrees.below_up (suc n) (d + (n + 1 - d)) (xn_minus_one n p) (omega arith) (Cycle.cycle_below n p prime.two some)))

    -- and is not 0.
    rest_some : red p s.rest ≡ zeros → ⊥
    unfolding zeros
    rest_some e = omega (arith, sym (Cycle.cycle_last n p prime.two some) ∙ ap (λ (x : Series). x n) (divides ∙ ap (mul p s.factor) e ∙ SeriesRing.mul-zeros p s.factor))

    -- Its degree is at most n: x^n - 1 is no shorter than its factor.
    degree_most : d ≤ n
    degree_most = elim (dec_lt n d) [
      | yes l ↦ absurd (rest_some (Degrees.top_zero p d z.0 s.factor (red p s.rest) s.below z_unit (Degrees.reduced_red p s.rest pos) (Degrees.poly_red p s.rest s.poly')
          (subst (Below d) divides (Degrees.below_up (suc n) d (xn_minus_one n p) l (Cycle.cycle_below n p prime.two some)))))
      | no l ↦ omega arith
    ]

    pub shared_no_inverse : 1 ≤ d → Invertible n p f → ⊥
    shared_no_inverse h i =
        rest_some (sym (SeriesRing.red-red p s.rest) ∙ inverse_zero n p prime.two some f i.inverse (red p s.rest) i.is (Degrees.below_up (n + 1 - d) n (red p s.rest) (omega arith) (rest_below degree_most)) rest_zero)

    -- No shared factor's degree is above n minus the ghost's.
    pub shared_most : (e : ℕ) (w : Series) → Ghost n p f e w → d + e ≤ n
    shared_most e w g = elim (dec_lt n (d + e)) [
      | yes l ↦ absurd (rest_some (sym (SeriesRing.red-red p s.rest) ∙ g.least (red p s.rest) (Degrees.below_up (n + 1 - d) e (red p s.rest) (omega arith) (rest_below degree_most)) rest_zero))
      | no l ↦ omega arith
    ]

  pub singular_exactly : Below n f → Singular n p f ↔ (Invertible n p f → ⊥)
  singular_exactly b = (
    λ s. shared_no_inverse s.degree s.shared s.high,
    λ h. go h (inverse_or_ghost n p prime some f b),
  )
    where
      go : (Invertible n p f → ⊥) → Invertible n p f ⊎ ((d : ℕ) × (w : Series) × Haunted n p f d w) → Singular n p f
      go h (inl i) = absurd (h i)
      go h (inr (d, w, k)) = record { degree = d; high = k.high; shared = k.shared }
