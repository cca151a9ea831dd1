-- Modulo a prime every f has an inverse, or a shared factor and a ghost: by recursion on the length of r₁, one division at a time, with no code.
-- Assumes nothing.
use Prim.Native.Nat.{ℕ, zero, suc, ◌+◌, ◌*◌, ◌-◌, ◌%◌, ◌≤◌, ◌<◌}
use mathlib.Core.Path.{◌≡◌, refl, sym, ◌∙◌, ap, subst}
use mathlib.Core.Logic.{◌⊎◌, inl, inr}
use native.Mathlib.Decide.{ℕ_discrete}
use native.Mathlib.Omega.{arith}
use Rattle.modular.specs.Prime.{Prime}
use Rattle.modular.specs.Inverse.{Nonzero}
use Rattle.series.specs.Series.{Series, Below, Reduced, Length}
use Rattle.series.specs.Rows.{State}
use Rattle.series.specs.Operations.{red, add, mul, term, xn_minus_one, zeros, one}
use Rattle.series.specs.Remainder.{Remainder}
use Rattle.series.specs.Inverse.{Inverse, Invertible}
use Rattle.series.specs.SharedFactor.{SharedFactor}
use Rattle.series.specs.Haunted.{Haunted}
use Rattle.series.proofs.SeriesRing
use Rattle.series.proofs.Degrees
use Rattle.series.proofs.Quotients.{divide}
use Rattle.series.proofs.TwoRows.{start, divided}
use Rattle.series.proofs.Ends
use Rattle.series.proofs.Lengths.{length_of}
use Rattle.series.proofs.Units.{unit}
use Rattle.series.proofs.Ghosts.{zero-red}

module _ (n p : ℕ) (prime : Prime p) (some : 0 < n) (f : Series) where
  record Ended : Type 0 where
    l : ℕ
    r₀ : Series
    r₁ : Series
    s₀ : Series
    s₁ : Series
    state : State n p f l 0 r₀ r₁ s₀ s₁

  top : (a : Series) (l : ℕ) → Reduced p a → Length a l → 0 < l → Nonzero p (a (l - 1))
  unfolding Reduced
  top a l r h s = record { prime = prime; some = h.top s; low = r (l - 1) }

  -- Division by division.
  run : (fuel l₀ l₁ : ℕ) (r₀ r₁ s₀ s₁ : Series) → l₁ ≤ fuel → State n p f l₀ l₁ r₀ r₁ s₀ s₁ → Ended
  run zero l₀ l₁ r₀ r₁ s₀ s₁ h w = record { l = l₀; r₀ = r₀; r₁ = r₁; s₀ = s₀; s₁ = s₁; state = subst (λ (x : ℕ). State n p f l₀ x r₀ r₁ s₀ s₁) (omega arith) w }
  run (suc fuel) l₀ zero r₀ r₁ s₀ s₁ h w = record { l = l₀; r₀ = r₀; r₁ = r₁; s₀ = s₀; s₁ = s₁; state = w }
  run (suc fuel) l₀ (suc d) r₀ r₁ s₀ s₁ h w = go (divide p d z.0 (omega (arith, prime.two)) r₁ w.length₁.below z_unit l₀ r₀ w.length₀.below) (run fuel)
    where
      last : suc d - 1 ≡ d
      last = omega arith

      z : (z : ℕ) × (z * r₁ (suc d - 1) % p ≡ 1 % p)
      z = unit p (r₁ (suc d - 1)) (top r₁ (suc d) w.reduced₁ w.length₁ (omega arith))

      z_unit : z.0 * r₁ d % p ≡ 1 % p
      z_unit = ap (λ (x : ℕ). z.0 * r₁ x % p) (sym last) ∙ z.1

      go : (q r : Series) × Remainder p d r₀ r₁ q r × Below (l₀ - d) q → ((l₀ l₁ : ℕ) (r₀ r₁ s₀ s₁ : Series) → l₁ ≤ fuel → State n p f l₀ l₁ r₀ r₁ s₀ s₁ → Ended) → Ended
      go (q, r, rest, b) again =
          let t = length_of d r rest.below in
          again (suc d) t.0 r₁ r s₁ (add p s₀ (mul p q s₁)) (omega (arith, t.2))
          (divided prime.two some w (omega arith) (subst (λ (x : ℕ). Remainder p x r₀ r₁ q r) (sym last) rest)
          (Degrees.below_up (l₀ - d) (l₀ + 1 - suc d) q (omega arith) b) refl t.1 (omega (arith, t.2)))

  euclid : Reduced p f → Below n f → Ended
  euclid r b = let t = length_of n f b in run n (n + 1) t.0 (xn_minus_one n p) f zeros one t.2 (start prime.two some r t.1 t.2)

  -- Of f with coefficients below p.
  split : Reduced p f → Below n f → Invertible n p f ⊎ ((d : ℕ) × (w : Series) × Haunted n p f d w)
  split r b = go (euclid r b)
    where
      go : Ended → Invertible n p f ⊎ ((d : ℕ) × (w : Series) × Haunted n p f d w)
      go E = elim (ℕ_discrete E.l 1) [
        | yes e ↦
            let z = unit p (E.r₀ (E.l - 1)) (top E.r₀ E.l E.state.reduced₀ E.state.length₀ (omega arith)) in
            let first : E.l - 1 ≡ 0 = omega arith in
            inl (record { inverse = mul p (term z.0 0) E.s₀; is = Ends.inverse prime.two some E.state z.0 e (ap (λ (x : ℕ). z.0 * E.r₀ x % p) (sym first) ∙ z.1) })
        | no e ↦
            let z = Ends.top_unit prime.two some E.state in
            inr (
              E.l - 1,
              mul p (term z.0 0) E.s₁,
              record {
                high = omega (arith, E.state.falling);
                most = omega (arith, E.state.most);
                shared = Ends.shared prime.two some E.state;
                ghost = Ends.ghost prime.two some E.state z.0 z.1;
              },
            )
      ]

-- What is said of f modulo p is said of its remainders.
module _ (n p : ℕ) (f g : Series) (same : red p f ≡ red p g) where
  pub inverse_same : (v : Series) → Inverse n p f v → Inverse n p g v
  inverse_same v i = record {
    poly = i.poly;
    product = record {
      by = i.product.by;
      poly = i.product.poly;
      sum = ap (red p) (sym (SeriesRing.mul_redˡ p g v) ∙ ap (λ (x : Series). mul p x v) (sym same) ∙ SeriesRing.mul_redˡ p f v) ∙ i.product.sum;
    };
  }

  shared_same : (d : ℕ) → SharedFactor n p f d → SharedFactor n p g d
  shared_same d s = record {
    factor = s.factor;
    below = s.below;
    lead = s.lead;
    quotient = s.quotient;
    poly = s.poly;
    divides = sym same ∙ s.divides;
    rest = s.rest;
    poly' = s.poly';
    divides' = s.divides';
  }

  pub haunted_same : (d : ℕ) (w : Series) → Haunted n p f d w → Haunted n p g d w
  haunted_same d w h = record {
    high = h.high;
    most = h.most;
    shared = shared_same d h.shared;
    ghost = record {
      reduced = h.ghost.reduced;
      below = h.ghost.below;
      monic = h.ghost.monic;
      zero = zero-red n p f g w w same refl h.ghost.zero;
      least = λ v b z. h.ghost.least v b (zero-red n p g f v v (sym same) refl z);
    };
  }

pub inverse_or_ghost : (n p : ℕ) → Prime p → 0 < n → (f : Series) → Below n f → Invertible n p f ⊎ ((d : ℕ) × (w : Series) × Haunted n p f d w)
inverse_or_ghost n p prime some f b = go (split n p prime some (red p f) (Degrees.reduced_red p f (omega (arith, prime.two))) (Degrees.below_red p n f b))
  where
    same : red p (red p f) ≡ red p f
    same = SeriesRing.red-red p f

    go : Invertible n p (red p f) ⊎ ((d : ℕ) × (w : Series) × Haunted n p (red p f) d w) → Invertible n p f ⊎ ((d : ℕ) × (w : Series) × Haunted n p f d w)
    go (inl i) = inl (record { inverse = i.inverse; is = inverse_same n p (red p f) f same i.inverse i.is })
    go (inr (d, w, h)) = inr (d, w, haunted_same n p (red p f) f same d w h)
