-- Modulo one prime: a pattern has an inverse, or the prime is singular for it and there is a ghost polynomial; never both.
-- Said of polynomials in crate series, and carried over to rings: an inverse among polynomials, divided by x^n - 1, leaves one of n coefficients.
-- Assumes nothing.
use Prim.Native.Nat.{ℕ, suc, ◌-◌, ◌<◌}
use mathlib.Core.Path.{◌≡◌, sym, ap, ◌∙◌, subst}
use mathlib.Core.Logic.{◌≢◌, ◌↔◌, ◌⊎◌, inl, inr}
use mathlib.Core.List.{List}
use native.Mathlib.Omega.{arith}
use native.Mathlib.Decide.{dec_lt}
use native.Mathlib.Nat.{mod-eq_of_lt}
use lib.ListN.{length}
use Rattle.sums.specs.Table.{at, table}
use Rattle.sums.proofs.Tables.{length-table, at_past}
use Rattle.ring.specs.Ring.{Ring}
use Rattle.ring.specs.Mix.{mix}
use Rattle.ring.specs.One.{zeros}
use Rattle.ring.specs.Inverse.{Invertible}
use Rattle.ring.proofs.Inverses.{ghost_excludes}
use Rattle.modular.specs.Prime.{Prime}
use Rattle.series.specs.Series.{Series, Below, Polynomial, Reduced}
use Rattle.series.specs.Operations.{red, add, mul, one, xn_minus_one}
use Rattle.series.specs.Remainder.{Remainder}
use Rattle.series.specs.Inverse.{Inverse as InverseSeries, Invertible as InvertibleSeries}
use Rattle.series.specs.Haunted.{Haunted}
use Rattle.series.proofs.SeriesRing
use Rattle.series.proofs.SeriesRing.{ring}
use Rattle.series.proofs.Degrees
use Rattle.series.proofs.Cycle.{cycle_below, cycle_monic}
use Rattle.series.proofs.Quotients.{divide}
use Rattle.series.proofs.Lengths.{below_list, table_series}
use Rattle.series.proofs.Existence.{inverse_or_ghost}
use Rattle.series.proofs.Singular as exactly
use Rattle.pattern.specs.Singular.{Singular}
use Rattle.pattern.specs.GhostPolynomial.{GhostPolynomial}
use Rattle.pattern.proofs.Link.{reduced_ring, inverse_series, ghost_polynomial}

-- ---- inverses of n coefficients

module _ (n p : ℕ) (two : 1 < p) (some : 0 < n) where
  pos : 0 < p
  pos = omega arith

  -- g + q (x^n - 1) is an inverse as g is.
  moved : (f g q r : Series) → Polynomial f → Remainder p n g (xn_minus_one n p) q r → InverseSeries n p f g → InverseSeries n p f r
  moved f g q r pf d i = record {
    poly = record { bound = n; below = d.below };
    product = record {
      by = add p i.product.by (mul p f q);
      poly = Degrees.poly_add p i.product.by (mul p f q) i.product.poly (Degrees.poly_mul p f q pf d.poly);
      sum = ap (λ (s : Series). red p (mul p f s)) d.sum ∙ opened f g q (xn_minus_one n p) ∙ ap (λ (s : Series). add p s (mul p (xn_minus_one n p) (mul p f q))) i.product.sum
          ∙ closed one (xn_minus_one n p) i.product.by (mul p f q);
    };
  }
    where
      opened : (f g q x : Series) → red p (mul p f (add p g (mul p q x))) ≡ add p (red p (mul p f g)) (mul p x (mul p f q))
      opened f g q x = SeriesRing.red-mul p f (add p g (mul p q x)) ∙ (simp ring) ∙ sym (SeriesRing.add_redˡ p (mul p f g) (mul p x (mul p f q)))

      closed : (o x u v : Series) → add p (add p o (mul p x u)) (mul p x v) ≡ add p o (mul p x (add p u v))
      closed o x u v = simp ring

  -- So an inverse among polynomials makes one among rings.
  invertible_ring : (f : List ℕ) → length f ≡ n → InvertibleSeries n p (at f) → Invertible n p f
  invertible_ring f lf i = go (divide p n 1 pos (xn_minus_one n p) (cycle_below n p two some) (cycle_monic n p two some) i.is.poly.bound i.inverse i.is.poly.below)
    where
      go : (q r : Series) × Remainder p n i.inverse (xn_minus_one n p) q r × Below (i.is.poly.bound - n) q → Invertible n p f
      go (q, r, d, _) = record { inverse = g; is = (inverse_series n p two some f g lf ring').1 (subst (InverseSeries n p (at f)) (sym is) (moved (at f) i.inverse q r pf d i.is)) }
        where
          pf : Polynomial (at f)
          pf = record { bound = n; below = below_list f n (omega arith) }

          g : List ℕ
          g = table n r

          is : at g ≡ r
          is = table_series n r d.below

          ring' : Ring n p g
          ring' = reduced_ring n p g (length-table n r) (subst (Reduced p) (sym is) (subst (Reduced p) (sym d.sum) (Degrees.reduced_add p i.inverse (mul p q (xn_minus_one n p)) pos)))

  invertible_series : (f : List ℕ) → length f ≡ n → Invertible n p f → InvertibleSeries n p (at f)
  invertible_series f lf u = record { inverse = at u.inverse; is = (inverse_series n p two some f u.inverse lf u.is.ring).0 u.is }

-- ---- one or the other

module _ (n p : ℕ) (prime : Prime p) (some : 0 < n) (f : List ℕ) (lf : length f ≡ n) where
  two : 1 < p
  two = prime.two

  below : Below n (at f)
  below = below_list f n (omega arith)

  -- What stands in place of an inverse among polynomials, as rings.
  pub haunted_ring : (d : ℕ) (w : List ℕ) → length w ≡ n → Haunted n p (at f) d (at w) → Singular n p f × GhostPolynomial n p f w
  haunted_ring d w lw h = (record { degree = d; high = h.high; shared = h.shared }, ghost_polynomial n p two some f lf (n - d) w lw h.ghost)

  pub inverse_or_polynomial : Invertible n p f ⊎ (Singular n p f × ((w : List ℕ) × GhostPolynomial n p f w))
  inverse_or_polynomial = go (inverse_or_ghost n p prime some (at f) below)
    where
      go : InvertibleSeries n p (at f) ⊎ ((d : ℕ) × (w : Series) × Haunted n p (at f) d w) → Invertible n p f ⊎ (Singular n p f × ((w : List ℕ) × GhostPolynomial n p f w))
      go (inl i) = inl (invertible_ring n p two some f lf i)
      go (inr (d, w, h)) =
          let is : at (table n w) ≡ w = table_series n w (Degrees.below_up (suc (n - d)) n w (omega (arith, h.high)) h.ghost.below) in
          let t = haunted_ring d (table n w) (length-table n w) (subst (Haunted n p (at f) d) (sym is) h) in
          inr (t.0, (table n w, t.1))

  -- A prime is singular for f exactly when f has no inverse modulo it.
  pub singular_exactly : Singular n p f ↔ (¬ Invertible n p f)
  singular_exactly = (
    λ s u. (exactly.singular_exactly n p prime some (at f) below).0 s (invertible_series n p two some f lf u),
    λ h. (exactly.singular_exactly n p prime some (at f) below).1 (λ i. h (invertible_ring n p two some f lf i)),
  )

  -- Counts, not all zero, whose readings are all zero, are enough to show it.
  pub zero_singular : (w : List ℕ) (i : ℕ) → Ring n p w → at w i ≢ 0 → mix n p f w ≡ zeros n → Singular n p f
  zero_singular w i r h z = singular_exactly.1 (ghost_excludes n p f w i inside (λ e. h (sym (mod-eq_of_lt (r.low i inside)) ∙ e)) z)
    where
      inside : i < n
      inside = elim (dec_lt i n) [ yes l ↦ l | no l ↦ absurd (h (at_past w i (omega (arith, r.long)))) ]
