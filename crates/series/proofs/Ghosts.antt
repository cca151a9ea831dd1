-- What f takes to 0 modulo x^n - 1, over any modulus m above 1. The ghost is the only one of its kind; what f takes to 0 are its multiples, by
-- division; an inverse takes only 0 to 0 among polynomials of fewer than n coefficients, so no ghost of degree below n stands beside it. Assumes nothing.
use Prim.Native.Nat.{ℕ, suc, ◌+◌, ◌*◌, ◌-◌, ◌%◌, ◌≤◌, ◌<◌}
use mathlib.Core.Path.{◌≡◌, sym, ◌∙◌, ap, subst}
use native.Mathlib.Decide.{dec_lt}
use native.Mathlib.Omega.{arith}
use native.Mathlib.Nat.{mod-eq_of_lt}
use Rattle.series.specs.Series.{Series, Below, Polynomial, Reduced}
use Rattle.series.specs.Operations.{red, add, mul, zeros, one, xn_minus_one}
use Rattle.series.specs.Remainder.{Remainder}
use Rattle.series.specs.Congruent.{Congruent}
use Rattle.series.specs.Inverse.{Inverse}
use Rattle.series.specs.Ghost.{Ghost}
use Rattle.series.proofs.SeriesRing
use Rattle.series.proofs.SeriesRing.{neg, ring}
use Rattle.series.proofs.Degrees
use Rattle.series.proofs.Quotients.{divide}
use Rattle.series.proofs.Cycle

module _ (n m : ℕ) where
  abbrev M : Series
  M = xn_minus_one n m

  -- f v is 0 modulo x^n - 1 and m.
  abbrev pub Zero : Series → Series → Type 0
  Zero f v = Congruent n m (mul m f v) zeros

  pub zero-product : (f v : Series) (h : Zero f v) → mul m f v ≡ mul m M h.by
  zero-product f v h = sym (SeriesRing.red-mul m f v) ∙ h.sum ∙ SeriesRing.zeros-add m (mul m M h.by) ∙ SeriesRing.red-mul m M h.by

  pub product-zero : (f v u : Series) → Polynomial u → mul m f v ≡ mul m M u → Zero f v
  product-zero f v u pu e = record { by = u; poly = pu; sum = SeriesRing.red-mul m f v ∙ e ∙ sym (SeriesRing.zeros-add m (mul m M u) ∙ SeriesRing.red-mul m M u) }

  zero-times : (f v y : Series) → Polynomial y → Zero f v → Zero f (mul m v y)
  zero-times f v y py h =
      product-zero f (mul m v y) (mul m h.by y) (Degrees.poly_mul m h.by y h.poly py)
      (sym (SeriesRing.mul_assoc m f v y) ∙ ap (λ (x : Series). mul m x y) (zero-product f v h) ∙ SeriesRing.mul_assoc m M h.by y)

  zero-add : (f v w : Series) → Zero f v → Zero f w → Zero f (add m v w)
  zero-add f v w h k =
      product-zero f (add m v w) (add m h.by k.by) (Degrees.poly_add m h.by k.by h.poly k.poly)
      (SeriesRing.mul-add m f v w ∙ ap (λ (x : Series). add m x (mul m f w)) (zero-product f v h) ∙ ap (add m (mul m M h.by)) (zero-product f w k) ∙ sym (SeriesRing.mul-add m M h.by k.by))

  zero_neg : (f v : Series) → Zero f v → Zero f (neg m v)
  zero_neg f v h =
      product-zero f (neg m v) (neg m h.by) (Degrees.poly_neg m h.by h.poly) (SeriesRing.mul_neg m f v ∙ ap (neg m) (zero-product f v h) ∙ sym (SeriesRing.mul_neg m M h.by))

  -- Only the remainders modulo m count.
  pub zero-red : (f g v w : Series) → red m f ≡ red m g → red m v ≡ red m w → Zero f v → Zero g w
  zero-red f g v w ef ev h =
      product-zero g w h.by h.poly
      (sym (SeriesRing.mul_redˡ m g w) ∙ sym (SeriesRing.mul_redʳ m (red m g) w) ∙ ap (λ (x : Series). mul m x (red m w)) (sym ef) ∙ ap (mul m (red m f)) (sym ev) ∙ SeriesRing.mul_redʳ m (red m f) v ∙ SeriesRing.mul_redˡ m f v
      ∙ zero-product f v h)

module _ (n m : ℕ) (two : 1 < m) (some : 0 < n) (f : Series) where
  pos : 0 < m
  pos = omega arith

  -- 1 is not 0.
  one_differs : (w : Series) (e : ℕ) → w e ≡ 1 → red m w ≡ zeros → ⊥
  unfolding red zeros
  one_differs w e l z = omega (arith, mod-eq_of_lt two, ap (λ (x : Series). x e) z, ap (λ (x : ℕ). x % m) l)

  -- Among polynomials of fewer than n coefficients, an inverse takes only 0 to 0: v = g f v = (x^n - 1) x.
  pub inverse_zero : (g v : Series) → Inverse n m f g → Below n v → Zero n m f v → red m v ≡ zeros
  inverse_zero g v i b h = sym product ∙ ap (mul m M') (Degrees.top_zero m n 1 M' x (Cycle.cycle_below n m two some) (Cycle.cycle_monic n m two some) (Degrees.reduced_add m (mul m K g) (neg m (mul m U v)) pos) px (subst (Below n) (sym product) (Degrees.below_red m n v b))) ∙ SeriesRing.mul-zeros m M'
    where
      M' : Series
      M' = xn_minus_one n m

      K : Series
      K = h.by

      U : Series
      U = i.product.by

      x : Series
      x = add m (mul m K g) (neg m (mul m U v))

      px : Polynomial x
      px = Degrees.poly_add m (mul m K g) (neg m (mul m U v)) (Degrees.poly_mul m K g h.poly i.poly) (Degrees.poly_neg m (mul m U v) (Degrees.poly_mul m U v i.product.poly (record { bound = n; below = b })))

      turned : (f g v : Series) → mul m (mul m f v) g ≡ mul m (mul m f g) v
      turned f g v = simp ring

      opened : (o M U v : Series) → mul m (add m o (mul m M U)) v ≡ add m (mul m o v) (mul m M (mul m U v))
      opened o M U v = simp ring

      whole : mul m M' (mul m K g) ≡ add m (red m v) (mul m M' (mul m U v))
      whole =
          sym (SeriesRing.mul_assoc m M' K g) ∙ ap (λ (y : Series). mul m y g) (sym (zero-product n m f v h)) ∙ turned f g v ∙ ap (λ (y : Series). mul m y v) (sym (SeriesRing.red-mul m f g) ∙ i.product.sum)
          ∙ opened one M' U v ∙ ap (λ (y : Series). add m y (mul m M' (mul m U v))) (SeriesRing.one-mul m v)

      product : mul m M' x ≡ red m v
      product =
          SeriesRing.mul-add m M' (mul m K g) (neg m (mul m U v)) ∙ ap (add m (mul m M' (mul m K g))) (SeriesRing.mul_neg m M' (mul m U v))
          ∙ SeriesRing.move m pos (mul m M' (mul m K g)) (red m v) (mul m M' (mul m U v)) whole ∙ SeriesRing.red-red m v

  pub no_inverse : (e : ℕ) (w g : Series) → Ghost n m f e w → e < n → Inverse n m f g → ⊥
  no_inverse e w g h l i = one_differs w e h.monic (inverse_zero g w i (Degrees.below_up (suc e) n w l h.below) h.zero)

  -- ---- one ghost

  one_degree : (e e' : ℕ) (w w' : Series) → Ghost n m f e w → Ghost n m f e' w' → e ≤ e'
  one_degree e e' w w' h k = elim (dec_lt e' e) [ yes l ↦ absurd (one_differs w' e' k.monic (h.least w' (Degrees.below_up (suc e') e w' l k.below) k.zero)) | no l ↦ omega arith ]

  pub one_ghost : (e e' : ℕ) (w w' : Series) → Ghost n m f e w → Ghost n m f e' w' → (e ≡ e') × (w ≡ w')
  unfolding add neg zeros
  one_ghost e e' w w' h k = (
    same,
    sym (Degrees.red_id m w h.reduced) ∙ SeriesRing.sub-zero m pos w w' (sym (SeriesRing.red-add m w (neg m w')) ∙ h.least x lower (zero-add n m f w (neg m w') h.zero (zero_neg n m f w' k.zero))) ∙ Degrees.red_id m w' k.reduced,
  )
    where
      same : e ≡ e'
      same = omega (arith, one_degree e e' w w' h k, one_degree e' e w' w k h)

      x : Series
      x = add m w (neg m w')

      lower : Below e x
      lower = Degrees.below_last e x (Degrees.below_add m (suc e) w (neg m w') h.below (Degrees.below_neg m (suc e) w' (subst (λ (y : ℕ). Below (suc y) w') (sym same) k.below)))
          (ap (λ (y : ℕ). (w e + (m - 1) * y % m) % m) (ap w' same ∙ k.monic ∙ sym h.monic) ∙ ap (λ (y : Series). y e) (SeriesRing.add_neg m pos w))

  -- ---- its multiples

  -- v divided by w leaves a remainder that f takes to 0 too, so it is 0.
  pub ghost_divides : (e : ℕ) (w v : Series) → Ghost n m f e w → Polynomial v → Zero n m f v → (y : Series) × Polynomial y × (red m v ≡ mul m w y)
  ghost_divides e w v h pv z = go (divide m e 1 pos w h.below (ap (λ (x : ℕ). 1 * x % m) h.monic) pv.bound v pv.below)
    where
      go : (q r : Series) × Remainder m e v w q r × Below (pv.bound - e) q → (y : Series) × Polynomial y × (red m v ≡ mul m w y)
      go (q, r, d, _) = (
        neg m q,
        Degrees.poly_neg m q d.poly,
        sym (SeriesRing.move m pos zeros v (mul m q w) (sym none ∙ d.sum)) ∙ SeriesRing.zeros-add m (neg m (mul m q w)) ∙ SeriesRing.red_neg m (mul m q w) ∙ ap (neg m) (SeriesRing.mul_comm m q w) ∙ sym (SeriesRing.mul_neg m w q),
      )
        where
          dark : Zero n m f r
          dark = subst (Zero n m f) (sym d.sum) (zero-add n m f v (mul m q w) z (subst (Zero n m f) (SeriesRing.mul_comm m w q) (zero-times n m f w q d.poly h.zero)))

          none : r ≡ zeros
          none = sym (Degrees.red_id m r (subst (Reduced m) (sym d.sum) (Degrees.reduced_add m v (mul m q w) pos))) ∙ h.least r d.below dark
