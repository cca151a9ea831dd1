-- Modulo any m above 1 an inverse of n coefficients is the only one, a ghost with its degree too, and they never stand beside each other. Two inverses
-- differ by what f takes to 0. Assumes nothing.
use Prim.Native.Nat.{ℕ, ◌-◌, ◌<◌}
use mathlib.Core.Path.{◌≡◌, sym, ◌∙◌, ap}
use native.Mathlib.Omega.{arith}
use Rattle.series.specs.Series.{Series, Below, Reduced}
use Rattle.series.specs.Operations.{red, add, mul, one, xn_minus_one}
use Rattle.series.specs.Inverse.{Inverse}
use Rattle.series.specs.Haunted.{Haunted}
use Rattle.series.proofs.SeriesRing
use Rattle.series.proofs.SeriesRing.{neg, ring}
use Rattle.series.proofs.Degrees
use Rattle.series.proofs.Ghosts.{Zero, product-zero, inverse_zero, no_inverse, one_ghost}

module _ (n m : ℕ) (two : 1 < m) (some : 0 < n) (f : Series) where
  pub one_inverse : (g g' : Series) → Reduced m g → Reduced m g' → Below n g → Below n g' → Inverse n m f g → Inverse n m f g' → g ≡ g'
  one_inverse g g' rg rg' bg bg' i i' =
      sym (Degrees.red_id m g rg) ∙ SeriesRing.sub-zero m pos g g' (sym (SeriesRing.red-add m g (neg m g')) ∙ inverse_zero n m two some f g x i (Degrees.below_add m n g (neg m g') bg (Degrees.below_neg m n g' bg')) dark) ∙ Degrees.red_id m g' rg'
    where
      pos : 0 < m
      pos = omega arith

      M : Series
      M = xn_minus_one n m

      x : Series
      x = add m g (neg m g')

      U : Series
      U = i.product.by

      U' : Series
      U' = i'.product.by

      D : Series
      D = add m U (neg m U')

      back : add m D U' ≡ red m U
      back = SeriesRing.add_assoc m U (neg m U') U' ∙ ap (add m U) (SeriesRing.add_comm m (neg m U') U' ∙ SeriesRing.add_neg m pos U') ∙ SeriesRing.add-zeros m U

      sorted : (o M D U : Series) → add m o (mul m M (add m D U)) ≡ add m (mul m M D) (add m o (mul m M U))
      sorted o M D U = simp ring

      -- f g is (x^n - 1) (U - U') more than f g'.
      sum : mul m f g ≡ add m (mul m M D) (mul m f g')
      sum =
          sym (SeriesRing.red-mul m f g) ∙ i.product.sum ∙ ap (add m one) (sym (SeriesRing.mul_redʳ m M U) ∙ ap (mul m M) (sym back)) ∙ sorted one M D U'
          ∙ ap (add m (mul m M D)) (sym i'.product.sum ∙ SeriesRing.red-mul m f g')

      dark : Zero n m f x
      dark =
          product-zero n m f x D (Degrees.poly_add m U (neg m U') i.product.poly (Degrees.poly_neg m U' i'.product.poly))
          (SeriesRing.mul-add m f g (neg m g') ∙ ap (add m (mul m f g)) (SeriesRing.mul_neg m f g') ∙ SeriesRing.move m pos (mul m f g) (mul m M D) (mul m f g') sum ∙ SeriesRing.red-mul m M D)

  pub one_haunting : (d d' : ℕ) (w w' : Series) → Haunted n m f d w → Haunted n m f d' w' → (d ≡ d') × (w ≡ w')
  one_haunting d d' w w' h k =
      let same = one_ghost n m two some f (n - d) (n - d') w w' h.ghost k.ghost in
      (omega (arith, same.0, h.most, k.most), same.1)

  pub not_both : (d : ℕ) (w g : Series) → Haunted n m f d w → Inverse n m f g → ⊥
  not_both d w g h i = no_inverse n m two some f (n - d) w g h.ghost (omega (arith, h.high, h.most)) i
