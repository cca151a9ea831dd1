-- Inverses: one at most; of a product exactly where both factors have one, and then the product of theirs; of an inverse the pattern; none beside a ghost.
-- Each follows from the laws of the product alone. Assumes nothing.
use Prim.Native.Nat.{ℕ, ◌%◌, ◌<◌}
use mathlib.Core.Path.{◌≡◌, sym, ◌∙◌}
use mathlib.Core.Logic.{◌≢◌, ◌↔◌}
use mathlib.Core.List.{List}
use Rattle.sums.specs.Table.{at}
use Rattle.sums.proofs.Tables.{table_inj}
use Rattle.ring.specs.Ring.{Ring}
use Rattle.ring.specs.Mix.{mix}
use Rattle.ring.specs.One.{zeros}
use Rattle.ring.specs.Reduce.{reduce}
use Rattle.ring.specs.Inverse.{Inverse, Invertible}
use Rattle.ring.proofs.Product.{mix_left_comm, mix-reduce, mix-one, mix_comm, mix_assoc, mix-zeros, mix_ring, mix_unit}

module _ (n m : ℕ) where
  pub inverse_unique : (f : List ℕ) {g h : List ℕ} → Inverse n m f g → Inverse n m f h → g ≡ h
  inverse_unique f {g} {h} a b =
      sym (mix_unit n m a.ring)
      ∙ rw (← b.product, mix_left_comm n m g f h, mix_comm n m g h, mix_left_comm n m f h g, a.product) (mix_unit n m b.ring)

  -- The inverse of the inverse is the pattern.
  pub inverse_inverse : (f g : List ℕ) → Ring n m f → Inverse n m f g → Inverse n m g f
  inverse_inverse f g r a = record { ring = r; product = mix_comm n m g f ∙ a.product }

  pub inverse_twice : (f g : List ℕ) {h : List ℕ} → Ring n m f → Inverse n m f g → Inverse n m g h → h ≡ f
  inverse_twice f g r a b = inverse_unique g b (inverse_inverse f g r a)

  -- The inverse of a mix is the mix of the inverses.
  pub inverse_mix : (f₁ f₂ : List ℕ) {g₁ g₂ : List ℕ} → 0 < m → Inverse n m f₁ g₁ → Inverse n m f₂ g₂ → Inverse n m (mix n m f₁ f₂) (mix n m g₁ g₂)
  inverse_mix f₁ f₂ {g₁} {g₂} p a b = record {
    ring = mix_ring n m g₁ g₂ p;
    product = rw (mix_assoc n m f₁ f₂ (mix n m g₁ g₂), mix_left_comm n m f₂ g₁ g₂, b.product, mix-one, mix-reduce) a.product;
  }

  invertible_left : (f₁ f₂ : List ℕ) → 0 < m → Invertible n m (mix n m f₁ f₂) → Invertible n m f₁
  invertible_left f₁ f₂ p u =
      record { inverse = mix n m f₂ u.inverse; is = record { ring = mix_ring n m _ _ p; product = sym (mix_assoc n m f₁ f₂ u.inverse) ∙ u.is.product } }

  -- A mix has an inverse exactly when both patterns have one.
  pub invertible_mix : (f₁ f₂ : List ℕ) → 0 < m → Invertible n m (mix n m f₁ f₂) ↔ (Invertible n m f₁ × Invertible n m f₂)
  invertible_mix f₁ f₂ p = (
    (λ u. (invertible_left f₁ f₂ p u, invertible_left f₂ f₁ p (rw (mix_comm n m f₁ f₂) at u))),
    (λ u. record { inverse = mix n m u.0.inverse u.1.inverse; is = inverse_mix f₁ f₂ p u.0.is u.1.is }),
  )

  -- Only what a pattern is modulo m matters.
  pub inverse_of_reduced : (f g : List ℕ) → Inverse n m (reduce n m f) g → Inverse n m f g
  inverse_of_reduced f g a =
      record { ring = a.ring; product = rw (mix_comm n m f g, ← mix-reduce n m g f, mix_comm n m g (reduce n m f)) a.product }

  -- A ghost w, not all zero modulo m and with readings all zero, excludes an inverse: w = w f g = 0.
  pub ghost_excludes : (f w : List ℕ) (i : ℕ) → i < n → at w i % m ≢ 0 → mix n m f w ≡ zeros n → ¬ Invertible n m f
  unfolding reduce zeros
  ghost_excludes f w i h nz e u = nz (table_inj n _ _ i h w_zero)
    where
      g : List ℕ
      g = u.inverse

      w_zero : reduce n m w ≡ zeros n
      w_zero =
          sym (mix-one n m w)
          ∙ rw (← u.is.product, mix_left_comm n m w f g, mix_comm n m w g, mix_left_comm n m f g w, e) (mix-zeros n m g)
