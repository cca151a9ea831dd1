-- Chinese remaindering, entry by entry (000, Lemma 3.1): inverses modulo m₁ and m₂ make one modulo m₁ m₂, where u m₂ + v m₁ is 1 modulo m₁ m₂.
-- A multiple of m₂ carries only what stands modulo m₁, so u m₂ g₁ + v m₁ g₂ mixed with f is u m₂ + v m₁. And the same with one inverse z of a number alone:
-- z M and q M + 1 - z M are 1 and 0 modulo q, 0 and 1 modulo M. Assumes nothing.
use Prim.Native.Nat.{ℕ, ◌+◌, ◌*◌, ◌-◌, ◌%◌, ◌/◌, ◌≤◌, ◌<◌}
use mathlib.Core.Path.{◌≡◌, sym, ap, ◌∙◌, subst}
use mathlib.Core.List.{List}
use native.Mathlib.Omega.{arith}
use native.Mathlib.Nat.{dvd-mul_right, div-add-mod, add-mul-mod_self_left, mul_comm, mod-one, mod-add-mod, add-mod-mod, add-mod_left, mul-pos, mul-sub, mul-le-mul_right, le_of_mul-le-mul_left}
use Rattle.sums.specs.Table.{at, table}
use Rattle.sums.proofs.Tables.{at_table, length-table, table_eq, table_inj}
use Rattle.ring.specs.Mix.{mix}
use Rattle.ring.specs.One.{one, zeros}
use Rattle.ring.specs.Entrywise.{add, scale}
use Rattle.ring.specs.Reduce.{reduce}
use Rattle.ring.specs.Inverse.{Inverse}
use Rattle.ring.proofs.Entries.{add_ring, scale-plus, scale_one, scale-mod, reduce-one}
use Rattle.ring.proofs.Product.{mix-add, mix-scale}
use Rattle.ring.proofs.Reduce.{reduce-mix-dvd, reduce_keeps_one}

module _ (n m₁ m₂ u : ℕ) where
  carry : (x y : ℕ) → x % m₁ ≡ y % m₁ → u * m₂ * x % (m₁ * m₂) ≡ u * m₂ * y % (m₁ * m₂)
  carry x y e = low x ∙ ap (λ (r : ℕ). u * m₂ * r % (m₁ * m₂)) e ∙ sym (low y)
    where
      low : (x : ℕ) → u * m₂ * x % (m₁ * m₂) ≡ u * m₂ * (x % m₁) % (m₁ * m₂)
      low x = ap (λ (v : ℕ). v % (m₁ * m₂)) (omega (arith, ap (λ (v : ℕ). u * m₂ * v) (div-add-mod x m₁))) ∙ add-mul-mod_self_left (u * m₂ * (x % m₁)) (m₁ * m₂) (u * (x / m₁))

  scale_carry : (a b : List ℕ) → reduce n m₁ a ≡ reduce n m₁ b → scale n (m₁ * m₂) (u * m₂) a ≡ scale n (m₁ * m₂) (u * m₂) b
  unfolding reduce scale
  scale_carry a b e = table_eq n _ _ λ k h. carry (at a k) (at b k) (table_inj n _ _ k h e)

  half : (f g : List ℕ) → mix n m₁ f g ≡ one n m₁ → mix n (m₁ * m₂) f (scale n (m₁ * m₂) (u * m₂) g) ≡ scale n (m₁ * m₂) (u * m₂) (one n (m₁ * m₂))
  half f g e =
      mix-scale n (m₁ * m₂) (u * m₂) f g
      ∙ scale_carry _ _ (reduce-mix-dvd n (m₁ * m₂) m₁ (dvd-mul_right m₁ m₂) f g ∙ e ∙ sym (reduce_keeps_one n (m₁ * m₂) m₁ (dvd-mul_right m₁ m₂)))

-- u m₂ g₁ + v m₁ g₂ modulo m₁ m₂.
unfoldable pub glued : (n m₁ m₂ u v : ℕ) → List ℕ → List ℕ → List ℕ
glued n m₁ m₂ u v g₁ g₂ = add n (m₁ * m₂) (scale n (m₁ * m₂) (u * m₂) g₁) (scale n (m₁ * m₂) (v * m₁) g₂)

pub glue_inverse : (n m₁ m₂ u v : ℕ) (f : List ℕ) {g₁ g₂ : List ℕ} → 0 < m₁ * m₂ → (u * m₂ + v * m₁) % (m₁ * m₂) ≡ 1 % (m₁ * m₂)
    → Inverse n m₁ f g₁ → Inverse n m₂ f g₂ → Inverse n (m₁ * m₂) f (glued n m₁ m₂ u v g₁ g₂)
unfolding glued
glue_inverse n m₁ m₂ u v f {g₁} {g₂} z e a b = record {
  ring = add_ring n (m₁ * m₂) _ _ z;
  product =
      mix-add n (m₁ * m₂) f _ _ ∙ rw (half n m₁ m₂ u f g₁ a.product, other, ← scale-plus n (m₁ * m₂) (u * m₂) (v * m₁))
      (scale-mod n (m₁ * m₂) _ 1 _ e ∙ scale_one n (m₁ * m₂) _ ∙ reduce-one n (m₁ * m₂));
}
  where
    other : mix n (m₁ * m₂) f (scale n (m₁ * m₂) (v * m₁) g₂) ≡ scale n (m₁ * m₂) (v * m₁) (one n (m₁ * m₂))
    other = rw (mul_comm m₁ m₂) (half n m₂ m₁ v f g₂ b.product)

-- ---- with z the inverse of M modulo q: g₁ is taken modulo q, g₂ modulo M

unfoldable pub joined : (n q M z : ℕ) → List ℕ → List ℕ → List ℕ
joined n q M z g₁ g₂ = table n (λ k. (z * M * at g₁ k + (q * M + 1 - z * M) * at g₂ k) % (q * M))

module _ (n q M z : ℕ) (some : 0 < M) (low : z < q) (unit : M * z % q ≡ 1) where
  abbrev t : ℕ
  t = M * z / q

  whole : q * t + 1 ≡ z * M
  whole = omega (arith, div-add-mod (M * z) q, unit)

  factor_low : z * M ≤ q * M
  factor_low = mul-le-mul_right M (omega arith)

  fits : t ≤ M
  fits = le_of_mul-le-mul_left {k = q} (omega (arith, whole, factor_low)) (omega arith)

  second : q * M + 1 - z * M ≡ (M - t) * q
  second = omega (arith, whole, fits, mul-sub q M t)

  -- The second factor is a multiple of q.
  same : (g₁ g₂ : List ℕ) → glued n q M z (M - t) g₁ g₂ ≡ joined n q M z g₁ g₂
  unfolding glued joined add scale
  same g₁ g₂ = table_eq n _ _ λ k h.
      simp (at_table, mod-add-mod, add-mod-mod) (ap (λ (x : ℕ). (z * M * at g₁ k + x * at g₂ k) % (q * M)) (sym second))

  pub join_inverse : (f : List ℕ) {g₁ g₂ : List ℕ} → Inverse n q f g₁ → Inverse n M f g₂ → Inverse n (q * M) f (joined n q M z g₁ g₂)
  join_inverse f {g₁} {g₂} a b =
      subst (Inverse n (q * M) f) (same g₁ g₂)
      (glue_inverse n q M z (M - t) f (mul-pos (omega arith) some) (ap (λ (x : ℕ). x % (q * M)) (omega (arith, second, factor_low)) ∙ add-mod_left (q * M) 1) a b)

-- Nothing is joined yet: modulo 1 every pattern has the inverse 0.
pub inverse_none : (n : ℕ) (f : List ℕ) → Inverse n 1 f (zeros n)
unfolding mix one zeros
inverse_none n f = record {
  ring = record { long = length-table n _; low = λ i h. rw (at_table n (λ _. 0) i h) (omega arith) };
  product = table_eq n _ _ (λ k h. mod-one _ ∙ sym (mod-one _));
}
