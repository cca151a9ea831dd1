-- Chinese remaindering of two inverses, entry by entry, as the code does it: `joined` of crate ring, with its two factors in words of 64 bits.
-- Assumes nothing.
use Prim.Native.Nat.{ℕ, ◌+◌, ◌*◌, ◌-◌, ◌%◌, ◌≤◌, ◌<◌}
use mathlib.Core.Path.{◌≡◌, sym, ◌∙◌, subst}
use mathlib.Core.List.{List}
use native.Mathlib.Omega.{arith}
use native.Mathlib.Nat.{mul-pos, mul-le-mul, mul-le-mul_right, mul-le-mul_left}
use lib.ListN.{length}
use Rattle.sums.specs.Table.{at, table}
use Rattle.ring.specs.Inverse.{Inverse}
use Rattle.ring.proofs.Glue.{joined, join_inverse}
use Rattle.limits.specs.Limits.{most_modulus}
use Rattle.convolve.proofs.Rings.{low_everywhere}
use Rattle.lift.specs.Asks.{Blendable, Blends, Joinable, Joined}

-- ---- in code: `first` is z M, `m` is q M

module _ {g acc : List ℕ} {q M z : ℕ} (pre : Joinable g acc q M z) {first m : ℕ} (ef : first ≡ z * M) (em : m ≡ q * M) where
  pub first_low : first ≤ m
  first_low = omega (arith, ef, em, mul-le-mul_right {m = z} {n = q} M (omega (arith, pre.inverse.low)))

  positive : 0 < m
  positive = rw em (mul-pos (omega (arith, pre.inverse.low)) pre.some)

  factor : q ≤ m
  factor = rw em (omega (arith, mul-le-mul_left {m = 1} {n = M} q pre.some))

  factor' : M ≤ m
  factor' = rw em (omega (arith, mul-le-mul_right {m = 1} {n = q} M (omega (arith, pre.inverse.low))))

  pub blends : Blends g acc first (m + 1 - first) m
  blends = record { long = pre.ring'.long; each = each }
    where
      each : (k : ℕ) → Blendable (at g k) (at acc k) first (m + 1 - first) m
      each k =
          let x = low_everywhere (length g) q g (omega (arith, pre.inverse.low)) pre.ring k in
          let y = low_everywhere (length g) M acc pre.some pre.ring' k in
          let a = mul-le-mul {n₁ = first} {m₁ = at g k} {n₂ = most_modulus} {m₂ = most_modulus} (omega (arith, first_low, em, pre.limit)) (omega (arith, x, factor, em, pre.limit)) in
          let b = mul-le-mul {n₁ = m + 1 - first} {m₁ = at acc k} {n₂ = most_modulus + 1} {m₂ = most_modulus} (omega (arith, em, pre.limit)) (omega (arith, y, factor', em, pre.limit)) in
          record { positive = positive; word = omega (arith, em, pre.limit); fits = omega (arith, a, b) }

  pub joins : {new : List ℕ} → new ≡ table (length g) (λ k. (first * at g k + (m + 1 - first) * at acc k) % m) → Joined g acc q M new
  unfolding joined
  joins {new} e = record { inverse = λ f a b. subst (Inverse (length g) (q * M) f) (sym (e ∙ (λ i. table (length g) (λ k. (ef i * at g k + (em i + 1 - ef i) * at acc k) % em i)))) (join_inverse (length g) q M z pre.some pre.inverse.low pre.inverse.product f a b) }
