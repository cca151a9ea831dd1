-- A pattern has an inverse modulo m, or a smallest singular prime, and never both. Along the factor list of m, which every m has, inverses modulo one prime
-- are lifted to its power and joined with what stands already; the first prime for which there is none is the smallest singular one, since every prime before
-- it divides the product that stands. Assumes nothing.
use Prim.Native.Nat.{ℕ, zero, suc, ◌+◌, ◌-◌, ◌^◌, ◌≤◌, ◌<◌, ◌∣◌}
use mathlib.Core.Path.{◌≡◌, refl, sym, ap, ◌∙◌, subst}
use mathlib.Core.Logic.{◌⊎◌, inl, inr}
use mathlib.Core.List.{List}
use native.Mathlib.Omega.{arith}
use native.Mathlib.Decide.{dec_lt, ℕ_discrete}
use native.Mathlib.Numerals.{add-one}
use native.Mathlib.Nat.{mul_comm, mod-eq-zero_of_dvd}
use lib.ListN.{length}
use Rattle.sums.specs.Table.{at}
use Rattle.ring.specs.One.{zeros}
use Rattle.ring.specs.Inverse.{Invertible}
use Rattle.ring.proofs.Lift.{invertible_power}
use Rattle.ring.proofs.Reduce.{reduce_keeps_invertible}
use Rattle.ring.proofs.Glue.{join_inverse, inverse_none}
use Rattle.modular.specs.Prime.{Prime}
use Rattle.modular.specs.FactorList.{FactorList}
use Rattle.modular.proofs.Factors.{listed, rising_order, divisor-listed}
use Rattle.modular.proofs.HasList.{has_list}
use Rattle.pattern.specs.Singular.{Singular}
use Rattle.pattern.specs.Smallest.{Smallest}
use Rattle.pattern.specs.GhostPolynomial.{GhostPolynomial}
use Rattle.pattern.specs.Ghost.{Ghost}
use Rattle.pattern.proofs.OnePrime.{inverse_or_polynomial, singular_exactly}
use Rattle.pattern.proofs.FirstPowers.{first-powers, first_next, first_all, first_some, first_divides, first_apart, power_inverse, power_above}

-- Two smallest singular primes are one.
pub one_smallest : {n m : ℕ} {f : List ℕ} {p q : ℕ} → Smallest n m f p → Smallest n m f q → p ≡ q
one_smallest {n} {m} {f} a b = omega (arith, not_above a b, not_above b a)
  where
    not_above : {p q : ℕ} → Smallest n m f p → Smallest n m f q → q ≤ p
    not_above {p} {q} a b = elim (dec_lt p q) [ yes h ↦ absurd (b.least p a.prime a.divides h a.singular) | no h ↦ omega arith ]

-- ---- never both

module _ {m : ℕ} (n : ℕ) (some : 0 < n) (f : List ℕ) (lf : length f ≡ n) where
  pub singular_none : {q : ℕ} → Prime q → q ∣ m → Singular n q f → ¬ Invertible n m f
  singular_none {q} prime d s u = (singular_exactly n q prime some f lf).0 s (reduce_keeps_invertible n m q d (omega (arith, prime.two)) u)

  pub smallest_none : {p : ℕ} → Smallest n m f p → ¬ Invertible n m f
  smallest_none s = singular_none s.prime s.divides s.singular

  -- Where there is a smallest singular prime, there is a ghost.
  pub ghost_of : {p : ℕ} → Smallest n m f p → (out : List ℕ) × Ghost n m f p out
  ghost_of {p} s = go (inverse_or_polynomial n p s.prime some f lf)
    where
      go : Invertible n p f ⊎ (Singular n p f × ((w : List ℕ) × GhostPolynomial n p f w)) → (out : List ℕ) × Ghost n m f p out
      go (inl u) = absurd ((singular_exactly n p s.prime some f lf).0 s.singular u)
      go (inr (t, (w, g))) = (_, record { w = w; polynomial = g; times = refl })

module _ {m : ℕ} {ps es : List ℕ} (l : FactorList m ps es) (n : ℕ) (some : 0 < n) (f : List ℕ) (lf : length f ≡ n) where
  -- ---- one prime more

  invertible_next : (i : ℕ) → i < length ps → Invertible n (first-powers ps es i) f → Invertible n (at ps i) f → Invertible n (first-powers ps es (i + 1)) f
  invertible_next i h u v =
      let p = at ps i in
      let e = at es i in
      let entry = listed l i h in
      let z = power_inverse p e (first-powers ps es i) entry.prime (first_apart l i h) (power_above p e entry.prime.two entry.exponent) in
      let exponent : suc (e - 1) ≡ e = omega (arith, entry.exponent) in
      let power = rw exponent at ((invertible_power n p (e - 1) f (omega (arith, entry.prime.two))).1 v) in
      subst (λ (x : ℕ). Invertible n x f) (mul_comm (p ^ e) (first-powers ps es i) ∙ sym (first_next l i h))
      (record { inverse = _; is = join_inverse n (p ^ e) (first-powers ps es i) z.0 (first_some l i) z.1.low z.1.product f power.is u.is })

  -- A prime of m below the next one stands in the list before it, so it divides the product so far.
  earlier_divides : (i q : ℕ) → Prime q → q ∣ m → q < at ps i → q ∣ first-powers ps es i
  earlier_divides i q prime d less = go (divisor-listed q l prime (mod-eq-zero_of_dvd q d))
    where
      go : (j : ℕ) × (j < length ps) × (at ps j ≡ q) → q ∣ first-powers ps es i
      go (j, b, is) = subst (λ (x : ℕ). x ∣ first-powers ps es i) is (first_divides l i j before b)
        where
          before : j < i
          before = elim (dec_lt j i) [
            | yes e ↦ e
            | no e ↦ elim (ℕ_discrete i j) [ yes s ↦ omega (arith, is, ap (at ps) s) | no s ↦ omega (arith, is, rising_order 0 ps es l.rising i j (omega arith) b) ]
          ]

  -- An inverse modulo the product so far, and none modulo the next prime.
  pub smallest_next : (i : ℕ) → i < length ps → Invertible n (first-powers ps es i) f → Singular n (at ps i) f → Smallest n m f (at ps i)
  smallest_next i h u s = record {
    prime = (listed l i h).prime;
    divides = (listed l i h).divides;
    singular = s;
    least = λ q prime d less t. singular_none n some f lf prime (earlier_divides i q prime d less) t u;
  }

  -- ---- all of them

  along : (i : ℕ) → i ≤ length ps → Invertible n (first-powers ps es i) f ⊎ ((p : ℕ) × Smallest n m f p)
  along zero h = inl (record { inverse = zeros n; is = inverse_none n f })
  along (suc i) h = go (along i (omega arith))
    where
      go : Invertible n (first-powers ps es i) f ⊎ ((p : ℕ) × Smallest n m f p) → Invertible n (first-powers ps es (suc i)) f ⊎ ((p : ℕ) × Smallest n m f p)
      go (inr s) = inr s
      go (inl u) = next (inverse_or_polynomial n (at ps i) (listed l i h).prime some f lf)
        where
          next : Invertible n (at ps i) f ⊎ (Singular n (at ps i) f × ((w : List ℕ) × GhostPolynomial n (at ps i) f w)) → Invertible n (first-powers ps es (suc i)) f ⊎ ((p : ℕ) × Smallest n m f p)
          next (inl v) = inl (rw (add-one i) at (invertible_next i h u v))
          next (inr s) = inr (at ps i, smallest_next i h u s.0)

  listed-or_smallest : Invertible n m f ⊎ ((p : ℕ) × Smallest n m f p)
  listed-or_smallest = rw (first_all l) at (along (length ps) (omega arith))

pub inverse_or_smallest : {m : ℕ} → 0 < m → (n : ℕ) → 0 < n → (f : List ℕ) → length f ≡ n → Invertible n m f ⊎ ((p : ℕ) × Smallest n m f p)
inverse_or_smallest {m} positive n some f lf = let (ps, es, l) = has_list m positive in listed-or_smallest l n some f lf
