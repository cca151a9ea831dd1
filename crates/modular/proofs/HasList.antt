-- Every number from 1 up has a factor list: its least divisor above 1 is a prime; that is divided out as often as it goes, and what is left is smaller and has
-- no divisor from 2 to that prime, so that its list rises from there. By recursion on a bound of the number. Assumes nothing.
use Prim.Native.Nat.{ℕ, zero, suc, ◌+◌, ◌*◌, ◌/◌, ◌%◌, ◌^◌, ◌≤◌, ◌<◌}
use mathlib.Core.Path.{◌≡◌, sym, ap, ◌∙◌}
use mathlib.Core.Logic.{◌≢◌}
use mathlib.Core.List.{List, [], ◌∷◌}
use native.Mathlib.Omega.{arith}
use native.Mathlib.Decide.{ℕ_discrete, dec_lt}
use native.Mathlib.Nat.{mod_self, div-add-mod', pow-zero, pow-suc, pow-le-pow_right, mul-one, mul_comm, mul_assoc, mul-mod_right, mul-le-mul_left, dvd_trans, mod-eq-zero_of_dvd, dvd_of_mod-eq-zero}
use Rattle.modular.specs.Prime.{Prime}
use Rattle.modular.specs.FactorList.{Rising, powers, FactorList}
use Rattle.modular.proofs.Trial.{Free, free_prime}

divides_trans : (a b c : ℕ) → b % a ≡ 0 → c % b ≡ 0 → c % a ≡ 0
divides_trans a b c h l = mod-eq-zero_of_dvd a (dvd_trans a (dvd_of_mod-eq-zero a h) (dvd_of_mod-eq-zero b l))

factor_some : (x y : ℕ) → 0 < x * y → 0 < x
factor_some zero y h = omega arith
factor_some (suc x) y h = omega arith

-- ---- the least divisor above 1

record LeastDivisor (m p : ℕ) : Type 0 where
  two : 2 ≤ p
  divides : m % p ≡ 0
  least : Free m p

-- Sought upwards from d: after k steps m itself is reached.
least_from : (k m d : ℕ) → 2 ≤ d → d ≤ m → m ≤ d + k → Free m d → (p : ℕ) × LeastDivisor m p
least_from zero m d h l e f = (d, record { two = h; divides = ap (λ (x : ℕ). x % d) (omega arith) ∙ mod_self d; least = f })
least_from (suc k) m d h l e f = go (ℕ_discrete (m % d) 0) (least_from k m (suc d) (omega arith))
  where
    go : Dec (m % d ≡ 0) → (suc d ≤ m → m ≤ suc d + k → Free m (suc d) → (p : ℕ) × LeastDivisor m p) → (p : ℕ) × LeastDivisor m p
    go (yes z) next = (d, record { two = h; divides = z; least = f })
    go (no z) next = next below (omega arith) free
      where
        below : suc d ≤ m
        below = elim (ℕ_discrete d m) [ yes s ↦ absurd (z (ap (λ (x : ℕ). x % d) (sym s) ∙ mod_self d)) | no s ↦ omega arith ]

        free : Free m (suc d)
        free j a b r = elim (ℕ_discrete j d) [ yes s ↦ z (ap (λ (x : ℕ). m % x) (sym s) ∙ r) | no s ↦ f j a (omega arith) r ]

least_divisor : (m : ℕ) → 2 ≤ m → (p : ℕ) × LeastDivisor m p
least_divisor m h = least_from m m 2 (omega arith) h (omega arith) λ j a b r. omega arith

least_prime : {m p : ℕ} → LeastDivisor m p → Prime p
least_prime {m} {p} s =
    free_prime p p s.two (omega (arith, s.two, mul-le-mul_left p s.two)) λ j a b r. s.least j a b (divides_trans j p m r s.divides)

-- ---- a factor divided out as often as it goes

record Stripped (p m e r : ℕ) : Type 0 where
  whole : r * p ^ e ≡ m
  rest : r % p ≢ 0

stripped : (k p m : ℕ) → 2 ≤ p → 0 < m → m ≤ k → (e : ℕ) × (r : ℕ) × Stripped p m e r
stripped zero p m h l f = absurd (omega arith)
stripped (suc k) p m h l f = go (ℕ_discrete (m % p) 0) (stripped k p (m / p) h)
  where
    go : Dec (m % p ≡ 0) → (0 < m / p → m / p ≤ k → (e : ℕ) × (r : ℕ) × Stripped p (m / p) e r) → (e : ℕ) × (r : ℕ) × Stripped p m e r
    go (no z) next = (0, m, record { whole = omega (arith, ap (λ (x : ℕ). m * x) (pow-zero p)); rest = z })
    go (yes z) next = once (next (factor_some (m / p) p (omega (arith, again))) (omega (arith, again, mul-le-mul_left (m / p) h)))
      where
        again : m / p * p ≡ m
        again = omega (arith, div-add-mod' m p)

        once : (e : ℕ) × (r : ℕ) × Stripped p (m / p) e r → (e : ℕ) × (r : ℕ) × Stripped p m e r
        once (e, r, s) = (suc e, r, record { whole = ap (λ (x : ℕ). r * x) (pow-suc p e) ∙ sym (mul_assoc r (p ^ e) p) ∙ ap (λ (x : ℕ). x * p) s.whole ∙ again; rest = s.rest })

-- ---- the list

record Risen (before m : ℕ) : Type 0 where
  primes : List ℕ
  exponents : List ℕ
  rising : Rising before primes exponents
  product : powers primes exponents ≡ m

-- m is r times a power of its least divisor p: r is smaller, has nothing from 2 to p for a divisor, and its list is all but the first entry of that of m.
module _ {m p e r : ℕ} (s : LeastDivisor m p) (t : Stripped p m e r) where
  exponent : 1 ≤ e
  exponent = elim (ℕ_discrete e 0) [
    | yes z ↦ absurd (t.rest (ap (λ (x : ℕ). x % p) (sym (mul-one r) ∙ ap (λ (x : ℕ). r * x) (sym (ap (λ (x : ℕ). p ^ x) z ∙ pow-zero p)) ∙ t.whole) ∙ s.divides))
    | no z ↦ omega arith
  ]

  less : 0 < r → r < m
  less h = omega (arith, t.whole, mul-le-mul_left {m = 2} {n = p ^ e} r (omega (arith, s.two, pow-le-pow_right {n = p} (omega (arith, s.two)) exponent, pow-suc p 0, ap (λ (x : ℕ). x * p) (pow-zero p))))

  free : Free r (suc p)
  free j a b z = elim (ℕ_discrete j p) [
    | yes q ↦ t.rest (ap (λ (x : ℕ). r % x) (sym q) ∙ z)
    | no q ↦ s.least j a (omega arith) (divides_trans j r m z (ap (λ (x : ℕ). x % r) (sym t.whole) ∙ mul-mod_right r (p ^ e)))
  ]

  extended : {before : ℕ} → before < p → Risen p r → Risen before m
  extended h u = record {
    primes = p ∷ u.primes;
    exponents = e ∷ u.exponents;
    rising = (record { exponent = exponent; prime = least_prime s; above = h }, u.rising);
    product = ap (λ (x : ℕ). p ^ e * x) u.product ∙ mul_comm (p ^ e) r ∙ t.whole;
  }

-- Where nothing from 2 to `before` divides m; k is a bound on m.
risen : (k before m : ℕ) → 0 < m → m ≤ k → Free m (suc before) → Risen before m
risen zero before m h l f = absurd (omega arith)
risen (suc k) before m h l f = go (ℕ_discrete m 1) (risen k)
  where
    go : Dec (m ≡ 1) → ((before m : ℕ) → 0 < m → m ≤ k → Free m (suc before) → Risen before m) → Risen before m
    go (yes o) rec = record { primes = []; exponents = []; rising = tt; product = sym o }
    go (no o) rec =
        let (p, s) = least_divisor m (omega arith) in
        let (e, r, t) = stripped m p m s.two h (omega arith) in
        let some = factor_some r (p ^ e) (omega (arith, t.whole)) in
        let above : before < p = elim (dec_lt before p) [ yes g ↦ g | no g ↦ absurd (f p s.two (omega arith) s.divides) ] in
        extended s t above (rec p r some (omega (arith, less s t some)) (free s t))

pub has_list : (m : ℕ) → 0 < m → (ps : List ℕ) × (es : List ℕ) × FactorList m ps es
has_list m h = let r = risen m 0 m h (omega arith) (λ j a b e. omega arith) in (r.primes, r.exponents, record { rising = r.rising; product = r.product })
