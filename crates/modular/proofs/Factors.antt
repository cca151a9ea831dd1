-- m has one factor list: its first prime is the smallest that divides m, its exponent is the number of times it can be divided out, and what is left has the rest for its list.
-- Assumes nothing.
use Prim.Native.Nat.{ℕ, zero, suc, ◌*◌, ◌%◌, ◌/◌, ◌^◌, ◌≤◌, ◌<◌, ◌∣◌}
use mathlib.Core.Path.{◌≡◌, refl, sym, ap, ◌∙◌, subst}
use mathlib.Core.Logic.{◌≢◌}
use mathlib.Core.List.{List, [], ◌∷◌}
use native.Mathlib.Omega.{arith}
use native.Mathlib.Decide.{ℕ_discrete, dec_lt}
use native.Mathlib.Nat.{pow-zero, pow-succ', mod-eq_of_lt, mul-mod_right, dvd_of_mod-eq-zero, dvd-mul_left_of_dvd, mul_assoc, mul-div_cancel_left, one-mul, one-le-pow, mul-pos, mul-le-mul_right, le-mul_of_pos_right}
use lib.ListN.{length}
use Rattle.sums.specs.Table.{at}
use Rattle.modular.specs.Prime.{Prime}
use Rattle.modular.specs.FactorList.{Rising, powers, FactorList}
use Rattle.modular.proofs.Primes.{prime_mul, prime_pow, prime_prime}

-- The first prime divides the product.
pub head_divides : (p e r : ℕ) → 1 ≤ e → p ^ e * r % p ≡ 0
head_divides p zero r h = omega arith
head_divides p (suc e) r h = ap (λ (x : ℕ). x % p) (ap (λ (x : ℕ). x * r) (pow-succ' p e) ∙ mul_assoc p (p ^ e) r) ∙ mul-mod_right p (p ^ e * r)

-- A prime at or below `before` does not.
before_divides_not : (before q : ℕ) (ps es : List ℕ) → Prime q → q ≤ before → Rising before ps es → powers ps es % q ≢ 0
before_divides_not before q [] [] pr h r z = omega (arith, z, mod-eq_of_lt pr.two)
before_divides_not before q [] (e ∷ es) pr h r z = r
before_divides_not before q (p ∷ ps) [] pr h r z = r
before_divides_not before q (p ∷ ps) (e ∷ es) pr h r z =
    before_divides_not p q ps es pr (omega (arith, r.0.above)) r.1
    (prime_mul q (p ^ e) (powers ps es) pr (prime_pow q p e pr (prime_prime q p pr r.0.prime (omega (arith, r.0.above)))) z)

-- A power of p can be divided out in one way.
strip : (p a b x y : ℕ) → Prime p → x % p ≢ 0 → y % p ≢ 0 → p ^ a * x ≡ p ^ b * y → (a ≡ b) × (x ≡ y)
strip p zero zero x y pr hx hy e = (refl, omega (arith, e, ap (λ (z : ℕ). z * x) (pow-zero p), ap (λ (z : ℕ). z * y) (pow-zero p)))
strip p zero (suc b) x y pr hx hy e = absurd (hx (ap (λ (z : ℕ). z % p) (sym (one-mul x) ∙ ap (λ (z : ℕ). z * x) (sym (pow-zero p)) ∙ e) ∙ head_divides p (suc b) y (omega arith)))
strip p (suc a) zero x y pr hx hy e = absurd (hy (ap (λ (z : ℕ). z % p) (sym (one-mul y) ∙ ap (λ (z : ℕ). z * y) (sym (pow-zero p)) ∙ sym e) ∙ head_divides p (suc a) x (omega arith)))
strip p (suc a) (suc b) x y pr hx hy e =
    let r = strip p a b x y pr hx hy (cancel (sym (out a x) ∙ e ∙ out b y)) in
    (ap suc r.0, r.1)
  where
    cancel : {x y : ℕ} → p * x ≡ p * y → x ≡ y
    cancel {x} {y} e = sym (mul-div_cancel_left x (omega (arith, pr.two))) ∙ ap (λ (z : ℕ). z / p) e ∙ mul-div_cancel_left y (omega (arith, pr.two))

    out : (a x : ℕ) → p ^ suc a * x ≡ p * (p ^ a * x)
    out a x = ap (λ (z : ℕ). z * x) (pow-succ' p a) ∙ mul_assoc p (p ^ a) x

-- Two rising lists with one product are one list.
rising_one : (before before' : ℕ) (ps es ps' es' : List ℕ) → Rising before ps es → Rising before' ps' es' → powers ps es ≡ powers ps' es' → (ps ≡ ps') × (es ≡ es')
rising_one b b' [] [] [] [] r s e = (refl, refl)
rising_one b b' [] [] (p ∷ ps) (x ∷ es) r s e = absurd (before_divides_not p p [] [] s.0.prime (omega arith) tt (ap (λ (z : ℕ). z % p) e ∙ head_divides p x _ s.0.exponent))
rising_one b b' (p ∷ ps) (x ∷ es) [] [] r s e = absurd (before_divides_not p p [] [] r.0.prime (omega arith) tt (ap (λ (z : ℕ). z % p) (sym e) ∙ head_divides p x _ r.0.exponent))
rising_one b b' [] (x ∷ es) ps' es' r s e = absurd r
rising_one b b' (p ∷ ps) [] ps' es' r s e = absurd r
rising_one b b' [] [] [] (x ∷ es') r s e = absurd s
rising_one b b' [] [] (p ∷ ps') [] r s e = absurd s
rising_one b b' (p ∷ ps) (x ∷ es) [] (y ∷ es') r s e = absurd s
rising_one b b' (p ∷ ps) (x ∷ es) (q ∷ ps') [] r s e = absurd s
rising_one b b' (p ∷ ps) (x ∷ es) (q ∷ ps') (y ∷ es') r s e = go (ℕ_discrete p q) (dec_lt p q) (rising_one p q ps es ps' es' r.1 s.1)
  where
    go : Dec (p ≡ q) → Dec (p < q) → (powers ps es ≡ powers ps' es' → (ps ≡ ps') × (es ≡ es')) → (p ∷ ps ≡ q ∷ ps') × (x ∷ es ≡ y ∷ es')
    go (yes h) l rec =
        let t = strip p x y (powers ps es) (powers ps' es') r.0.prime (before_divides_not p p ps es r.0.prime (omega arith) r.1)
        (before_divides_not q p ps' es' r.0.prime (omega arith) s.1) (e ∙ ap (λ (z : ℕ). z ^ y * powers ps' es') (sym h)) in
        let u = rec t.1 in
        ((λ i. h i ∷ u.0 i), (λ i. t.0 i ∷ u.1 i))
    go (no h) (yes l) rec =
        absurd (before_divides_not p p (q ∷ ps') (y ∷ es') r.0.prime (omega arith) (record { exponent = s.0.exponent; prime = s.0.prime; above = l }, s.1) (ap (λ (z : ℕ). z % p) (sym e) ∙ head_divides p x _ r.0.exponent))
    go (no h) (no l) rec =
        absurd (before_divides_not q q (p ∷ ps) (x ∷ es) s.0.prime (omega arith) (record { exponent = r.0.exponent; prime = r.0.prime; above = omega arith }, r.1) (ap (λ (z : ℕ). z % q) e ∙ head_divides q y _ s.0.exponent))

pub one_list : (m : ℕ) (ps es ps' es' : List ℕ) → FactorList m ps es → FactorList m ps' es' → (ps ≡ ps') × (es ≡ es')
one_list m ps es ps' es' a b = rising_one 0 0 ps es ps' es' a.rising b.rising (a.product ∙ sym b.product)

-- Entry by entry.
pub rising_same : (before : ℕ) (ps es : List ℕ) → Rising before ps es → length ps ≡ length es
rising_same before [] [] r = refl
rising_same before [] (e ∷ es) r = absurd r
rising_same before (p ∷ ps) [] r = absurd r
rising_same before (p ∷ ps) (e ∷ es) r = ap suc (rising_same p ps es r.1)

-- Entry i and what the whole product says of it; the entry before it is left open.
pub record Listed (p e m : ℕ) : Type 0 where
  pub prime : Prime p
  pub exponent : 1 ≤ e
  pub divides : p ∣ m
  pub power : p ^ e ≤ m

pub powers_some : (before : ℕ) (ps es : List ℕ) → Rising before ps es → 0 < powers ps es
powers_some before [] es r = omega arith
powers_some before (p ∷ ps) [] r = omega arith
powers_some before (p ∷ ps) (e ∷ es) r = mul-pos (one-le-pow e p (omega (arith, r.0.above))) (powers_some p ps es r.1)

rising_listed : (before : ℕ) (ps es : List ℕ) → Rising before ps es → (i : ℕ) → i < length ps → Listed (at ps i) (at es i) (powers ps es)
rising_listed before [] es r i h = absurd (omega arith)
rising_listed before (p ∷ ps) [] r i h = absurd r
rising_listed before (p ∷ ps) (e ∷ es) r zero h = record {
  prime = r.0.prime;
  exponent = r.0.exponent;
  divides = dvd_of_mod-eq-zero p (head_divides p e (powers ps es) r.0.exponent);
  power = le-mul_of_pos_right (p ^ e) (powers_some p ps es r.1);
}
rising_listed before (p ∷ ps) (e ∷ es) r (suc i) h =
    let t = rising_listed p ps es r.1 i (omega arith) in
    record {
      prime = t.prime;
      exponent = t.exponent;
      divides = dvd-mul_left_of_dvd (at ps i) t.divides (p ^ e);
      power = omega (arith, t.power, mul-le-mul_right (powers ps es) (one-le-pow e p (omega (arith, r.0.above))));
    }

pub listed : {m : ℕ} {ps es : List ℕ} → FactorList m ps es → (i : ℕ) → i < length ps → Listed (at ps i) (at es i) m
listed {m} {ps} {es} f i h = subst (Listed (at ps i) (at es i)) f.product (rising_listed 0 ps es f.rising i h)

-- The primes rise from entry to entry.
rising_above : (before : ℕ) (ps es : List ℕ) → Rising before ps es → (i : ℕ) → i < length ps → before < at ps i
rising_above before [] es r i h = absurd (omega arith)
rising_above before (p ∷ ps) [] r i h = absurd r
rising_above before (p ∷ ps) (e ∷ es) r zero h = r.0.above
rising_above before (p ∷ ps) (e ∷ es) r (suc i) h = omega (arith, r.0.above, rising_above p ps es r.1 i (omega arith))

pub rising_order : (before : ℕ) (ps es : List ℕ) → Rising before ps es → (i j : ℕ) → i < j → j < length ps → at ps i < at ps j
rising_order before [] es r i j l h = absurd (omega arith)
rising_order before (p ∷ ps) [] r i j l h = absurd r
rising_order before (p ∷ ps) (e ∷ es) r i zero l h = absurd (omega arith)
rising_order before (p ∷ ps) (e ∷ es) r zero (suc j) l h = rising_above p ps es r.1 j (omega arith)
rising_order before (p ∷ ps) (e ∷ es) r (suc i) (suc j) l h = rising_order p ps es r.1 i j (omega arith) (omega arith)

-- Every prime that divides the product is listed.
rising_divisor : (q before : ℕ) (ps es : List ℕ) → Prime q → Rising before ps es → powers ps es % q ≡ 0 → (i : ℕ) × (i < length ps) × (at ps i ≡ q)
rising_divisor q before [] [] pr r z = absurd (omega (arith, z, mod-eq_of_lt pr.two))
rising_divisor q before [] (e ∷ es) pr r z = absurd r
rising_divisor q before (p ∷ ps) [] pr r z = absurd r
rising_divisor q before (p ∷ ps) (e ∷ es) pr r z = go (ℕ_discrete p q) (rising_divisor q p ps es pr r.1)
  where
    go : Dec (p ≡ q) → (powers ps es % q ≡ 0 → (i : ℕ) × (i < length ps) × (at ps i ≡ q)) → (i : ℕ) × (i < suc (length ps)) × (at (p ∷ ps) i ≡ q)
    go (yes h) rec = (0, omega arith, h)
    go (no h) rec =
        let t = rec (prime_mul q (p ^ e) (powers ps es) pr (prime_pow q p e pr (prime_prime q p pr r.0.prime (λ s. h (sym s)))) z) in
        (suc t.0, omega (arith, t.1), t.2)

pub divisor-listed : {m : ℕ} {ps es : List ℕ} (q : ℕ) → FactorList m ps es → Prime q → m % q ≡ 0 → (i : ℕ) × (i < length ps) × (at ps i ≡ q)
divisor-listed {m} {ps} {es} q f pr z = rising_divisor q 0 ps es pr f.rising (ap (λ (x : ℕ). x % q) f.product ∙ z)
