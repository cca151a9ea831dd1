-- How long a factor list can be, and how large its exponents. Its primes are 2 or more, and above 2 they are odd, so k + 1 of them multiply to at least 2 times 3 times 5 ..,
-- k odd numbers; a power of a prime is at least that power of 2. Assumes nothing.
use Prim.Native.Nat.{ℕ, zero, suc, ◌+◌, ◌*◌, ◌%◌, ◌^◌, ◌≤◌, ◌<◌}
use mathlib.Core.Path.{◌≡◌, refl}
use mathlib.Core.Logic.{⊎_elim}
use mathlib.Core.List.{List, [], ◌∷◌}
use native.Mathlib.Omega.{arith}
use native.Mathlib.Decide.{ℕ_discrete, dec_lt, dec_le}
use native.Mathlib.Nat.{dvd_of_mod-eq-zero, pow-le-pow_left, pow-succ', one-le-pow, le-mul_of_pos_right, mul-le-mul}
use lib.Pow.{pow_mono}
use lib.ListN.{length}
use Rattle.sums.specs.Table.{at}
use Rattle.sums.proofs.Tables.{at_past}
use Rattle.modular.specs.Prime.{Prime}
use Rattle.modular.specs.FactorList.{Rising, powers, FactorList}
use Rattle.modular.proofs.Factors.{listed, powers_some, rising_same}

-- The product of k odd numbers above an odd n.
unfoldable odds : ℕ → ℕ → ℕ
odds zero n = 1
odds (suc k) n = (n + 2) * odds k (n + 2)

odds_mono : (k n m : ℕ) → n ≤ m → odds k n ≤ odds k m
unfolding odds
odds_mono zero n m h = omega arith
odds_mono (suc k) n m h = mul-le-mul {n₁ = n + 2} {n₂ = m + 2} (omega arith) (odds_mono k (n + 2) (m + 2) (omega arith))

odd_prime : (p : ℕ) → Prime p → 2 < p → p % 2 ≡ 1
odd_prime p pr h = elim (ℕ_discrete (p % 2) 0) [
  | yes e ↦ ⊎_elim (λ (q : 2 ≡ 1). omega arith) (λ (q : 2 ≡ p). omega arith) (pr.only 2 (dvd_of_mod-eq-zero 2 e))
  | no e ↦ omega arith
]

first_power : (p e : ℕ) → 0 < p → 1 ≤ e → p ≤ p ^ e
first_power p zero h l = omega arith
first_power p (suc e) h l = omega (arith, pow-succ' p e, le-mul_of_pos_right p (one-le-pow e p h))

-- k entries above 2 and above an odd n.
rising_odds : (k n before : ℕ) (ps es : List ℕ) → n % 2 ≡ 1 → n ≤ before → 2 ≤ before → Rising before ps es → k ≤ length ps → odds k n ≤ powers ps es
unfolding odds
rising_odds zero n before ps es o l t r h = powers_some before ps es r
rising_odds (suc k) n before [] es o l t r h = absurd (omega arith)
rising_odds (suc k) n before (p ∷ ps) [] o l t r h = absurd r
rising_odds (suc k) n before (p ∷ ps) (e ∷ es) o l t r h =
    let above = r.0.above in
    let odd = odd_prime p r.0.prime (omega arith) in
    mul-le-mul {n₁ = n + 2} {n₂ = p ^ e} (omega (arith, first_power p e (omega arith) r.0.exponent)) (rising_odds k (n + 2) p ps es (omega arith) (omega arith) (omega arith) r.1 (omega arith))

-- k + 1 entries.
least : (k : ℕ) (ps es : List ℕ) → Rising 0 ps es → suc k ≤ length ps → 2 * odds k 1 ≤ powers ps es
least k [] es r h = absurd (omega arith)
least k (p ∷ ps) [] r h = absurd r
least k (p ∷ ps) (e ∷ es) r h =
    mul-le-mul {n₁ = 2} {n₂ = p ^ e} (omega (arith, r.0.prime.two, first_power p e (omega (arith, r.0.above)) r.0.exponent))
    (rising_odds k 1 p ps es refl (omega (arith, r.0.above)) r.0.prime.two r.1 (omega arith))

entries_within : (k : ℕ) {m : ℕ} {ps es : List ℕ} → m < 2 * odds k 1 → FactorList m ps es → length ps ≤ k
entries_within k {m} {ps} {es} h f = elim (dec_le (length ps) k) [ yes l ↦ l | no l ↦ absurd (omega (arith, f.product, least k ps es f.rising (omega arith))) ]

exponents_within : (k : ℕ) {m : ℕ} {ps es : List ℕ} → m < 2 ^ suc k → FactorList m ps es → (i : ℕ) → at es i ≤ k
exponents_within k {m} {ps} {es} h f i = elim (dec_lt i (length ps)) [ yes l ↦ inside l | no l ↦ omega (arith, at_past es i (omega (arith, rising_same 0 ps es f.rising))) ]
  where
    inside : i < length ps → at es i ≤ k
    inside l =
        let t = listed f i l in
        elim (dec_le (at es i) k) [ yes e ↦ e | no e ↦ absurd (omega (arith, t.power, pow-le-pow_left t.prime.two (at es i), pow_mono {i = suc k} {j = at es i} (omega arith))) ]

-- "One to seven entries suffice .. No exponent exceeds 19." (document 01, Ring, pattern, readings)
pub seven_entries : {m : ℕ} {ps es : List ℕ} → m ≤ 1000000 → FactorList m ps es → length ps ≤ 7
unfolding odds
seven_entries h f = entries_within 7 (omega arith) f

pub nineteen : {m : ℕ} {ps es : List ℕ} → m ≤ 1000000 → FactorList m ps es → (i : ℕ) → at es i ≤ 19
nineteen h f i = exponents_within 19 (omega arith) f i
