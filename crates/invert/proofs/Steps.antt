-- The steps along the factor list, as the code takes them: Euclid on f modulo p, the lift to p^k, and joining with what stands already.
-- Each says over plain variables what a function is given and what its result means. Assumes nothing.
use Rattle.std.specs.Prelude.{Result, Ok, Err, Some, IsOk, replicate}
use Prim.Native.Nat.{ℕ, zero, suc, ◌+◌, ◌*◌, ◌/◌, ◌^◌, ◌≤◌, ◌<◌}
use mathlib.Core.Path.{◌≡◌, refl, sym, ap, ◌∙◌, subst}
use mathlib.Core.List.{List, ◌∷◌}
use native.Mathlib.Omega.{arith}
use native.Mathlib.Decide.{dec_lt}
use native.Mathlib.Nat.{mul_comm, mul-le-mul_left, div-mul_cancel, le_trans, pow-zero, pow-suc, pow-le-pow_right}
use lib.ListN.{length}
use denote.Ref.{Bor}
use Rattle.std.specs.Iterator.{Yields}
use Rattle.std.specs.Iterator.Adapters.{zip_first, zip_second}
use Rattle.std.specs.Slice.Iter.{iter_rest}
use Rattle.std.specs.declared.slice.Iter.{Iter}
use Rattle.std.specs.declared.iter.Zip.{Zip}
use Rattle.std.proofs.iter.Yields.{fronts}
use Rattle.std.proofs.lemmas.Iterator.{zips}
use Rattle.std.proofs.lemmas.Slice.Zip.{zip_turn}
use Rattle.sums.specs.Table.{at, table}
use Rattle.sums.proofs.Tables.{at_past}
use Rattle.slices.specs.Asks.{Multipliable}
use Rattle.limits.specs.Limits.{most_modulus}
use Rattle.modular.specs.FactorList.{powers}
use Rattle.modular.specs.Finds as finds
use Rattle.modular.specs.declared.inverse.Shares.{Shares}
use Rattle.modular.proofs.Factors.{listed, rising_same}
use Rattle.ring.specs.One.{zeros}
use Rattle.ring.specs.Inverse.{Inverse, Invertible}
use Rattle.ring.proofs.Glue.{inverse_none}
use Rattle.euclid.specs.Answer.{Answers, Solvable}
use Rattle.euclid.specs.declared.Shared.{Shared}
use Rattle.lift.specs.declared.power.Power.{Power}
use Rattle.factors.specs.Factored.{Factored, factored}
use Rattle.pattern.specs.Singular.{Singular}
use Rattle.pattern.proofs.Link.{reduced_ring, inverse_series}
use Rattle.pattern.proofs.OnePrime.{haunted_ring}
use Rattle.pattern.proofs.FirstPowers.{first-powers, first_next, first_all, first_some, first_low, first_apart, power_above, power_shares}
use Rattle.pattern.proofs.Patterns.{smallest_next}
use Rattle.invert.specs.Inversions.{CanInvert, Inversion}
use Rattle.invert.specs.Inner.{PrimePower, PowerFound, Apart, NextPower, Progressed, SolveMeans, Solved}
use Rattle.invert.specs.declared.Ghost.{Ghost}

-- ---- modulo p, and modulo its power

module _ {f out : List ℕ} {power : Power} (pre : PrimePower f power out) where
  abbrev p : ℕ
  p = power.prime

  -- p is at most its power.
  low : p ≤ most_modulus
  low =
      let least = pow-le-pow_right {n = p} (omega (arith, pre.prime.two)) power.some in
      omega (arith, least, pow-suc p 0, ap (λ (x : ℕ). x * p) (pow-zero p), power.is, power.limit)

  pub solvable : Solvable p f out
  solvable = record { sizes = record { prime = pre.prime; word = omega (arith, low); some = pre.some; most = pre.few }; room = pre.long }

  module _ {new : List ℕ} where
    pub inverted : {u : Unit {0}} → Answers (length f) p (at f) new (Ok u) → Inverse (length f) p f new
    inverted a = (inverse_series (length f) p pre.prime.two pre.some f new refl (reduced_ring (length f) p new a.long a.reduced)).1 a.means

    pub haunting : {s : Shared} → Answers (length f) p (at f) new (Err s) → PowerFound f power new (Err s)
    haunting {s} a = record { means = haunted_ring (length f) p pre.prime pre.some f refl s.degree new a.long a.means }

-- What the inverse or the ghost polynomial modulo the next power stands in.
pub prime_power : {f acc g : List ℕ} {power : Power} {big : ℕ} → NextPower f power big acc → length g ≡ length f → PrimePower f power g
prime_power pre l = record { prime = pre.prime; some = pre.some; few = pre.few; long = l }

-- ---- joining

-- Numbers that share no factor: an inverse is found.
pub apart_found : {q big : ℕ} {r : Result ℕ Shares} → ((d : ℕ) → finds.Shared q big d → ⊥) → finds.Finds q big r → IsOk r
apart_found {r = Ok z} apart f = refl
apart_found {r = Err s} apart f = absurd (apart s.divisor ((f.shares s.divisor).0 refl))

pub apart : {f acc g : List ℕ} {power : Power} {big : ℕ} {u : Unit {0}} → NextPower f power big acc → PowerFound f power g (Ok u) → Apart g acc power.value big
apart {power = power} {big} pre found =
    let same = found.means.ring.long in
    record {
      above = rw power.is (power_above power.prime power.exponent pre.prime.two power.some);
      limit = pre.limit;
      some = pre.positive;
      apart = λ d s. power_shares power.prime power.exponent big pre.prime pre.apart (subst (λ (x : ℕ). finds.Shared x big d) power.is s);
      ring = rw same found.means.ring;
      ring' = rw same pre.inverse.ring;
    }

-- An array of zeros is the ring of zeros.
zeros_filled : (n : ℕ) → zeros n ≡ replicate n 0
unfolding zeros table
zeros_filled zero = refl
zeros_filled (suc n) = ap (λ (l : List ℕ). 0 ∷ l) (zeros_filled n)

-- ---- along the factor list: before entry i, acc is the inverse modulo the product of the first i powers

-- Entry i is p with its exponent k.
pub record Turn (ps es : List ℕ) (i p k : ℕ) : Type 0 where
  pub inside : i < length ps
  pub prime : p ≡ at ps i
  pub exponent : k ≡ at es i

-- The pair that a loop over both lists is at.
pub turned : {ps es : List ℕ} {k : ℕ} (xs : List (Bor ℕ × Bor ℕ)) (s t u : Zip (Iter ℕ) (Iter ℕ)) (x : Bor ℕ × Bor ℕ) → iter_rest (zip_first s) ≡ ps → iter_rest (zip_second s) ≡ es → Yields (zips fronts fronts) s xs t
    → zips fronts fronts t (Some x) u → k ≡ x.1.now → Turn ps es (length xs) x.0.now k
turned {ps} {es} xs s t u x first second before now e =
    let turn = zip_turn ps es xs s t u (Some x) first second before x refl now in
    record { inside = turn.0; prime = turn.2 0; exponent = e ∙ turn.3 0 }

module _ {f out : List ℕ} {M : Factored} (pre : CanInvert f M out) where
  abbrev ps : List ℕ
  ps = M.primes

  abbrev es : List ℕ
  es = M.exponents

  pub same_lists : length ps ≡ length es
  same_lists = rising_same 0 ps es pre.granted.factors.rising

  pub walk_start : {acc : List ℕ} → acc ≡ replicate (length out) 0 → Inverse (length f) 1 f acc
  walk_start {acc} e = subst (Inverse (length f) 1 f) (ap zeros (sym pre.long) ∙ zeros_filled (length out) ∙ sym e) (inverse_none (length f) f)

  pub walk_end : {acc : List ℕ} {big : ℕ} (i : ℕ) → i ≡ length ps → big ≡ first-powers ps es i → Inverse (length f) big f acc → Solved f M.modulus acc (Ok tt)
  walk_end {acc} i e b a = record { means = subst (λ (x : ℕ). Inverse (length f) x f acc) (b ∙ ap (first-powers ps es) e ∙ first_all pre.granted.factors) a }

  pub powered : {i p k : ℕ} → Turn ps es i p k → (1 < p) × (1 ≤ k) × (p ^ k ≤ most_modulus)
  powered {i} turn =
      let entry = listed pre.granted.factors i turn.inside in
      rw (turn.prime, turn.exponent) (entry.prime.two, entry.exponent, le_trans entry.power pre.granted.legal.high)

  module _ {i p k : ℕ} (turn : Turn ps es i p k) (power : Power) (made : (power.prime ≡ p) × (power.exponent ≡ k)) {big : ℕ} (b : big ≡ first-powers ps es i) where
    prime_is : power.prime ≡ at ps i
    prime_is = made.0 ∙ turn.prime

    next_is : power.value * big ≡ first-powers ps es (i + 1)
    next_is = rw (power.is, prime_is, made.1, turn.exponent, b) (mul_comm (at ps i ^ at es i) (first-powers ps es i) ∙ sym (first_next pre.granted.factors i turn.inside))

    module _ {acc : List ℕ} (a : Inverse (length f) big f acc) where
      pub walk-next : NextPower f power big acc
      walk-next = record {
        prime = rw prime_is (listed pre.granted.factors i turn.inside).prime;
        limit = le_trans (subst (λ (x : ℕ). x ≤ M.modulus) (sym next_is) (first_low pre.granted.factors (i + 1))) pre.granted.legal.high;
        some = pre.granted.legal.some;
        few = pre.granted.legal.few;
        positive = rw b (first_some pre.granted.factors i);
        apart = rw (b, prime_is) (first_apart pre.granted.factors i turn.inside);
        inverse = a;
      }

      module _ {new : List ℕ} where
        pub walk-joined : {next : ℕ} → Progressed f power big new (Ok next) → (next ≡ first-powers ps es (i + 1)) × Inverse (length f) next f new
        walk-joined s = (s.means.0 ∙ next_is, subst (λ (x : ℕ). Inverse (length f) x f new) (sym s.means.0) s.means.1)

        pub walk_dark : {g : Ghost} → Progressed f power big new (Err g) → Solved f M.modulus new (Err g)
        walk_dark {g} s =
            let before : Invertible (length f) (first-powers ps es i) f = record { inverse = acc; is = subst (λ (x : ℕ). Inverse (length f) x f acc) b a } in
            let singular = subst (λ (x : ℕ). Singular (length f) x f) prime_is s.means.1 in
            let smallest = smallest_next pre.granted.factors (length f) pre.granted.legal.some f refl i turn.inside before singular in
            record { means = rw s.means.0 (rw prime_is smallest, s.means.2) }

-- m is the product of the powers.
pub at-powers : {f ps es out : List ℕ} {m : ℕ} → CanInvert f (factored m ps es) out → CanInvert f (factored (powers ps es) ps es) out
at-powers {f} {ps} {es} {out} pre = subst (λ (x : ℕ). CanInvert f (factored x ps es) out) (sym pre.granted.factors.product) pre

-- ---- from what `solve` found to the ghost: the prime is above 0, and m / p times an entry of the ghost polynomial is below m

module _ {f out : List ℕ} {M : Factored} (pre : CanInvert f M out) {new : List ℕ} {found : Inversion} (s : Solved f M.modulus new found) where
  -- What was found, where its variant is known.
  pub known : {k : Inversion} → found ≡ k → SolveMeans f M.modulus new k
  known e = subst (SolveMeans f M.modulus new) e s.means

  module _ {g : Ghost} (e : found ≡ Err g) where
    pub ghost_prime : 0 < g.prime
    ghost_prime = omega (arith, (known e).0.prime.two)

    ghost_low : (k : ℕ) → at new k < g.prime
    ghost_low k = elim (dec_lt k (length f)) [ yes h ↦ (known e).1.ring.low k h | no h ↦ rw (at_past new k (omega (arith, (known e).1.ring.long))) ghost_prime ]

    pub ghost_fits : Multipliable new (M.modulus / g.prime)
    ghost_fits = record {
      fits = λ k. omega (arith, mul-le-mul_left {m = at new k} {n = g.prime} (M.modulus / g.prime) (omega (arith, ghost_low k)), div-mul_cancel g.prime (known e).0.divides, pre.granted.legal.high);
    }
