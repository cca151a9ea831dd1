-- One round, step by step: what each of the four functions is given holds, and what they leave is 2 g - g² f modulo q, which is right modulo q wherever
-- g was right modulo some r with r ∣ q ∣ r². Assumes nothing.
use Prim.Native.Nat.{ℕ, ◌+◌, ◌*◌, ◌-◌, ◌%◌, ◌^◌, ◌≤◌, ◌<◌, ◌∣◌, min}
use mathlib.Core.Path.{◌≡◌, sym, ap, ◌∙◌, subst}
use mathlib.Core.List.{List}
use native.Mathlib.Omega.{arith}
use native.Mathlib.Decide.{dec_le}
use lib.Pow.{pow-add}
use native.Mathlib.Nat.{pow-suc, pow-zero, one-mul, one-le-pow, le_of_dvd, lt_of_lt_of_le, min-eq_left, min-eq_right}
use lib.ListN.{length}
use Rattle.sums.specs.Table.{at, table}
use Rattle.ring.specs.Ring.{Ring}
use Rattle.ring.specs.Mix.{mix}
use Rattle.ring.specs.Reduce.{reduce}
use Rattle.ring.specs.Inverse.{Inverse}
use Rattle.ring.proofs.Entries.{reduce_ring}
use Rattle.ring.proofs.Product.{mix_ring, mix-reduce}
use Rattle.ring.proofs.Lift.{lifted, lift_inverse}
use Rattle.convolve.specs.Mixable.{Mixable}
use Rattle.convolve.proofs.Rings.{rings_mixable, low_everywhere}
use Rattle.lift.specs.Asks.{Lessened, Round, Rounded, Liftable}
use Rattle.lift.specs.declared.power.Power.{Power}
use Rattle.lift.proofs.Lifting.{lifted_table, power_divides, reached, reached_start, reached_next}

module _ {f g p₀ s₀ t₀ : List ℕ} {q : ℕ} (pre : Round f g q p₀ s₀ t₀) where
  pub squaring : Mixable g g q s₀
  squaring = rings_mixable (length f) q g g s₀ pre.some pre.few pre.positive pre.limit pre.ring pre.ring pre.square_long

  module _ {pattern square : List ℕ} (ep : pattern ≡ reduce (length f) q f) (es : square ≡ mix (length g) q g g) where
    square_is : square ≡ mix (length f) q g g
    square_is = es ∙ ap (λ (k : ℕ). mix k q g g) pre.ring.long

    square_ring : Ring (length f) q square
    square_ring = subst (Ring (length f) q) (sym square_is) (mix_ring (length f) q g g pre.positive)

    pattern_ring : Ring (length f) q pattern
    pattern_ring = subst (Ring (length f) q) (sym ep) (reduce_ring (length f) q f pre.positive)

    pub multiplying : Mixable square pattern q t₀
    multiplying =
        rings_mixable (length f) q square pattern t₀ pre.some pre.few pre.positive pre.limit square_ring pattern_ring pre.product_long

    module _ {product : List ℕ} (et : product ≡ mix (length square) q square pattern) where
      product_is : product ≡ mix (length f) q (mix (length f) q g g) f
      product_is =
          et ∙ ap (λ (k : ℕ). mix k q square pattern) square_ring.long ∙ ap (λ (l : List ℕ). mix (length f) q square l) ep ∙ mix-reduce (length f) q square f
          ∙ ap (λ (l : List ℕ). mix (length f) q l f) square_is

      product_ring : Ring (length f) q product
      product_ring = subst (Ring (length f) q) (sym product_is) (mix_ring (length f) q _ f pre.positive)

      pub lessening : Lessened g product q
      lessening = record {
        positive = pre.positive;
        limit = pre.limit;
        long = product_ring.long ∙ sym pre.ring.long;
        low_g = low_everywhere (length f) q g pre.positive pre.ring;
        low_h = low_everywhere (length f) q product pre.positive product_ring;
      }

      pub rounded : {new : List ℕ} → new ≡ table (length g) (λ k. (2 * at g k + (q - at product k)) % q) → Rounded f g q new
      rounded {new} e = record { inverse = λ r d s a. subst (Inverse (length f) q f) (sym new_is) (lift_inverse (length f) q r pre.positive d s a) }
        where
          new_is : new ≡ lifted (length f) q f g
          new_is =
              e ∙ ap (λ (k : ℕ). table k (λ j. (2 * at g j + (q - at product j)) % q)) pre.ring.long
              ∙ ap (λ (l : List ℕ). table (length f) (λ j. (2 * at g j + (q - at l j)) % q)) product_is ∙ sym (lifted_table (length f) q f g)

-- ---- rounds along the powers of p: before round t the modulus is p^min(2^t, k), and after it the square of that, but at most p^k

power_min : (p a b : ℕ) → 0 < p → min (p ^ a) (p ^ b) ≡ p ^ min a b
power_min p a b z = elim (dec_le a b) [
  | yes l ↦ min-eq_left (le_of_dvd (one-le-pow b p z) (power_divides p a b l)) ∙ ap (λ (e : ℕ). p ^ e) (sym (min-eq_left l))
  | no l ↦ (let h : b ≤ a = omega arith in min-eq_right (le_of_dvd (one-le-pow a p z) (power_divides p b a h)) ∙ ap (λ (e : ℕ). p ^ e) (sym (min-eq_right h)))
]

pub power_first : (p k : ℕ) → 1 ≤ k → p ^ reached k 0 ≡ p
power_first p k h = ap (λ (e : ℕ). p ^ e) (reached_start k h) ∙ rw (pow-suc p 0, pow-zero p) (one-mul p)

module _ {f g₀ : List ℕ} {power : Power} (pre : Liftable f g₀ power) (t : ℕ) {q q' : ℕ} (at-q : q ≡ power.prime ^ reached power.exponent t) (next : q' ≡ min (q * q) power.value) where
  abbrev p : ℕ
  p = power.prime

  abbrev k : ℕ
  k = power.exponent

  positive : 0 < p
  positive = omega (arith, power.above)

  pub power_next : q' ≡ p ^ reached k (t + 1)
  power_next =
      next ∙ (λ i. min (at-q i * at-q i) (power.is i)) ∙ ap (λ (x : ℕ). min x (p ^ k)) (sym (pow-add p (reached k t) (reached k t)))
      ∙ power_min p (reached k t + reached k t) k positive ∙ ap (λ (e : ℕ). p ^ e) (sym (reached_next k t))

  divides : q ∣ q'
  divides = subst (λ (x : ℕ). q ∣ x) (sym power_next) (subst (λ (x : ℕ). x ∣ p ^ reached k (t + 1)) (sym at-q) (power_divides p (reached k t) (reached k (t + 1)) (omega (arith, reached_next k t))))

  divides_square : q' ∣ q * q
  divides_square =
      subst (λ (x : ℕ). x ∣ q * q) (sym power_next)
      (subst (λ (x : ℕ). p ^ reached k (t + 1) ∣ x) (pow-add p (reached k t) (reached k t) ∙ (λ i. sym at-q i * sym at-q i)) (power_divides p (reached k (t + 1)) (reached k t + reached k t) (omega (arith, reached_next k t))))

  above : 0 < q'
  above = rw power_next (one-le-pow (reached k (t + 1)) p positive)

  module _ {g : List ℕ} (a : Inverse (length f) (p ^ reached k t) f g) where
    now : Inverse (length f) q f g
    now = subst (λ (x : ℕ). Inverse (length f) x f g) (sym at-q) a

    pub round_ready : {pattern square product : List ℕ} → length pattern ≡ length f → length square ≡ length f → length product ≡ length f → Round f g q' pattern square product
    round_ready ep es et = record {
      positive = above;
      limit = omega (arith, next, power.limit);
      some = pre.some;
      few = pre.few;
      ring = record { long = a.ring.long; low = λ i h. lt_of_lt_of_le (now.ring.low i h) (le_of_dvd above divides) };
      pattern_long = ep;
      square_long = es;
      product_long = et;
    }

    pub round_done : {new : List ℕ} → Rounded f g q' new → Inverse (length f) (p ^ reached k (t + 1)) f new
    round_done {new} r = subst (λ (x : ℕ). Inverse (length f) x f new) power_next (r.inverse q divides divides_square now)
