-- The ghost: the only one of its kind; a ring of counts, not all zero modulo m, whose readings are all zero; [m/p, 0, .., 0] where f is zero modulo p.
-- m / p times what is zero modulo p is zero modulo m, and the leading coefficient m / p is not. Assumes nothing.
use Prim.Native.Nat.{ℕ, zero, suc, ◌+◌, ◌*◌, ◌/◌, ◌%◌, ◌≤◌, ◌<◌, ◌∣◌}
use mathlib.Core.Path.{◌≡◌, sym, ap, ◌∙◌}
use mathlib.Core.Logic.{◌≢◌}
use mathlib.Core.List.{List}
use native.Mathlib.Omega.{arith}
use native.Mathlib.Decide.{dec_lt}
use native.Mathlib.Nat.{div-mul_cancel, div-add-mod, mul-mod_right, mod-eq_of_lt, mul-one, mul-le-mul_left}
use lib.ListN.{length}
use Rattle.sums.specs.Table.{at, table}
use Rattle.sums.proofs.Tables.{at_table, at_past, length-table, table_eq, table_inj}
use Rattle.ring.specs.Ring.{Ring}
use Rattle.ring.specs.Mix.{mix}
use Rattle.ring.specs.One.{first, one, zeros}
use Rattle.ring.specs.Entrywise.{scale}
use Rattle.ring.specs.Reduce.{reduce}
use Rattle.ring.proofs.Entries.{first_later, first-le, one_ring}
use Rattle.ring.proofs.Product.{mix-one, mix-reduce, mix-scale}
use Rattle.ring.proofs.Reduce.{reduce-mix-dvd}
use Rattle.modular.specs.Prime.{Prime}
use Rattle.pattern.specs.Singular.{Singular}
use Rattle.pattern.specs.GhostPolynomial.{GhostPolynomial}
use Rattle.pattern.specs.Ghost.{Ghost}
use Rattle.pattern.proofs.Link.{one_polynomial}
use Rattle.pattern.proofs.OnePrime.{zero_singular}

pub one_ghost : (n m : ℕ) (f : List ℕ) {p : ℕ} {x y : List ℕ} → 0 < n → length f ≡ n → 2 ≤ p → Ghost n m f p x → Ghost n m f p y → x ≡ y
one_ghost n m f {p} some lf two a b = rw (a.times, b.times, one_polynomial n p two some f lf a.w b.w a.polynomial b.polynomial)

-- m / p of a prime p of m.
module _ {m p : ℕ} (two : 2 ≤ p) (some : 0 < m) (d : p ∣ m) where
  whole : m / p * p ≡ m
  whole = div-mul_cancel p d

  part_some : 0 < m / p
  part_some = pos (m / p) whole
    where
      pos : (t : ℕ) → t * p ≡ m → 0 < t
      pos zero e = absurd (omega arith)
      pos (suc t) e = omega arith

  part_low : m / p < m
  part_low = omega (arith, whole, part_some, mul-le-mul_left (m / p) two)

  -- m / p times a multiple of p is a multiple of m.
  part_gone : (x : ℕ) → x % p ≡ 0 → m / p * x % m ≡ 0
  part_gone x e =
      ap (λ (y : ℕ). y % m) (omega (arith, ap (λ (y : ℕ). m / p * y) (div-add-mod x p), ap (λ (y : ℕ). m / p * y) e, ap (λ (y : ℕ). y * (x / p)) whole)) ∙ mul-mod_right m (x / p)

module _ (n m : ℕ) (f : List ℕ) {p : ℕ} {new : List ℕ} (two : 2 ≤ p) (some : 0 < m) (d : p ∣ m) (g : Ghost n m f p new) where
  place : g.polynomial.degree < n
  place = elim (dec_lt g.polynomial.degree n) [ yes l ↦ l | no l ↦ absurd (g.polynomial.is.last (at_past g.w g.polynomial.degree (omega (arith, g.polynomial.ring.long)))) ]

  -- A ring modulo m.
  pub ghost_ring : Ring n m new
  ghost_ring = record { long = ap length g.times ∙ length-table n _; low = λ i h. omega (arith, ap (λ (l : List ℕ). at l i) g.times ∙ at_table n _ i h, whole two some d, part_some two some d, entry i h) }
    where
      entry : (i : ℕ) → i < n → m / p * at g.w i + m / p ≤ m / p * p
      entry i h = omega (arith, mul-le-mul_left (m / p) (g.polynomial.ring.low i h))

  -- Not all zero.
  pub ghost_some : (i : ℕ) × (i < n) × (at new i % m ≢ 0)
  ghost_some = (g.polynomial.degree, place, λ z. omega (arith, part_some two some d, sym (mod-eq_of_lt (part_low two some d)) ∙ ap (λ (x : ℕ). x % m) (sym value) ∙ z))
    where
      value : at new g.polynomial.degree ≡ m / p
      value = ap (λ (x : List ℕ). at x g.polynomial.degree) g.times ∙ at_table n _ g.polynomial.degree place ∙ ap (λ (x : ℕ). m / p * x) g.polynomial.monic ∙ mul-one (m / p)

  -- Its readings are all zero.
  pub ghost_silent : mix n m f new ≡ zeros n
  unfolding reduce scale zeros
  ghost_silent =
      ap (mix n m f) g.times ∙ sym (mix-reduce n m f _) ∙ ap (mix n m f) scaled ∙ mix-scale n m (m / p) f g.w
      ∙ table_eq n _ _ λ k h. part_gone two some d (at (mix n m f g.w) k) (table_inj n _ _ k h down)
    where
      scaled : reduce n m (table n (λ k. m / p * at g.w k)) ≡ scale n m (m / p) g.w
      scaled = table_eq n _ _ λ k h. ap (λ (x : ℕ). x % m) (at_table n _ k h)

      down : reduce n p (mix n m f g.w) ≡ zeros n
      down = reduce-mix-dvd n m p d f g.w ∙ g.polynomial.zero

-- ---- "If f is zero modulo p" (document 01, When there is no inverse)

module _ (n p : ℕ) (prime : Prime p) (some : 0 < n) (f : List ℕ) (zero : (i : ℕ) → i < n → at f i % p ≡ 0) where
  at_one : (k : ℕ) → k < n → at (one n p) k ≡ first k
  unfolding one
  at_one k h = at_table n _ k h ∙ mod-eq_of_lt (omega (arith, first-le k, prime.two))

  silent : mix n p f (one n p) ≡ zeros n
  unfolding reduce zeros
  silent = mix-one n p f ∙ table_eq n _ _ zero

  -- The ghost polynomial is 1.
  polynomial : GhostPolynomial n p f (one n p)
  polynomial = record {
    ring = one_ring n p (omega (arith, prime.two));
    degree = 0;
    is = record {
      last = λ e. omega (arith, at_one 0 some, e);
      above = λ i h. elim (dec_lt i n) [ yes l ↦ at_one i l ∙ first_later i (λ e. omega arith) | no l ↦ at_past (one n p) i (omega (arith, (one_ring n p (omega (arith, prime.two))).long)) ];
    };
    monic = at_one 0 some;
    zero = silent;
    least = λ v d r h e. omega arith;
  }

  pub zero_pattern : (m : ℕ) → length f ≡ n → Singular n p f × Ghost n m f p (table n (λ k. m / p * first k))
  zero_pattern m lf = (
    zero_singular n p prime some f lf (one n p) polynomial.degree polynomial.ring polynomial.is.last silent,
    record { w = one n p; polynomial = polynomial; times = table_eq n _ _ λ k h. ap (λ (x : ℕ). m / p * x) (sym (at_one k h)) },
  )
