-- Rings modulo p and polynomials modulo x^n - 1 and p: a mix is a product, so inverse, zero readings and ghost polynomial mean the same of both.
-- A ring is the polynomial of its entries; a polynomial of n coefficients below p is a ring. p is any modulus above 1. Assumes nothing.
use Prim.Native.Nat.{ℕ, zero, suc, ◌-◌, ◌%◌, ◌≤◌, ◌<◌}
use mathlib.Core.Path.{◌≡◌, refl, sym, ap, ◌∙◌, fun_ext, subst}
use mathlib.Core.Logic.{◌≢◌, ◌↔◌}
use mathlib.Core.List.{List}
use native.Mathlib.Omega.{arith}
use native.Mathlib.Decide.{dec_lt}
use native.Mathlib.Nat.{mod-eq_of_lt, zero-mod}
use lib.ListN.{length}
use lib.Seq.{ext_get_or}
use Rattle.sums.specs.Table.{at, table}
use Rattle.sums.proofs.Tables.{at_past, at_table, length-table}
use Rattle.ring.specs.Ring.{Ring}
use Rattle.ring.specs.Mix.{mix}
use Rattle.ring.specs.One.{first, one, zeros}
use Rattle.ring.specs.Inverse.{Inverse}
use Rattle.ring.proofs.Entries.{one_ring}
use Rattle.ring.proofs.Product.{mix_ring}
use Rattle.series.specs.Series.{Series, Below, Reduced, Length}
use Rattle.series.specs.Operations as series
use Rattle.series.specs.Operations.{red, mul, term}
use Rattle.series.specs.Congruent.{Congruent}
use Rattle.series.specs.Inverse.{Inverse as InverseSeries}
use Rattle.series.specs.Ghost.{Ghost as GhostSeries}
use Rattle.series.proofs.Lengths.{length_of, below_list, table_series}
use Rattle.series.proofs.Degrees.{below_up, below_none, below_red, reduced_red}
use Rattle.series.proofs.SeriesRing.{red-red}
use Rattle.series.proofs.Folded.{cyclic, product_cyclic}
use Rattle.series.proofs.Ghosts.{Zero, zero-red, one_ghost}
use Rattle.pattern.specs.GhostPolynomial.{Degree, GhostPolynomial}

-- ---- lists and series

-- Two lists of one length with the same entries.
pub same_list : (a b : List ℕ) → length a ≡ length b → at a ≡ at b → a ≡ b
same_list a b l e = ext_get_or 0 a b l (λ i h. ap (λ (s : Series). s i) e)

ring_reduced : (n p : ℕ) (a : List ℕ) → 0 < p → Ring n p a → Reduced p (at a)
unfolding Reduced
ring_reduced n p a z r k = elim (dec_lt k n) [ yes l ↦ r.low k l | no l ↦ omega (arith, at_past a k (omega (arith, r.long))) ]

pub reduced_ring : (n p : ℕ) (a : List ℕ) → length a ≡ n → Reduced p (at a) → Ring n p a
unfolding Reduced
reduced_ring n p a l h = record { long = l; low = λ i b. h i }

zeros_series : (n : ℕ) → at (zeros n) ≡ series.zeros
unfolding zeros series.zeros
zeros_series n = fun_ext λ k. elim (dec_lt k n) [ yes l ↦ at_table n (λ _. 0) k l | no l ↦ at_past (table n (λ _. 0)) k (omega (arith, length-table n (λ _. 0))) ]

zeros_ring : (n p : ℕ) → 0 < p → Ring n p (zeros n)
unfolding zeros
zeros_ring n p z = record { long = length-table n _; low = λ i h. rw (at_table n (λ _. 0) i h) z }

module _ (n p : ℕ) (two : 1 < p) (some : 0 < n) where
  pos : 0 < p
  pos = omega arith

  one_series : at (one n p) ≡ series.one
  unfolding one term
  one_series = fun_ext λ k. elim (dec_lt k n) [
    | yes l ↦ at_table n _ k l ∙ each k
    | no l ↦ at_past (table n (λ k. first k % p)) k (omega (arith, length-table n (λ k. first k % p))) ∙ sym (later k (omega arith))
  ]
    where
      each : (k : ℕ) → first k % p ≡ series.one k
      each zero = mod-eq_of_lt two
      each (suc k) = zero-mod p

      later : (k : ℕ) → n ≤ k → series.one k ≡ 0
      later zero h = omega arith
      later (suc k) h = refl

  -- ---- products

  mix_cyclic : (a b : List ℕ) (k : ℕ) → k < n → at (mix n p a b) k ≡ cyclic n (at a) (at b) k % p
  unfolding mix
  mix_cyclic a b k h = at_table n _ k h

  pub mix_congruent : (a b c : List ℕ) → length a ≡ n → length b ≡ n → Ring n p c → (mix n p a b ≡ c) ↔ Congruent n p (mul p (at a) (at b)) (at c)
  mix_congruent a b c la lb rc = (
    λ e. law.1 (λ k l. sym (mix_cyclic a b k l) ∙ ap (λ (x : List ℕ). at x k) e),
    λ h. ext_get_or 0 (mix n p a b) c (long ∙ sym rc.long) (λ k b. let l : k < n = omega (arith, long) in mix_cyclic a _ k l ∙ law.0 h k l),
  )
    where
      long : length (mix n p a b) ≡ n
      long = (mix_ring n p a b pos).long

      law : Congruent n p (mul p (at a) (at b)) (at c) ↔ ((k : ℕ) → k < n → cyclic n (at a) (at b) k % p ≡ at c k)
      law = product_cyclic n p two some (at a) (at b) (at c) (ring_reduced n p c pos rc) (below_list a n (omega arith)) (below_list b n (omega arith)) (below_list c n (omega (arith, rc.long)))

  zero_series : (f v : List ℕ) → length f ≡ n → length v ≡ n → (mix n p f v ≡ zeros n) ↔ Zero n p (at f) (at v)
  zero_series f v lf lv = subst (λ (s : Series). (mix n p f v ≡ zeros n) ↔ Congruent n p (mul p (at f) (at v)) s) (zeros_series n) (mix_congruent f v (zeros n) lf lv (zeros_ring n p pos))

  -- An inverse among rings is one among polynomials.
  pub inverse_series : (f g : List ℕ) → length f ≡ n → Ring n p g → Inverse n p f g ↔ InverseSeries n p (at f) (at g)
  inverse_series f g lf rg = (
    λ i. record { poly = record { bound = n; below = below_list g n (omega (arith, rg.long)) }; product = law.0 i.product },
    λ i. record { ring = rg; product = law.1 i.product },
  )
    where
      law : (mix n p f g ≡ one n p) ↔ Congruent n p (mul p (at f) (at g)) series.one
      law = subst (λ (s : Series). (mix n p f g ≡ one n p) ↔ Congruent n p (mul p (at f) (at g)) s) one_series (mix_congruent f g (one n p) lf rg.long (one_ring n p pos))

  -- ---- the ghost polynomial

  module _ (f : List ℕ) (lf : length f ≡ n) where
    pub ghost_polynomial : (e : ℕ) (w : List ℕ) → length w ≡ n → GhostSeries n p (at f) e (at w) → GhostPolynomial n p f w
    unfolding Below red series.zeros
    ghost_polynomial e w lw g = record {
      ring = reduced_ring n p w lw g.reduced;
      degree = e;
      is = record { last = λ z. omega (arith, g.monic); above = λ i h. g.below i h };
      monic = g.monic;
      zero = (zero_series f w lf lw).1 g.zero;
      least = λ v d rv dv zv. elim (dec_lt d e) [
        | yes l ↦ absurd (dv.last (sym (mod-eq_of_lt (low v rv d dv.last)) ∙ ap (λ (s : Series). s d) (g.least (at v) (λ k b. dv.above k (omega arith)) ((zero_series f v lf rv.long).0 zv))))
        | no l ↦ omega arith
      ];
    }
      where
        low : (v : List ℕ) → Ring n p v → (d : ℕ) → at v d ≢ 0 → at v d < p
        low v rv d h = elim (dec_lt d n) [ yes l ↦ rv.low d l | no l ↦ absurd (h (at_past v d (omega (arith, rv.long)))) ]

    pub ghost_series : (w : List ℕ) → (g : GhostPolynomial n p f w) → GhostSeries n p (at f) g.degree (at w)
    unfolding Below
    ghost_series w g = record {
      reduced = ring_reduced n p w pos g.ring;
      below = λ k h. g.is.above k h;
      monic = g.monic;
      zero = (zero_series f w lf g.ring.long).0 g.zero;
      least = λ v b h. none v b h (length_of g.degree (red p v) (below_red p g.degree v b));
    }
      where
        inside : g.degree < n
        inside = elim (dec_lt g.degree n) [ yes l ↦ l | no l ↦ absurd (g.is.last (at_past w g.degree (omega (arith, g.ring.long)))) ]

        none : (v : Series) → Below g.degree v → Zero n p (at f) v → (l : ℕ) × Length (red p v) l × (l ≤ g.degree) → red p v ≡ series.zeros
        none v b h (zero, len, le) = below_none (red p v) len.below
        none v b h (suc l, len, le) = absurd (omega (arith, g.least u l ring degree ((zero_series f u lf long).1 dark)))
          where
            u : List ℕ
            u = table n (red p v)

            long : length u ≡ n
            long = length-table n (red p v)

            is : at u ≡ red p v
            is = table_series n (red p v) (below_up g.degree n (red p v) (omega (arith, inside)) (below_red p g.degree v b))

            ring : Ring n p u
            ring = reduced_ring n p u long (subst (Reduced p) (sym is) (reduced_red p v pos))

            dark : Zero n p (at f) (at u)
            dark = subst (Zero n p (at f)) (sym is) (zero-red n p (at f) (at f) v (red p v) refl (sym (red-red p v)) h)

            top : suc l - 1 ≡ l
            top = omega arith

            degree : Degree u l
            degree = record {
              last = λ z. omega (arith, len.top (omega arith), sym (ap (λ (s : Series). s l) is) ∙ z, ap (red p v) top);
              above = λ i h. ap (λ (s : Series). s i) is ∙ len.below i h;
            }

    -- There is only one.
    pub one_polynomial : (w v : List ℕ) → GhostPolynomial n p f w → GhostPolynomial n p f v → w ≡ v
    one_polynomial w v g h = same_list w v (g.ring.long ∙ sym h.ring.long) (one_ghost n p two some (at f) g.degree h.degree (at w) (at v) (ghost_series w g) (ghost_series v h)).1
