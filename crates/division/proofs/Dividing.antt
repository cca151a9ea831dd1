-- The loop of a division: the row r is what a was plus a polynomial times b, with at most r.len coefficients. It starts with the polynomial 0, and each turn
-- adds two terms to it, from the place h past the top, r.len or one more, so that h - b.len is odd. Assumes nothing.
use Prim.Native.Nat.{ℕ, suc, ◌+◌, ◌-◌, ◌≤◌, ◌<◌}
use mathlib.Core.Path.{◌≡◌, sym, ◌∙◌, ap}
use mathlib.Core.List.{List}
use native.Mathlib.Decide.{dec_lt}
use native.Mathlib.Omega.{arith}
use Rattle.sums.specs.Table.{at}
use Rattle.series.specs.Series.{Series, Below, Reduced, Length}
use Rattle.division.specs.Division.{Held, Dividing, Divided}
use Rattle.division.specs.Terms.{Trimmed, Longer, NextTerms, AddableTerms, Added}
use Rattle.series.specs.Operations.{add, mul, zeros, linear}
use Rattle.division.specs.declared.Row.{Row}
use Rattle.division.specs.declared.Terms.{Terms}
use Rattle.series.proofs.SeriesRing
use Rattle.series.proofs.Degrees
use Rattle.division.proofs.Linear.{linear_single, linear_below}
use Rattle.series.proofs.Quotients.{in_parts}

pub record Going (p : ℕ) (a r b : Row) : Type 0 where
  pub quotient : Series
  pub short : Below (a.len + 1 - b.len) quotient
  pub sum : at r.remainder ≡ add p (at a.remainder) (mul p quotient (at b.remainder))
  pub cofactor : at r.cofactor ≡ add p (at a.cofactor) (mul p quotient (at b.cofactor))
  pub held : Held p r
  pub below : Below r.len (at r.remainder)
  pub most : r.len ≤ a.len
  pub length : r.len < b.len → Length (at r.remainder) r.len

module _ {p k z : ℕ} {a b : Row} (d : Dividing p k a b z) where
  pub going_start : Going p a a b
  going_start = record {
    quotient = zeros;
    short = Degrees.below_zeros (a.len + 1 - b.len);
    sum = none (at a.remainder) (at b.remainder) d.division.dividend.remainder.reduced;
    cofactor = none (at a.cofactor) (at b.cofactor) d.division.dividend.cofactor.reduced;
    held = d.division.dividend;
    below = d.division.below₀;
    most = omega arith;
    length = λ h. absurd (omega (arith, d.order));
  }
    where
      none : (x y : Series) → Reduced p x → x ≡ add p x (mul p zeros y)
      none x y h = sym (ap (add p x) (SeriesRing.zeros-mul p y) ∙ SeriesRing.add-zeros p x ∙ Degrees.red_id p x h)

  module _ {r : Row} {h : ℕ} (g : Going p a r b) (from : r.len ≤ h) (to : h ≤ r.len + 1) (odd : b.len < h) where
    pub longer : Longer p h r b z
    longer = record {
      division = record {
        modulus = d.division.modulus;
        dividend = g.held;
        divisor = d.division.divisor;
        below₀ = Degrees.below_up r.len h (at r.remainder) from g.below;
        below₁ = d.division.below₁;
        some = d.division.some;
        lead = d.division.lead;
      };
      order = odd;
      most = omega (arith, g.most, d.room);
    }

    module _ {t : Terms} (n : NextTerms p h r b t) where
      pub addable_r : AddableTerms t b.len r.remainder b.remainder
      addable_r = record {
        modulus = rw n.low d.division.modulus;
        same = n.high ∙ sym n.low;
        onto = rw n.low g.held.remainder;
        from = rw n.low d.division.divisor.remainder;
        below = d.division.below₁;
        room = omega (arith, n.shift, g.most, d.room);
      }

      pub addable_s : AddableTerms t k r.cofactor b.cofactor
      addable_s = record {
        modulus = rw n.low d.division.modulus;
        same = n.high ∙ sym n.low;
        onto = rw n.low g.held.cofactor;
        from = rw n.low d.division.divisor.cofactor;
        below = d.cofactors.below;
        room = omega (arith, n.shift, g.most, d.cofactors.room);
      }

      abbrev terms : Series
      terms = linear t.low.value t.high.value t.shift

      -- The terms have a.len + 1 - b.len coefficients: where h is above r.len, the higher is 0.
      terms_short : Below (a.len + 1 - b.len) terms
      terms_short = elim (dec_lt r.len h) [
        | yes l ↦ rw (n.none (Degrees.below_at r.len (at r.remainder) g.below (h - 1) (omega arith))) (Degrees.below_up (suc t.shift) (a.len + 1 - b.len) (linear t.low.value 0 t.shift) (omega (arith, n.shift, g.most)) (linear_single t.low.value t.shift))
        | no l ↦ Degrees.below_up (suc (suc t.shift)) (a.len + 1 - b.len) terms (omega (arith, n.shift, g.most)) (linear_below t.low.value t.high.value t.shift)
      ]

      module _ {x : List ℕ} (u : Added t r.remainder x b.remainder) where
        pub lower : Below (h - 2) (at x)
        lower = rw (u.sum, n.low) n.away

        pub going_on : {y : List ℕ} {l : ℕ} → Added t r.cofactor y b.cofactor → Trimmed x (h - 2) l → Going p a (record { remainder = x; cofactor = y; len = l }) b
        going_on v e = record {
          quotient = add p g.quotient terms;
          short = Degrees.below_add p (a.len + 1 - b.len) g.quotient terms g.short terms_short;
          sum = rw n.low at u.sum ∙ in_parts p (at a.remainder) (at b.remainder) (at r.remainder) g.quotient terms g.sum;
          cofactor = rw n.low at v.sum ∙ in_parts p (at a.cofactor) (at b.cofactor) (at r.cofactor) g.quotient terms g.cofactor;
          held = record { remainder = rw n.low at u.held; cofactor = rw n.low at v.held };
          below = e.length.below;
          most = omega (arith, e.most, g.most);
          length = λ _. e.length;
        }

  pub going_end : {r : Row} → Going p a r b → r.len < b.len → Divided p a r b
  going_end {r} g h = record {
    quotient = g.quotient;
    short = g.short;
    remainder = record { poly = record { bound = a.len + 1 - b.len; below = g.short }; sum = g.sum; below = Degrees.below_up r.len (b.len - 1) (at r.remainder) (omega arith) g.below };
    cofactor = g.cofactor;
    held = g.held;
    length = g.length h;
    less = h;
  }
