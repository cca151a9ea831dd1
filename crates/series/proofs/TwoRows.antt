-- The rows of the extended Euclid: where they start, that a division keeps them, with the rows exchanged, and their lengths; and what they say
-- at the end, where r₁ is 0: x^n - 1 = κ s₁ r₀ and f = - κ t₁ r₀. Modulo any m above 1. Assumes nothing.
use Prim.Native.Nat.{ℕ, suc, ◌+◌, ◌-◌, ◌≤◌, ◌<◌}
use mathlib.Core.Path.{◌≡◌, sym, ◌∙◌, ap}
use native.Mathlib.Omega.{arith}
use Rattle.series.specs.Series.{Series, Below, Polynomial, Reduced, Length}
use Rattle.series.specs.Rows.{Rows, State}
use Rattle.series.specs.Operations.{red, add, mul, zeros, one, xn_minus_one}
use Rattle.series.specs.Remainder.{Remainder}
use Rattle.series.proofs.Products.{term_below}
use Rattle.series.proofs.SeriesRing
use Rattle.series.proofs.SeriesRing.{neg, ring}
use Rattle.series.proofs.Degrees
use Rattle.series.proofs.Cycle

pos : {m : ℕ} → 1 < m → 0 < m
pos two = omega arith

module _ {n m : ℕ} (two : 1 < m) (some : 0 < n) {f : Series} where
  rows_start : red m f ≡ f → Rows n m f (xn_minus_one n m) f zeros one
  rows_start hf = record {
    t₀ = one;
    t₁ = zeros;
    κ = one;
    row₀ = sym (ap (λ (x : Series). add m x (mul m one (xn_minus_one n m))) (SeriesRing.zeros-mul m f) ∙ SeriesRing.zeros-add m (mul m one (xn_minus_one n m)) ∙ SeriesRing.red-mul m one (xn_minus_one n m) ∙ SeriesRing.one-mul m (xn_minus_one n m) ∙ Cycle.cycle_red n m two some);
    row₁ = sym (ap (add m (mul m one f)) (SeriesRing.zeros-mul m (xn_minus_one n m)) ∙ SeriesRing.add-zeros m (mul m one f) ∙ SeriesRing.red-mul m one f ∙ SeriesRing.one-mul m f ∙ hf);
    cross = sym (ap (λ (x : Series). add m x (mul m one (xn_minus_one n m))) (SeriesRing.zeros-mul m f) ∙ SeriesRing.zeros-add m (mul m one (xn_minus_one n m)) ∙ SeriesRing.red-mul m one (xn_minus_one n m));
    square = SeriesRing.one-mul m one ∙ Degrees.red-one m two;
    constant = term_below 1 0;
    poly₀ = Degrees.poly_term 1 0;
    poly₁ = Degrees.poly_zeros;
  }

  -- r₀ += q r₁, s₀ += q s₁.
  rows_step : {r₀ r₁ s₀ s₁ : Series} (q : Series) → Polynomial q → Rows n m f r₀ r₁ s₀ s₁ → Rows n m f (add m r₀ (mul m q r₁)) r₁ (add m s₀ (mul m q s₁)) s₁
  rows_step {r₀} {r₁} {s₀} {s₁} q pq w = record {
    t₀ = add m w.t₀ (mul m q w.t₁);
    t₁ = w.t₁;
    κ = w.κ;
    row₀ = ap (λ (x : Series). add m x (mul m q r₁)) w.row₀ ∙ ap (λ (x : Series). add m (add m (mul m s₀ f) (mul m w.t₀ (xn_minus_one n m))) (mul m q x)) w.row₁ ∙ sorted₀ q f (xn_minus_one n m) s₀ s₁ w.t₀ w.t₁;
    row₁ = w.row₁;
    cross = SeriesRing.mul-add m s₁ r₀ (mul m q r₁) ∙ ap (λ (x : Series). add m x (mul m s₁ (mul m q r₁))) w.cross ∙ sorted q r₁ s₀ s₁ (mul m w.κ (xn_minus_one n m));
    square = w.square;
    constant = w.constant;
    poly₀ = Degrees.poly_add m w.t₀ (mul m q w.t₁) w.poly₀ (Degrees.poly_mul m q w.t₁ pq w.poly₁);
    poly₁ = w.poly₁;
  }
    where
      sorted₀ : (q f M s₀ s₁ t₀ t₁ : Series) → add m (add m (mul m s₀ f) (mul m t₀ M)) (mul m q (add m (mul m s₁ f) (mul m t₁ M))) ≡ add m (mul m (add m s₀ (mul m q s₁)) f) (mul m (add m t₀ (mul m q t₁)) M)
      sorted₀ q f M s₀ s₁ t₀ t₁ = simp ring

      sorted : (q r₁ s₀ s₁ k : Series) → add m (add m (mul m s₀ r₁) k) (mul m s₁ (mul m q r₁)) ≡ add m (mul m (add m s₀ (mul m q s₁)) r₁) k
      sorted q r₁ s₀ s₁ k = simp ring

  rows_swap : {r₀ r₁ s₀ s₁ : Series} → Rows n m f r₀ r₁ s₀ s₁ → Rows n m f r₁ r₀ s₁ s₀
  rows_swap {r₀} {r₁} {s₀} {s₁} w = record {
    t₀ = w.t₁;
    t₁ = w.t₀;
    κ = neg m w.κ;
    row₀ = w.row₁;
    row₁ = w.row₀;
    cross = sym (ap (add m (mul m s₁ r₀)) (SeriesRing.neg_mul m w.κ (xn_minus_one n m)) ∙ SeriesRing.move m (pos two) (mul m s₁ r₀) (mul m s₀ r₁) (mul m w.κ (xn_minus_one n m)) w.cross ∙ SeriesRing.red-mul m s₀ r₁);
    square = SeriesRing.neg_mul m w.κ (neg m w.κ) ∙ ap (neg m) (SeriesRing.mul_neg m w.κ w.κ) ∙ SeriesRing.neg_neg m (pos two) (mul m w.κ w.κ) ∙ SeriesRing.red-mul m w.κ w.κ ∙ w.square;
    constant = Degrees.below_neg m 1 w.κ w.constant;
    poly₀ = w.poly₁;
    poly₁ = w.poly₀;
  }

  -- ---- the rows with their lengths

  pub start : {l : ℕ} → Reduced m f → Length f l → l ≤ n → State n m f (n + 1) l (xn_minus_one n m) f zeros one
  start rf h le = record {
    rows = rows_start (Degrees.red_id m f rf);
    reduced₀ = Cycle.cycle_reduced n m two some;
    reduced₁ = rf;
    length₀ = record {
      below = Degrees.below_up (suc n) (n + 1) (xn_minus_one n m) (omega arith) (Cycle.cycle_below n m two some);
      top = λ _. omega (arith, Cycle.cycle_last n m two some, ap (xn_minus_one n m) {x = n + 1 - 1} {y = n} (omega arith));
    };
    length₁ = h;
    falling = omega arith;
    most = omega arith;
    short₀ = Degrees.below_zeros (n + 1 - (n + 1));
    short₁ = Degrees.below_up 1 (n + 2 - (n + 1)) one (omega arith) (term_below 1 0);
  }

  -- A division of r₀ by r₁, after which the rows change places.
  pub divided : {l₀ l₁ l : ℕ} {r₀ r₁ s₀ s₁ q r s : Series} → State n m f l₀ l₁ r₀ r₁ s₀ s₁ → 0 < l₁ → Remainder m (l₁ - 1) r₀ r₁ q r → Below (l₀ + 1 - l₁) q
      → s ≡ add m s₀ (mul m q s₁) → Length r l → l < l₁ → State n m f l₁ l r₁ r s₁ s
  divided {l₀} {l₁} {l} {r₀} {r₁} {s₀} {s₁} {q} {r} {s} w h d bq es hl lt = record {
    rows = rows_swap (rw (d.sum, es) (rows_step q d.poly w.rows));
    reduced₀ = w.reduced₁;
    reduced₁ = rw d.sum (Degrees.reduced_add m r₀ (mul m q r₁) (pos two));
    length₀ = w.length₁;
    length₁ = hl;
    falling = lt;
    most = omega (arith, w.falling, w.most);
    short₀ = Degrees.below_up (n + 2 - l₀) (n + 1 - l₁) s₁ (omega (arith, w.falling, w.most)) w.short₁;
    short₁ = rw es (Degrees.below_add m (n + 2 - l₁) s₀ (mul m q s₁) (Degrees.below_up (n + 1 - l₀) (n + 2 - l₁) s₀ (omega (arith, w.falling)) w.short₀)
        (Degrees.below_up (l₀ + 1 - l₁ + (n + 1 - l₀)) (n + 2 - l₁) (mul m q s₁) (omega (arith, w.falling, w.most))
        (Degrees.below_mul m (l₀ + 1 - l₁) (n + 1 - l₀) q s₁ bq (Degrees.below_up (n + 2 - l₀) (suc (n + 1 - l₀)) s₁ (omega (arith, w.most)) w.short₁))));
  }

  -- ---- the end

  module _ {r s₀ s₁ : Series} (w : Rows n m f r zeros s₀ s₁) where
    pub cycle_factor : xn_minus_one n m ≡ mul m w.κ (mul m s₁ r)
    cycle_factor = sym (ap (mul m w.κ) crossed ∙ sym (SeriesRing.mul_assoc m w.κ w.κ (xn_minus_one n m)) ∙ ap (λ (x : Series). mul m x (xn_minus_one n m)) w.square ∙ SeriesRing.one-mul m (xn_minus_one n m) ∙ Cycle.cycle_red n m two some)
      where
        crossed : mul m s₁ r ≡ mul m w.κ (xn_minus_one n m)
        crossed = w.cross ∙ ap (λ (x : Series). add m x (mul m w.κ (xn_minus_one n m))) (SeriesRing.mul-zeros m s₀) ∙ SeriesRing.zeros-add m (mul m w.κ (xn_minus_one n m)) ∙ SeriesRing.red-mul m w.κ (xn_minus_one n m)

    -- s₁ f is 0 modulo x^n - 1.
    pub zero_row : mul m s₁ f ≡ mul m (xn_minus_one n m) (neg m w.t₁)
    zero_row =
        sym (SeriesRing.red-mul m s₁ f) ∙ sym (SeriesRing.move m (pos two) zeros (mul m s₁ f) (mul m w.t₁ (xn_minus_one n m)) w.row₁) ∙ SeriesRing.zeros-add m (neg m (mul m w.t₁ (xn_minus_one n m))) ∙ SeriesRing.red_neg m (mul m w.t₁ (xn_minus_one n m))
        ∙ ap (neg m) (SeriesRing.mul_comm m w.t₁ (xn_minus_one n m)) ∙ sym (SeriesRing.mul_neg m (xn_minus_one n m) w.t₁)

    -- s₀ f is r modulo x^n - 1.
    pub last_row : mul m s₀ f ≡ add m r (mul m (xn_minus_one n m) (neg m w.t₀))
    last_row =
        sym (SeriesRing.red-mul m s₀ f) ∙ sym (SeriesRing.move m (pos two) r (mul m s₀ f) (mul m w.t₀ (xn_minus_one n m)) w.row₀) ∙ ap (add m r) (ap (neg m) (SeriesRing.mul_comm m w.t₀ (xn_minus_one n m)) ∙ sym (SeriesRing.mul_neg m (xn_minus_one n m) w.t₀))

    pub pattern_factor : red m f ≡ mul m r (mul m w.κ (neg m w.t₁))
    pattern_factor = Degrees.low_cancel m (m - 1) (xn_minus_one n m) f (mul m r (mul m w.κ (neg m w.t₁))) (pos two) (Cycle.cycle_unit n m two some) equal ∙ SeriesRing.red-mul m r (mul m w.κ (neg m w.t₁))
      where
        sorted : (κ s r f : Series) → mul m (mul m κ (mul m s r)) f ≡ mul m (mul m κ r) (mul m s f)
        sorted κ s r f = simp ring

        sorted' : (κ r M t : Series) → mul m (mul m κ r) (mul m M t) ≡ mul m M (mul m r (mul m κ t))
        sorted' κ r M t = simp ring

        equal : mul m (xn_minus_one n m) f ≡ mul m (xn_minus_one n m) (mul m r (mul m w.κ (neg m w.t₁)))
        equal = ap (λ (x : Series). mul m x f) cycle_factor ∙ sorted w.κ s₁ r f ∙ ap (mul m (mul m w.κ r)) zero_row ∙ sorted' w.κ r (xn_minus_one n m) (neg m w.t₁)

    -- f v = (x^n - 1) u makes v a multiple of s₁.
    pub multiple : (v u : Series) → mul m f v ≡ mul m (xn_minus_one n m) u → red m v ≡ mul m s₁ (mul m w.κ (add m (mul m s₀ u) (mul m w.t₀ v)))
    multiple v u h = Degrees.low_cancel m (m - 1) (xn_minus_one n m) v (mul m s₁ (mul m w.κ y)) (pos two) (Cycle.cycle_unit n m two some) equal ∙ SeriesRing.red-mul m s₁ (mul m w.κ y)
      where
        y : Series
        y = add m (mul m s₀ u) (mul m w.t₀ v)

        opened : (s f t M v : Series) → mul m (add m (mul m s f) (mul m t M)) v ≡ add m (mul m s (mul m f v)) (mul m t (mul m M v))
        opened s f t M v = simp ring

        closed : (s M u t v : Series) → add m (mul m s (mul m M u)) (mul m t (mul m M v)) ≡ mul m M (add m (mul m s u) (mul m t v))
        closed s M u t v = simp ring

        product : mul m r v ≡ mul m (xn_minus_one n m) y
        product = ap (λ (x : Series). mul m x v) w.row₀ ∙ opened s₀ f w.t₀ (xn_minus_one n m) v ∙ ap (λ (x : Series). add m (mul m s₀ x) (mul m w.t₀ (mul m (xn_minus_one n m) v))) h ∙ closed s₀ (xn_minus_one n m) u w.t₀ v

        sorted : (κ s r v : Series) → mul m (mul m κ (mul m s r)) v ≡ mul m κ (mul m s (mul m r v))
        sorted κ s r v = simp ring

        sorted' : (κ s M y : Series) → mul m κ (mul m s (mul m M y)) ≡ mul m M (mul m s (mul m κ y))
        sorted' κ s M y = simp ring

        equal : mul m (xn_minus_one n m) v ≡ mul m (xn_minus_one n m) (mul m s₁ (mul m w.κ y))
        equal = ap (λ (x : Series). mul m x v) cycle_factor ∙ sorted w.κ s₁ r v ∙ ap (λ (x : Series). mul m w.κ (mul m s₁ x)) product ∙ sorted' w.κ s₁ (xn_minus_one n m) y
