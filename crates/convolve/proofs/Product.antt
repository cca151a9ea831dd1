-- The product: a backwards along b around, from k + 1 on, is entry k of `mix`. The sum over i runs the other way round: i stands for n - (i + 1).
-- Assumes nothing.
use Prim.Native.Nat.{ℕ, zero, suc, ◌+◌, ◌*◌, ◌-◌, ◌%◌, ◌<◌}
use mathlib.Core.Path.{◌≡◌, refl, sym, ap, ◌∙◌}
use mathlib.Core.List.{List}
use native.Mathlib.Omega.{arith}
use native.Mathlib.Nat.{lt_of_lt_of_le}
use lib.ListN.{length}
use Rattle.sums.specs.Sum.{sum}
use Rattle.sums.specs.Table.{at, table}
use Rattle.sums.proofs.Sums.{sum-eq, sum_step}
use Rattle.sums.proofs.Tables.{table_eq}
use Rattle.ring.specs.Mix.{mix}
use Rattle.along.specs.Along.{along}
use Rattle.convolve.specs.Layout.{backwards, around}
use Rattle.convolve.specs.Mixable.{Mixable}
use Rattle.convolve.specs.Inner.{Rows}
use Rattle.convolve.proofs.Layouts.{length-backwards, at-backwards, low_backwards, length-around, at-around, low_around}

-- A sum may be taken from its end.
pub sum_turn : (n : ℕ) (f : ℕ → ℕ) → sum n (λ i. f (n - (i + 1))) ≡ sum n f
unfolding sum
sum_turn zero f = refl
sum_turn (suc n) f =
    let e : suc n - (n + 1) ≡ 0 = omega arith in
    let s : sum n (λ i. f (suc n - (i + 1))) ≡ sum n (λ i. f (suc (n - (i + 1)))) = sum-eq n _ _ (λ i h. ap f (omega arith)) in
    rw (e, s, sum_turn n (λ i. f (suc i))) (sum_step n f)

module _ (a b : List ℕ) (m : ℕ) (out : List ℕ) (p : Mixable a b m out) where
  laid_out : Rows (backwards a) (around (length a + length a + 3) b) m out
  laid_out = record {
    twice = rw (length-around (length a + length a + 3) b, length-backwards a);
    same = p.same_out ∙ sym (length-backwards a);
    low_x = λ i. lt_of_lt_of_le (low_backwards a m p.positive p.low_a i) p.limit;
    low_d = λ i. lt_of_lt_of_le (low_around (length a + length a + 3) b m p.positive p.low_b i) p.limit;
    positive = p.positive;
    limit = p.limit;
  }

  entry : (k : ℕ) → k < length a → along (backwards a) (around (length a + length a + 3) b) (k + 1) ≡ sum (length a) (λ i. at a i * at b ((k + (length a - i)) % length a))
  entry k h =
      rw (length-backwards a)
      (sum-eq (length a) _ _ (λ i l.
      let e : i + (k + 1) ≡ k + (length a - (length a - (i + 1))) = omega arith in
      rw (at-backwards a i l, at-around (length a + length a + 3) b (i + (k + 1)) (omega arith), e, p.same_b)
      refl)
      ∙ sum_turn (length a) (λ i. at a i * at b ((k + (length a - i)) % length a)))

  sums : table (length out) (λ k. along (backwards a) (around (length a + length a + 3) b) (k + 1) % m) ≡ mix (length a) m a b
  unfolding mix
  sums = rw p.same_out (table_eq (length a) _ _ (λ k h. ap (λ (z : ℕ). z % m) (entry k h)))

  -- The layouts x and d.
  module _ {x d : List ℕ} {e : ℕ} (hx : x ≡ backwards a) (hd : d ≡ around e b) (he : e ≡ length a + length a + 3) where
    pub laid : Rows x d m out
    laid = rw (hx, hd, he) laid_out

    pub product : table (length out) (λ k. along x d (k + 1) % m) ≡ mix (length a) m a b
    product = rw (hx, hd, he) sums
