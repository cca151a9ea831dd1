-- Arrays and lists as polynomials: what the small functions of the extended Euclid leave in them. Assumes nothing.
use Prim.Native.Nat.{ℕ, zero, suc, ◌+◌, ◌-◌, ◌%◌, ◌≤◌, ◌<◌}
use mathlib.Core.Path.{◌≡◌, refl, sym, ◌∙◌, ap, subst, fun_ext}
use mathlib.Core.List.{List, ◌++◌, append-nil}
use native.Mathlib.Decide.{dec_lt, ℕ_discrete}
use native.Mathlib.Omega.{arith}
use lib.ListN.{length, drop, set, replicate, length-replicate, length-set, length-append, length-drop, get_or-append}
use lib.Seq.{drop-length, get_or-set_same, get_or-set_other, get_or-append-add, get_or-drop}
use Rattle.sums.specs.Table.{at}
use Rattle.sums.proofs.Tables.{at_past, length-table, table_eq}
use Rattle.ring.specs.Reduce.{reduce}
use Rattle.modular.specs.Inverse.{InverseOf}
use Rattle.rows.specs.Row.{times, terms}
use Rattle.series.specs.Series.{Series, Reduced}
use Rattle.series.specs.Operations.{red, mul, term, zeros, xn_minus_one}
use Rattle.series.proofs.Products.{term-at, term_other}
use Rattle.series.proofs.Degrees.{below_red, below_term}
use Rattle.series.proofs.Lengths.{below_list, table_series}
use Rattle.series.proofs.Cycle.{cycle_first, cycle_last, cycle_between}
use Rattle.series.proofs.Ends.{scaled_at}
use Rattle.division.specs.Limits.{places}
use Rattle.division.specs.Division.{Coefficients}
use Rattle.euclid.specs.Answer.{Entries}
use Rattle.euclid.specs.Descent.{HoldsPolynomial, Over}

-- A list copied over one of its length.
pub copied_whole : (src dst : List ℕ) → length dst ≡ length src → src ++ drop (length src) dst ≡ src
copied_whole src dst e = ap (λ (k : ℕ). src ++ drop k dst) (sym e) ∙ ap (λ (l : List ℕ). src ++ l) (drop-length dst) ∙ append-nil src

length-terms : (n m : ℕ) (t : ℕ → ℕ) → length (terms n m t) ≡ n
unfolding terms
length-terms n m t = length-table n (λ i. t i % m)

-- A list scaled by z.
scaled_list : (m z : ℕ) (src out : List ℕ) → out ≡ terms (length src) m (times z src) → at out ≡ mul m (term z 0) (at src)
unfolding terms
scaled_list m z src out e =
    ap (λ (l : List ℕ). at l) (e ∙ table_eq (length src) _ _ (λ k h. sym (scaled_at m z (at src) k)))
    ∙ table_series (length src) (mul m (term z 0) (at src)) (below_term m z 0 (length src) (length src) (at src) (below_list src (length src) (omega arith)) (omega arith))

-- The output is src times z.
pub over_is : {m y z : ℕ} {src out : List ℕ} → InverseOf m y z → out ≡ terms (length src) m (times z src) → Over m y src out
over_is {m} {y} {z} {src} {out} i is = record { z = z; inverse = i; long = ap length is ∙ length-terms (length src) m (times z src); is = scaled_list m z src out is }

-- ---- arrays

pub holds_held : {m : ℕ} {a : List ℕ} {s : Series} → HoldsPolynomial a s → Reduced m s → Coefficients m a
holds_held {m} h r = record { long = h.long; reduced = subst (Reduced m) (sym h.is) r }

at-zeros : (n k : ℕ) → at (replicate n 0) k ≡ 0
at-zeros zero k = refl
at-zeros (suc n) zero = refl
at-zeros (suc n) (suc k) = at-zeros n k

pub holds_none : (n : ℕ) → n ≡ places → HoldsPolynomial (replicate n 0) (term 0 0)
holds_none n e = record {
  long = length-replicate n 0 ∙ e;
  is = fun_ext λ k. at-zeros n k ∙ elim (ℕ_discrete k 0) [ yes q ↦ sym (ap (term 0 0) q ∙ term-at 0 0) | no q ↦ sym (term_other 0 0 k q) ];
}

pub holds_constant : (c : ℕ) {a : List ℕ} → HoldsPolynomial a (term 0 0) → HoldsPolynomial (set a 0 c) (term c 0)
holds_constant c {a} h = record {
  long = length-set a 0 c ∙ h.long;
  is = fun_ext λ k. elim (ℕ_discrete k 0) [
    | yes q ↦ ap (at (set a 0 c)) q ∙ get_or-set_same a 0 c 0 (omega (arith, h.long)) ∙ sym (ap (term c 0) q ∙ term-at c 0)
    | no q ↦ get_or-set_other a 0 k c 0 q ∙ ap (λ (s : Series). s k) h.is ∙ term_other 0 0 k q ∙ sym (term_other c 0 k q)
  ];
}

pub holds_cycle : {n m : ℕ} {a : List ℕ} → 1 < m → Entries n → HoldsPolynomial a (term (m - 1) 0) → HoldsPolynomial (set a n 1) (xn_minus_one n m)
holds_cycle {n} {m} {a} two z h = record {
  long = length-set a n 1 ∙ h.long;
  is = fun_ext λ k. elim (ℕ_discrete k n) [
    | yes q ↦ ap (at (set a n 1)) q ∙ get_or-set_same a n 1 0 (omega (arith, h.long, z.most)) ∙ sym (ap (xn_minus_one n m) q ∙ cycle_last n m two z.some)
    | no q ↦ get_or-set_other a n k 1 0 q ∙ ap (λ (s : Series). s k) h.is ∙ elim (ℕ_discrete k 0) [
      | yes o ↦ ap (term (m - 1) 0) o ∙ term-at (m - 1) 0 ∙ sym (ap (xn_minus_one n m) o ∙ cycle_first n m two z.some)
      | no o ↦ term_other (m - 1) 0 k o ∙ sym (cycle_between n m two z.some k o q)
    ]
  ];
}

pub holds_zeros : {a : List ℕ} → HoldsPolynomial a (term 0 0) → HoldsPolynomial a zeros
unfolding zeros
holds_zeros h = record { long = h.long; is = h.is ∙ (fun_ext λ k. elim (ℕ_discrete k 0) [ yes q ↦ ap (term 0 0) q ∙ term-at 0 0 | no q ↦ term_other 0 0 k q ]) }

-- A list of n entries, put into an array of zeros.
holds_front : (g : List ℕ) (n : ℕ) {a : List ℕ} → length g ≡ n → n ≤ places → HoldsPolynomial a zeros → HoldsPolynomial (g ++ drop n a) (at g)
unfolding zeros
holds_front g n {a} e l h = record {
  long = omega (arith, length-append g (drop n a), length-drop n a, h.long);
  is = fun_ext λ k. elim (dec_lt k n) [
    | yes q ↦ get_or-append g (drop n a) 0 k (omega arith)
    | no q ↦
        let past : k ≡ length g + (k - n) = omega arith in
        ap (at (g ++ drop n a)) past ∙ get_or-append-add g (drop n a) (k - n) 0 ∙ get_or-drop n a (k - n) 0 ∙ ap (λ (s : Series). s (n + (k - n))) h.is ∙ sym (at_past g k (omega arith))
  ];
}

pub holds_remainders : (m : ℕ) (f : List ℕ) {a : List ℕ} → length f ≤ places → HoldsPolynomial a zeros → HoldsPolynomial (reduce (length f) m f ++ drop (length f) a) (red m (at f))
unfolding reduce red
holds_remainders m f {a} l h =
    let front = holds_front (reduce (length f) m f) (length f) (length-table (length f) (λ k. at f k % m)) l h in
    record { long = front.long; is = front.is ∙ table_series (length f) (red m (at f)) (below_red m (length f) (at f) (below_list f (length f) (omega arith))) }
