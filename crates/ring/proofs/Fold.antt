-- Folding onto a divisor p of the length n keeps products, `one` and inverses.
-- The entries whose place is k modulo p stand at k, k + p, k + 2 p, ..: a fold is a sum over n / p parts (`fold_parts`), and in a list that goes
-- around, the sum over the places that are x modulo p depends on x modulo p alone. Assumes nothing.
use Prim.Native.Nat.{ℕ, zero, suc, ◌+◌, ◌*◌, ◌-◌, ◌%◌, ◌/◌, ◌<◌, ◌∣◌}
use mathlib.Core.Path.{◌≡◌, refl, sym, ap, ◌∙◌}
use mathlib.Core.Bool.{cond}
use mathlib.Core.List.{List}
use lib.Dec.{eqb}
use borrow.Author.Tests.{eq-eqb, ne_eqb}
use native.Mathlib.Omega.{arith}
use native.Mathlib.Nat.{mod-mod, add-mul-mod_self_right, mod-lt, add-mod_right, mul-le-mul_right, add_right_comm, mul_comm, div-mul_cancel, mod-eq_of_lt}
use Rattle.sums.specs.Sum.{sum}
use Rattle.sums.specs.Table.{at, table}
use Rattle.sums.proofs.Remainders.{mul-mod, repeats}
use Rattle.sums.proofs.Sums.{sum-mod, sum-eq, sum-mul, sum_swap, sum_parts, sum_step, sum_only}
use Rattle.sums.proofs.Tables.{at_table, table_eq}
use Rattle.ring.specs.Ring.{Ring}
use Rattle.ring.specs.Mix.{mix}
use Rattle.ring.specs.One.{first, one}
use Rattle.ring.specs.Fold.{fold}
use Rattle.ring.specs.Inverse.{Inverse, Invertible}
use Rattle.ring.proofs.Entries.{first_later, table_ring}

module _ (c p : ℕ) where
  -- ---- by parts

  pub inside : (k t : ℕ) → k < p → t < c → k + t * p < c * p
  inside k t h b = omega (arith, mul-le-mul_right p b)

  -- The sum over all places that are k modulo p, and over c parts.
  sum-fold : (a : List ℕ) (k : ℕ) → k < p → sum (c * p) (λ i. cond (eqb (i % p) k) (at a i) 0) ≡ sum c (λ t. at a (k + t * p))
  sum-fold a k h =
      sum_parts c p _ ∙ sum-eq c _ _ λ t _.
      sum_only p k _ h (λ i b d. rw (back i t b, ne_eqb i k d)) ∙ rw (back k t h, eq-eqb k k refl)
    where
      back : (i t : ℕ) → i < p → (i + t * p) % p ≡ i
      back i t b = add-mul-mod_self_right i t p ∙ mod-eq_of_lt b

  pub fold_parts : (m : ℕ) (a : List ℕ) → fold (c * p) p m a ≡ table p (λ k. sum c (λ t. at a (k + t * p)) % m)
  unfolding fold
  fold_parts m a = table_eq p _ _ λ k h. ap (λ (x : ℕ). x % m) (sum-fold a k h)

  -- ---- products

  -- The sum over the c places that are x modulo p, in a list that goes around.
  around : List ℕ → ℕ → ℕ
  around b x = sum c (λ t. at b ((x + t * p) % (c * p)))

  around_repeats : (b : List ℕ) (x : ℕ) → around b (x + p) ≡ around b x
  unfolding around
  around_repeats b x = omega (arith, sum_step c (λ t. at b ((x + t * p) % (c * p))), one_on, back)
    where
      one_on : sum c (λ t. at b ((x + p + t * p) % (c * p))) ≡ sum c (λ t. at b ((x + suc t * p) % (c * p)))
      one_on = sum-eq c _ _ λ t _. ap (λ (y : ℕ). at b (y % (c * p))) (omega arith)

      back : at b ((x + c * p) % (c * p)) ≡ at b ((x + 0 * p) % (c * p))
      back = ap (at b) (add-mod_right x (c * p) ∙ ap (λ (y : ℕ). y % (c * p)) (omega arith))

  around_low : (b : List ℕ) (k : ℕ) → k < p → sum c (λ t. at b (k + t * p)) ≡ around b k
  unfolding around
  around_low b k h = sum-eq c _ _ λ t l. ap (at b) (sym (mod-eq_of_lt (inside k t h l)))

  place : (k i t s : ℕ) → i < p → (k + ((suc t + s) * p - (i + t * p))) % p ≡ (k + (p - i)) % p
  place k i t s h = ap (λ (y : ℕ). y % p) (omega arith) ∙ add-mul-mod_self_right (k + (p - i)) s p

  around_place : (b : List ℕ) (k i t : ℕ) → i < p → t < c → around b (k + (c * p - (i + t * p))) ≡ around b ((k + (p - i)) % p)
  around_place b k i t h l =
      sym (repeats p (around b) (around_repeats b) _) ∙ ap (around b) (ap (λ (y : ℕ). (k + (y * p - (i + t * p))) % p) (omega arith) ∙ place k i t (c - suc t) h)

  -- Entry k of the folded product and of the product of the folded, both as one sum.
  module _ (m : ℕ) (a b : List ℕ) (k : ℕ) (h : k < p) where
    left : sum c (λ t. at (mix (c * p) m a b) (k + t * p)) % m ≡ sum (c * p) (λ i. at a i * around b (k + (c * p - i))) % m
    unfolding mix around
    left =
        sum-mod c m _ (λ t. sum (c * p) (λ i. at a i * at b ((k + t * p + (c * p - i)) % (c * p))))
        (λ t l. rw (at_table (c * p) _ (k + t * p) (inside k t h l)) (mod-mod _ m))
        ∙ ap (λ (x : ℕ). x % m) (sum_swap c (c * p) _ ∙ sum-eq (c * p) _ _ λ i _. sum-mul c (at a i) _ ∙ simp add_right_comm)

    middle : sum (c * p) (λ i. at a i * around b (k + (c * p - i))) ≡ sum p (λ i. around b ((k + (p - i)) % p) * sum c (λ t. at a (i + t * p)))
    middle =
        sum_parts c p _ ∙ sum_swap c p _ ∙ sum-eq p _ _ λ i l.
        sum-eq c _ _ (λ t l'. rw (around_place b k i t l l') (mul_comm (at a (i + t * p)) _)) ∙ sum-mul c _ _

    right : sum p (λ i. at (fold (c * p) p m a) i * at (fold (c * p) p m b) ((k + (p - i)) % p)) % m ≡ sum p (λ i. around b ((k + (p - i)) % p) * sum c (λ t. at a (i + t * p))) % m
    right = rw (fold_parts m a, fold_parts m b) (sum-mod p m _ _ λ i l.
        let l' : (k + (p - i)) % p < p = mod-lt _ (omega arith) in
        rw (at_table p _ i l, at_table p _ _ l', mul-mod, around_low b _ l', mul_comm (_ % m) (around b _), mul-mod))

  parts_mix : (m : ℕ) (a b : List ℕ) → fold (c * p) p m (mix (c * p) m a b) ≡ mix p m (fold (c * p) p m a) (fold (c * p) p m b)
  unfolding mix
  parts_mix m a b = fold_parts m _ ∙ table_eq p _ _ λ k h. left m a b k h ∙ ap (λ (x : ℕ). x % m) (middle m a b k h) ∙ sym (right m a b k h)

  parts_one : (m : ℕ) → 0 < c → fold (c * p) p m (one (c * p) m) ≡ one p m
  unfolding one
  parts_one m z = fold_parts m _ ∙ table_eq p _ _ λ k h.
      sum-mod c m _ (λ t. first (k + t * p)) (λ t l. rw (at_table (c * p) _ (k + t * p) (inside k t h l)) (mod-mod _ m))
      ∙ ap (λ (x : ℕ). x % m) (sum_only c 0 (λ t. first (k + t * p)) z
      (λ t l d. first_later (k + t * p) (omega (arith, mul-le-mul_right {m = 1} {n = t} p (omega arith)))) ∙ ap first {x = k + 0 * p} {y = k} (omega arith))

pos_of : (c p n : ℕ) → c * p ≡ n → 0 < n → 0 < c
pos_of zero p n e h = omega arith
pos_of (suc c) p n e h = omega arith

-- ---- onto any divisor

module _ (n p m : ℕ) (d : p ∣ n) where
  pub fold_keeps_mix : (a b : List ℕ) → fold n p m (mix n m a b) ≡ mix p m (fold n p m a) (fold n p m b)
  fold_keeps_mix a b = rw (div-mul_cancel p d) at (parts_mix (n / p) p m a b)

  pub fold_keeps_one : 0 < n → fold n p m (one n m) ≡ one p m
  fold_keeps_one z = rw (div-mul_cancel p d) at (parts_one (n / p) p m (pos_of (n / p) p n (div-mul_cancel p d) z))

  pub fold_ring : (a : List ℕ) → 0 < m → Ring p m (fold n p m a)
  unfolding fold
  fold_ring a z = table_ring p m _ z

  pub fold_keeps_inverse : {f g : List ℕ} → 0 < n → 0 < m → Inverse n m f g → Inverse p m (fold n p m f) (fold n p m g)
  fold_keeps_inverse {f} {g} z z' a =
      record { ring = fold_ring g z'; product = sym (fold_keeps_mix f g) ∙ ap (fold n p m) a.product ∙ fold_keeps_one z }

  pub fold_keeps_invertible : {f : List ℕ} → 0 < n → 0 < m → Invertible n m f → Invertible p m (fold n p m f)
  fold_keeps_invertible z z' u = record { inverse = fold n p m u.inverse; is = fold_keeps_inverse z z' u.is }
