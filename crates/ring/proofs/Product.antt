-- Mixing commutes, associates, distributes over sums and multiples, and `one` is its unit.
-- The laws are equations of lists for every n and m and all lists: what reads only the first n entries modulo m does not care what else a list holds.
-- One law carries all: a (c b) and c (a b) are one double sum with its two sums exchanged. Assumes nothing.
use Prim.Native.Nat.{ℕ, ◌+◌, ◌*◌, ◌-◌, ◌%◌, ◌<◌}
use mathlib.Core.Path.{◌≡◌, sym, ap, ◌∙◌}
use mathlib.Core.List.{List}
use native.Mathlib.Omega.{arith}
use native.Mathlib.Nat.{mod-add-mod, add-mod-mod, zero-mod, mul-zero, mul_left_comm, add_right_comm, sub_self, mul-one, mul-add}
use Rattle.sums.specs.Sum.{sum}
use Rattle.sums.specs.Table.{at}
use Rattle.sums.proofs.Remainders.{mul-mod, around_low, around-zero}
use Rattle.sums.proofs.Sums.{sum-add, sum-mul, sum_swap, sum-empty, sum_only, sum-mod}
use Rattle.sums.proofs.Tables.{at_table, at_turn, table_eq}
use Rattle.ring.specs.Ring.{Ring}
use Rattle.ring.specs.Mix.{mix}
use Rattle.ring.specs.One.{first, one, zeros}
use Rattle.ring.specs.Entrywise.{add, scale}
use Rattle.ring.specs.Reduce.{reduce}
use Rattle.ring.proofs.Entries.{first_later, table_ring, reduce-table, reduce_id}

module _ (n m : ℕ) where
  -- Entry k of a (c b), as a double sum.
  mix-mix : (a c b : List ℕ) (k : ℕ) → k < n
      → sum n (λ i. at a i * at (mix n m c b) ((k + (n - i)) % n)) % m ≡ sum n (λ i. sum n (λ j. at a i * (at c j * at b ((k + (n - i) + (n - j)) % n)))) % m
  unfolding mix
  mix-mix a c b k h = sum-mod n m _ _ λ i _. rw (at_turn n _ (k + (n - i)) h, mul-mod, ← sum-mul n (at a i)) (simp mod-add-mod)

  pub mix_left_comm : (a c b : List ℕ) → mix n m a (mix n m c b) ≡ mix n m c (mix n m a b)
  unfolding mix
  mix_left_comm a c b = table_eq n _ _ λ k h.
      mix-mix a c b k h ∙ ap (λ (x : ℕ). x % m) (sum_swap n n _ ∙ simp (mul_left_comm, add_right_comm)) ∙ sym (mix-mix c a b k h)

  pub mix-reduce : (a b : List ℕ) → mix n m a (reduce n m b) ≡ mix n m a b
  unfolding mix reduce
  mix-reduce a b = table_eq n _ _ λ k h. sum-mod n m _ _ λ i _. rw (at_turn n _ (k + (n - i)) h, mul-mod)

  pub mix-one : (a : List ℕ) → mix n m a (one n m) ≡ reduce n m a
  unfolding mix reduce one
  mix-one a = table_eq n _ _ λ k h.
      sum-mod n m _ (λ i. at a i * first ((k + (n - i)) % n)) (λ i _. rw (at_turn n _ (k + (n - i)) h, mul-mod))
      ∙ ap (λ (x : ℕ). x % m)
      (sum_only n k _ h (λ i b d. rw (first_later _ (around-zero n k i h b d)) (omega arith)) ∙ rw (around_low n k k h (omega arith), sub_self, mul-one))

  pub mix_comm : (a b : List ℕ) → mix n m a b ≡ mix n m b a
  mix_comm a b = sym (mix-reduce a b) ∙ rw (← mix-one b, mix_left_comm a b (one n m), mix-one, mix-reduce)

  pub mix_assoc : (a b c : List ℕ) → mix n m (mix n m a b) c ≡ mix n m a (mix n m b c)
  mix_assoc a b c = rw (mix_comm (mix n m a b) c, mix_left_comm c a b, mix_comm c b)

  -- Both factors may be reduced first.
  pub mix_reduces : (a b : List ℕ) → mix n m (reduce n m a) (reduce n m b) ≡ mix n m a b
  mix_reduces a b = rw (mix-reduce, mix_comm (reduce n m a) b, mix-reduce) (mix_comm b a)

  -- ---- sums and multiples

  pub mix-add : (a b c : List ℕ) → mix n m a (add n m b c) ≡ add n m (mix n m a b) (mix n m a c)
  unfolding mix add
  mix-add a b c = table_eq n _ _ λ k h.
      sum-mod n m _ (λ i. at a i * at b ((k + (n - i)) % n) + at a i * at c ((k + (n - i)) % n))
      (λ i _. rw (at_turn n _ (k + (n - i)) h, mul-mod, mul-add))
      ∙ ap (λ (x : ℕ). x % m) (sum-add n _ _) ∙ simp (at_table, mod-add-mod, add-mod-mod)

  pub mix-scale : (s : ℕ) (a b : List ℕ) → mix n m a (scale n m s b) ≡ scale n m s (mix n m a b)
  unfolding mix scale
  mix-scale s a b = table_eq n _ _ λ k h.
      sum-mod n m _ (λ i. s * (at a i * at b ((k + (n - i)) % n))) (λ i _. rw (at_turn n _ (k + (n - i)) h, mul-mod, mul_left_comm (at a i) s))
      ∙ ap (λ (x : ℕ). x % m) (sum-mul n s _) ∙ simp (at_table, mul-mod)

  pub mix-zeros : (a : List ℕ) → mix n m a (zeros n) ≡ zeros n
  unfolding mix zeros
  mix-zeros a = table_eq n _ _ λ k h. ap (λ (x : ℕ). x % m) (sum-empty n _ λ i _. rw (at_turn n _ (k + (n - i)) h, mul-zero)) ∙ zero-mod m

  -- ---- products are rings

  pub mix_ring : (a b : List ℕ) → 0 < m → Ring n m (mix n m a b)
  unfolding mix
  mix_ring a b p = table_ring n m _ p

  pub reduce-mix : (a b : List ℕ) → reduce n m (mix n m a b) ≡ mix n m a b
  unfolding mix
  reduce-mix a b = reduce-table n m _

  pub mix_unit : {a : List ℕ} → Ring n m a → mix n m a (one n m) ≡ a
  mix_unit {a} r = mix-one a ∙ reduce_id n m r
