-- Sum, difference, multiple and remainder entry by entry, `one` and `zeros`: equations of lists for every n and m and all lists.
-- Each holds at every entry, where it is a law of numbers modulo m. Assumes nothing.
use Prim.Native.Nat.{ℕ, zero, suc, ◌+◌, ◌*◌, ◌%◌, ◌/◌, ◌≤◌, ◌<◌}
use mathlib.Core.Path.{◌≡◌, refl, sym, ap, ◌∙◌}
use mathlib.Core.Logic.{◌≢◌}
use mathlib.Core.List.{List}
use native.Mathlib.Omega.{arith}
use native.Mathlib.Nat.{mod-lt, mod-mod, mod-add-mod, add-mod-mod, mod-eq_of_lt, zero-mod, add-zero, mul-add, mul_comm, div-add-mod, add-mul-mod_self_left}
use lib.Seq.{ext_get_or}
use Rattle.sums.specs.Table.{at, table}
use Rattle.sums.proofs.Remainders.{mul-mod, mod_cancel}
use Rattle.sums.proofs.Tables.{length-table, at_table, table_eq, table_inj}
use Rattle.ring.specs.Ring.{Ring}
use Rattle.ring.specs.One.{first, one, zeros}
use Rattle.ring.specs.Entrywise.{add, sub, scale}
use Rattle.ring.specs.Reduce.{reduce}

pub first_later : (k : ℕ) → k ≢ 0 → first k ≡ 0
first_later zero h = omega arith
first_later (suc k) h = refl

pub first-le : (k : ℕ) → first k ≤ 1
first-le zero = omega arith
first-le (suc k) = omega arith

module _ (n m : ℕ) where
  -- ---- sums

  pub add_comm : (a b : List ℕ) → add n m a b ≡ add n m b a
  unfolding add
  add_comm a b = table_eq n _ _ λ k h. ap (λ (x : ℕ). x % m) (omega arith)

  pub add_assoc : (a b c : List ℕ) → add n m (add n m a b) c ≡ add n m a (add n m b c)
  unfolding add
  add_assoc a b c = table_eq n _ _ λ k h. simp (at_table, mod-add-mod, add-mod-mod) (ap (λ (x : ℕ). x % m) (omega arith))

  pub add-zeros : (a : List ℕ) → add n m a (zeros n) ≡ reduce n m a
  unfolding add zeros reduce
  add-zeros a = table_eq n _ _ λ k h. rw (at_table n _ k h, add-zero)

  -- Less and then more.
  pub sub-add : (a b : List ℕ) → 0 < m → add n m (sub n m a b) b ≡ reduce n m a
  unfolding add sub reduce
  sub-add a b mp = table_eq n _ _ λ k h.
      rw (at_table n _ k h, mod-add-mod)
      (ap (λ (x : ℕ). x % m) (omega (arith, div-add-mod (at b k) m, mod-lt (at b k) mp)) ∙ add-mul-mod_self_left (at a k) m (1 + at b k / m))

  pub add_cancel : (a b c : List ℕ) → 0 < m → add n m a c ≡ add n m b c → reduce n m a ≡ reduce n m b
  unfolding add reduce
  add_cancel a b c mp e = table_eq n _ _ λ k h. mod_cancel m (at a k) (at b k) (at c k) mp (table_inj n _ _ k h e)

  -- ---- multiples

  pub scale-reduce : (s : ℕ) (a : List ℕ) → scale n m s (reduce n m a) ≡ scale n m s a
  unfolding scale reduce
  scale-reduce s a = table_eq n _ _ λ k h. rw (at_table n _ k h, mul-mod)

  pub scale-add : (s : ℕ) (a b : List ℕ) → scale n m s (add n m a b) ≡ add n m (scale n m s a) (scale n m s b)
  unfolding scale add
  scale-add s a b = table_eq n _ _ λ k h. simp (at_table, mod-add-mod, add-mod-mod, mul-mod, mul-add)

  pub scale-plus : (s t : ℕ) (a : List ℕ) → scale n m (s + t) a ≡ add n m (scale n m s a) (scale n m t a)
  unfolding scale add
  scale-plus s t a = table_eq n _ _ λ k h. simp (at_table, mod-add-mod, add-mod-mod) (ap (λ (x : ℕ). x % m) (omega arith))

  pub scale-scale : (s t : ℕ) (a : List ℕ) → scale n m s (scale n m t a) ≡ scale n m (s * t) a
  unfolding scale
  scale-scale s t a = table_eq n _ _ λ k h. simp (at_table, mul-mod) (ap (λ (x : ℕ). x % m) (omega arith))

  -- Factors that agree modulo m.
  pub scale-mod : (s t : ℕ) (a : List ℕ) → s % m ≡ t % m → scale n m s a ≡ scale n m t a
  unfolding scale
  scale-mod s t a e = table_eq n _ _ λ k h. rw (mul_comm s, mul_comm t, ← mul-mod (at a k) s m, e, mul-mod)

  pub scale_one : (a : List ℕ) → scale n m 1 a ≡ reduce n m a
  unfolding scale reduce
  scale_one a = table_eq n _ _ λ k h. ap (λ (x : ℕ). x % m) (omega arith)

  -- ---- what is reduced already

  pub reduce-table : (f : ℕ → ℕ) → reduce n m (table n (λ j. f j % m)) ≡ table n (λ k. f k % m)
  unfolding reduce
  reduce-table f = table_eq n _ _ λ k h. rw (at_table n _ k h) (mod-mod _ m)

  pub reduce-scale : (s : ℕ) (a : List ℕ) → reduce n m (scale n m s a) ≡ scale n m s a
  unfolding scale
  reduce-scale s a = reduce-table _

  pub reduce-one : reduce n m (one n m) ≡ one n m
  unfolding one
  reduce-one = reduce-table _

  pub reduce-zeros : reduce n m (zeros n) ≡ zeros n
  unfolding reduce zeros
  reduce-zeros = table_eq n _ _ λ k h. rw (at_table n _ k h) (zero-mod m)

  pub reduce_id : {a : List ℕ} → Ring n m a → reduce n m a ≡ a
  unfolding reduce
  reduce_id {a} r = ext_get_or 0 (reduce n m a) a (simp length-table (sym r.long)) λ i h.
      let b : i < n = rw length-table at h in
      rw (at_table n _ i b, mod-eq_of_lt (r.low i b))

  -- ---- rings

  pub table_ring : (f : ℕ → ℕ) → 0 < m → Ring n m (table n (λ k. f k % m))
  table_ring f p = record { long = length-table n _; low = λ i h. rw (at_table n _ i h) (mod-lt _ p) }

  pub add_ring : (a b : List ℕ) → 0 < m → Ring n m (add n m a b)
  unfolding add
  add_ring a b p = table_ring _ p

  pub sub_ring : (a b : List ℕ) → 0 < m → Ring n m (sub n m a b)
  unfolding sub
  sub_ring a b p = table_ring _ p

  pub scale_ring : (s : ℕ) (a : List ℕ) → 0 < m → Ring n m (scale n m s a)
  unfolding scale
  scale_ring s a p = table_ring _ p

  pub reduce_ring : (a : List ℕ) → 0 < m → Ring n m (reduce n m a)
  unfolding reduce
  reduce_ring a p = table_ring _ p

  pub one_ring : 0 < m → Ring n m (one n m)
  unfolding one
  one_ring p = table_ring _ p
