-- Reducing to a divisor m' of m keeps products, `one` and inverses: a remainder by m' may be taken before or after a remainder by m.
-- Assumes nothing.
use Prim.Native.Nat.{ℕ, ◌%◌, ◌<◌, ◌∣◌}
use mathlib.Core.Path.{◌≡◌, sym, ap, ◌∙◌}
use mathlib.Core.List.{List}
use native.Mathlib.Nat.{mod-mod_of_dvd}
use Rattle.sums.specs.Table.{table}
use Rattle.sums.proofs.Tables.{at_table, table_eq}
use Rattle.ring.specs.Mix.{mix}
use Rattle.ring.specs.One.{one}
use Rattle.ring.specs.Reduce.{reduce}
use Rattle.ring.specs.Inverse.{Inverse, Invertible}
use Rattle.ring.proofs.Entries.{reduce_ring}
use Rattle.ring.proofs.Product.{mix_reduces}
use Rattle.ring.proofs.Inverses.{inverse_of_reduced}

module _ (n m m' : ℕ) (d : m' ∣ m) where
  reduce-table-dvd : (f : ℕ → ℕ) → reduce n m' (table n (λ k. f k % m)) ≡ table n (λ k. f k % m')
  unfolding reduce
  reduce-table-dvd f = table_eq n _ _ λ k h. rw (at_table n _ k h) (mod-mod_of_dvd m' _ d)

  pub reduce-mix-dvd : (a b : List ℕ) → reduce n m' (mix n m a b) ≡ mix n m' a b
  unfolding mix
  reduce-mix-dvd a b = reduce-table-dvd _

  pub reduce_keeps_mix : (a b : List ℕ) → reduce n m' (mix n m a b) ≡ mix n m' (reduce n m' a) (reduce n m' b)
  reduce_keeps_mix a b = reduce-mix-dvd a b ∙ sym (mix_reduces n m' a b)

  pub reduce_keeps_one : reduce n m' (one n m) ≡ one n m'
  unfolding one
  reduce_keeps_one = reduce-table-dvd _

  pub reduce_keeps_inverse : {f g : List ℕ} → 0 < m' → Inverse n m f g → Inverse n m' (reduce n m' f) (reduce n m' g)
  reduce_keeps_inverse {f} {g} p a =
      record { ring = reduce_ring n m' g p; product = sym (reduce_keeps_mix f g) ∙ ap (reduce n m') a.product ∙ reduce_keeps_one }

  pub reduce_keeps_invertible : {f : List ℕ} → 0 < m' → Invertible n m f → Invertible n m' f
  reduce_keeps_invertible {f} p u =
      record { inverse = reduce n m' u.inverse; is = inverse_of_reduced n m' f _ (reduce_keeps_inverse p u.is) }
