-- Laws of the walk: one field on, and that it does not depend on its bound once that reaches the sheet's end. By recursion on the bounds. Assumes nothing.
use Prim.Native.Nat.{ℕ, zero, suc, ◌+◌, ◌≤◌, ◌<◌}
use mathlib.Core.Path.{◌≡◌, refl, sym, ap, ◌∙◌}
use mathlib.Core.List.{List, [], ◌∷◌}
use native.Mathlib.Omega.{arith}
use native.Mathlib.Decide.{dec_lt}
use borrow.Author.Tests.{le-leb, lt-leb}
use lib.ListN.{length}
use Rattle.answer.specs.First.{first}
use Rattle.fields.specs.Fields.{Field, field_at, next_at}
use Rattle.fields.specs.Checks.{field_order, end_check}
use Rattle.fields.specs.Walk.{accepted, unless, walk, reading}

-- ---- the walk, one field on

module _ (s : List ℕ) (come : List Field) (o : ℕ) where
  pub walk_end : (most : ℕ) → length s ≤ o → walk most s come o ≡ unless (end_check s come) (accepted come)
  unfolding walk
  walk_end zero h = refl
  walk_end (suc most) h = rw (le-leb (length s) o h)

  pub walk_on : (most : ℕ) → o < length s → walk (suc most) s come o ≡ unless (first (field_order s come o)) (walk most s (field_at s o ∷ come) (next_at s o))
  unfolding walk
  walk_on most h = rw (lt-leb (length s) o h)

-- ---- the bound

-- The walk does not depend on its bound once that reaches the sheet's end, since a field takes three bytes or more: what a sheet means may be said with any
-- bound that is long enough.
module _ (s : List ℕ) where
  both_end : (k j : ℕ) (come : List Field) (o : ℕ) → length s ≤ o → walk k s come o ≡ walk j s come o
  both_end k j come o h = walk_end s come o k h ∙ sym (walk_end s come o j h)

  pub any_bound : (k j : ℕ) (come : List Field) (o : ℕ) → length s ≤ o + k → length s ≤ o + j → walk k s come o ≡ walk j s come o
  any_bound zero j come o h h' = both_end zero j come o (omega arith)
  any_bound (suc k) zero come o h h' = both_end (suc k) zero come o (omega arith)
  any_bound (suc k) (suc j) come o h h' = elim (dec_lt o (length s)) [
    | yes l ↦
        walk_on s come o k l
        ∙ ap (unless (first (field_order s come o))) (any_bound k j (field_at s o ∷ come) (next_at s o) (omega arith) (omega arith))
        ∙ sym (walk_on s come o j l)
    | no l ↦ both_end (suc k) (suc j) come o (omega arith)
  ]

  pub reading_bound : (k : ℕ) → length s ≤ k → reading s ≡ walk k s [] 0
  unfolding reading
  reading_bound k h = any_bound (length s) k [] 0 (omega arith) (omega arith)
