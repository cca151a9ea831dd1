-- `first_high` is the place of the first entry that is m or more: every entry before it is below m, and where it is a place of the list, its entry is not.
-- Assumes nothing.
use Rattle.std.specs.Prelude.{Option, Some, None, Ok}
use Rattle.std.specs.List.{position, position_or_len}
use mathlib.Core.Path.{◌≡◌, refl}
use mathlib.Core.Bool.{true, false, cond}
use mathlib.Core.List.{List}
use Prim.Native.Nat.{ℕ, ◌+◌, ◌<◌, ◌≤◌}
use native.Mathlib.Numerals.{add-one}
use native.Mathlib.Omega.{arith}
use borrow.Author.Tests.{leb-true, leb-false, le-leb, lt-leb}
use lib.Dec.{leb, ltb}
use lib.ListN.{length, drop, drop_of_length-le}
use lib.Seq.{drop-cons}
use Rattle.std.proofs.lemmas.List.Sums.{fails_before_first, passes_at_first}
use Rattle.sums.specs.Table.{at}
use Rattle.answer.specs.Check.{Check}
use Rattle.answer.specs.Refuse.{refuse_if}
use Rattle.answer.specs.declared.Case.TheVariants.{Coefficient}
use Rattle.checks.specs.Checks.{first_high, coefficient}

-- ---- what a scan of the list needs

pub high_here : (m : ℕ) (a : List ℕ) (i : ℕ) → i < length a → m ≤ at a i → first_high m (drop i a) ≡ 0
unfolding first_high
high_here m a i h le = rw (drop-cons a i 0, le-leb m (at a i)) refl

pub high_later : (m : ℕ) (a : List ℕ) (i : ℕ) → i < length a → at a i < m → first_high m (drop i a) ≡ first_high m (drop (i + 1) a) + 1
unfolding first_high
high_later m a i h lt = rw (add-one i, drop-cons a i 0, lt-leb m (at a i)) (omega arith)

pub high_none : (m : ℕ) (a : List ℕ) (i : ℕ) → length a ≤ i → first_high m (drop i a) ≡ 0
unfolding first_high
high_none m a i h = rw (drop_of_length-le a h) refl

-- ---- it is the first such place

pub high_before : (m : ℕ) (a : List ℕ) (i : ℕ) → i < first_high m a → at a i < m
unfolding first_high
high_before m a i h = leb-false m (at a i) (fails_before_first (leb m) a i 0 h)

pub high_at : (m : ℕ) (a : List ℕ) → first_high m a < length a → m ≤ at a (first_high m a)
unfolding first_high
high_at m a h = leb-true m (at a (first_high m a)) (passes_at_first (leb m) a 0 h)

-- ---- 6 by the place that is found

abbrev pub coefficient_of : (ring : ℕ) (place : Option ℕ) → Check
coefficient_of ring (Some place) = refuse_if true Coefficient ring place
coefficient_of ring None = Ok tt

pub coefficient_is : (m ring : ℕ) (a : List ℕ) → coefficient m ring a ≡ coefficient_of ring (position (leb m) a)
unfolding first_high
coefficient_is m ring a =
    let k = position_or_len (leb m) a in
    elim (ltb k (length a)) as (λ b. refuse_if b Coefficient ring k ≡ coefficient_of ring (cond b (Some k) None)) [ true ↦ refl | false ↦ refl ]
