-- Laws of `table`: its length, its entries, and that equal entries make equal tables. Each by recursion on the length.
-- Assumes nothing.
use Prim.Native.Nat.{ℕ, zero, suc, ◌+◌, ◌%◌, ◌≤◌, ◌<◌}
use mathlib.Core.Path.{◌≡◌, refl, sym, ap, ◌∙◌}
use mathlib.Core.List.{List, [], ◌∷◌, ◌++◌}
use native.Mathlib.Omega.{arith}
use native.Mathlib.Decide.{dec_lt}
use native.Mathlib.Numerals.{add-one}
use native.Mathlib.Nat.{mod-lt}
use lib.ListN.{length, get_or-eq_default}
use lib.Seq.{ext_get_or}
use Rattle.sums.specs.Table.{at, table}

pub at_past : (l : List ℕ) (i : ℕ) → length l ≤ i → at l i ≡ 0
at_past l i h = get_or-eq_default l 0 {n = i} h

pub length-table : (n : ℕ) (f : ℕ → ℕ) → length (table n f) ≡ n
unfolding table
length-table zero f = refl
length-table (suc n) f = ap suc (length-table n (λ k. f (suc k)))

pub at_table : (n : ℕ) (f : ℕ → ℕ) (k : ℕ) → k < n → at (table n f) k ≡ f k
unfolding table
at_table zero f k h = omega arith
at_table (suc n) f zero h = refl
at_table (suc n) f (suc k) h = at_table n (λ j. f (suc j)) k (omega arith)

-- At a place that goes around.
pub at_turn : (n : ℕ) (f : ℕ → ℕ) (x : ℕ) {k : ℕ} → k < n → at (table n f) (x % n) ≡ f (x % n)
at_turn n f x h = at_table n f (x % n) (mod-lt x (omega arith))

pub table_eq : (n : ℕ) (f g : ℕ → ℕ) → ((k : ℕ) → k < n → f k ≡ g k) → table n f ≡ table n g
unfolding table
table_eq zero f g h = refl
table_eq (suc n) f g h = λ i. h zero (omega arith) i ∷ table_eq n (λ k. f (suc k)) (λ k. g (suc k)) (λ k b. h (suc k) (omega arith)) i

pub table_inj : (n : ℕ) (f g : ℕ → ℕ) (k : ℕ) → k < n → table n f ≡ table n g → f k ≡ g k
table_inj n f g k h e = sym (at_table n f k h) ∙ ap (λ (l : List ℕ). at l k) e ∙ at_table n g k h

-- A bound on every entry, also past the end.
pub table_low : (n m : ℕ) (f : ℕ → ℕ) → 0 < m → ((i : ℕ) → f i < m) → (i : ℕ) → at (table n f) i < m
table_low n m f p h i = elim (dec_lt i n) [ yes l ↦ rw (at_table n f i l) (h i) | no l ↦ rw (at_past (table n f) i (rw (length-table n f) (omega arith))) p ]

pub table_none : (f : ℕ → ℕ) → table 0 f ≡ []
unfolding table
table_none f = refl

pub table_last : (n : ℕ) (f : ℕ → ℕ) → table (n + 1) f ≡ table n f ++ (f n ∷ [])
unfolding table
table_last zero f = refl
table_last (suc n) f = rw (add-one (suc n)) (ap (λ (l : List ℕ). f 0 ∷ l) (rw (add-one n) at (table_last n (λ k. f (suc k)))))

pub table_self : (l : List ℕ) → table (length l) (at l) ≡ l
table_self l = ext_get_or 0 (table (length l) (at l)) l (length-table (length l) (at l)) (λ i h. at_table (length l) (at l) i (omega (arith, length-table (length l) (at l))))
