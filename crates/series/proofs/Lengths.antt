-- Every polynomial has a length: the place past its last coefficient other than 0. A list is a polynomial, and a table of all
-- its coefficients is the list of one. Assumes nothing.
use Prim.Native.Nat.{ℕ, zero, suc, ◌-◌, ◌≤◌}
use mathlib.Core.Path.{◌≡◌, sym, ◌∙◌, ap, fun_ext}
use mathlib.Core.List.{List}
use native.Mathlib.Decide.{dec_lt, ℕ_discrete}
use native.Mathlib.Omega.{arith}
use lib.ListN.{length}
use Rattle.sums.specs.Table.{at, table}
use Rattle.sums.proofs.Tables.{at_past, at_table, length-table}
use Rattle.series.specs.Series.{Series, Below, Length}
use Rattle.series.proofs.Degrees.{below_last}

pub length_of : (D : ℕ) (a : Series) → Below D a → (l : ℕ) × Length a l × (l ≤ D)
length_of zero a b = (0, record { below = b; top = λ h. absurd (omega arith) }, omega arith)
length_of (suc D) a b = elim (ℕ_discrete (a D) 0) [
  | yes e ↦ let t = length_of D a (below_last D a b e) in (t.0, t.1, omega (arith, t.2))
  | no e ↦ (suc D, record { below = b; top = λ _. omega (arith, e, ap a {x = suc D - 1} {y = D} (omega arith)) }, omega arith)
]

pub below_list : (l : List ℕ) (n : ℕ) → length l ≤ n → Below n (at l)
unfolding Below
below_list l n h k b = at_past l k (omega arith)

pub table_series : (n : ℕ) (g : Series) → Below n g → at (table n g) ≡ g
unfolding Below
table_series n g b = fun_ext λ k. elim (dec_lt k n) [ yes h ↦ at_table n g k h | no h ↦ at_past (table n g) k (omega (arith, length-table n g)) ∙ sym (b k (omega arith)) ]
