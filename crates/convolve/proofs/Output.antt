-- The output, four entries at a time: a sum along the rest of d from f on is one along d itself. Assumes nothing.
use Prim.Native.Nat.{ℕ, ◌+◌, ◌-◌, ◌%◌, ◌≤◌, ◌<◌}
use mathlib.Core.Path.{◌≡◌, refl, ap, ◌∙◌}
use mathlib.Core.List.{List}
use native.Mathlib.Omega.{arith}
use lib.ListN.{length, take, drop}
use lib.Seq.{get_or-drop}
use Rattle.sums.specs.Table.{at, table}
use Rattle.sums.proofs.Sums.{sum-eq}
use Rattle.sums.proofs.Tables.{at_table}
use Rattle.along.specs.Along.{along}
use Rattle.along.specs.Asks.{AnyLength}
use Rattle.convolve.specs.Inner.{Rows}
use Rattle.along.proofs.Parts.{length_part, low_part, rest}

pub rows_ready : (x d : List ℕ) (m : ℕ) (out : List ℕ) (f : ℕ) → Rows x d m out → f ≤ length x → AnyLength x (take (length d - f) (drop f d)) m
rows_ready x d m out f p h = record {
  reach = rw (length_part f (length d) d (omega arith)) (omega (arith, p.twice));
  low_x = p.low_x;
  low_c = low_part f (length d - f) d p.low_d;
  positive = p.positive;
  limit = p.limit;
}

pub entry_is : (x d : List ℕ) (m f j k s : ℕ) → f + j ≡ k → s ≡ along x (take (length d - f) (drop f d)) j % m → s ≡ along x d k % m
entry_is x d m f j k s e h =
    h ∙ ap (λ (z : ℕ). z % m) (rw (rest f d) (sum-eq (length x) _ _ (λ i b. let g : f + (i + j) ≡ i + k = omega arith in rw (get_or-drop f d (i + j) 0, g) refl)))

-- Entry k + j, where q has the four entries from k on.
pub entry_of : (x d : List ℕ) (m k j : ℕ) {q : List ℕ} → q ≡ table 4 (λ j. along x (take (length d - (k + 1)) (drop (k + 1) d)) j % m) → j < 4 → at q j ≡ along x d (k + j + 1) % m
entry_of x d m k j e l =
    ap (λ (z : List ℕ). at z j) e
    ∙ at_table 4 (λ j. along x (take (length d - (k + 1)) (drop (k + 1) d)) j % m) j l
    ∙ entry_is x d m (k + 1) j (k + j + 1) _ (omega arith) refl
