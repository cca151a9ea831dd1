-- A loop that fills a slice from the front: after k turns the slice is `table k f ++ drop k d`, where d is what it was.
-- One store moves the border by one (`fill_step`); at the end nothing of d is left (`fill_all`), or what is left is right as it came (`fill_rest`).
-- Assumes nothing.
use mathlib.Core.Path.{◌≡◌, sym, ap, ◌∙◌}
use mathlib.Core.List.{List, ◌++◌, append_assoc, append-nil}
use Prim.Native.Nat.{ℕ, suc, ◌+◌, ◌-◌, ◌<◌, ◌≤◌}
use native.Mathlib.Decide.{dec_lt}
use native.Mathlib.Numerals.{add-one}
use native.Mathlib.Omega.{arith}
use lib.ListN.{length, drop, set, get_or, length-append, length-drop, get_or-append}
use lib.Seq.{drop-cons, drop-length, set_at, get_or_at, get_or-append-add, get_or-drop, ext_get_or}
use Rattle.sums.specs.Table.{at, table}
use Rattle.sums.proofs.Tables.{length-table, at_table, table_none, table_last}

pub fill_none : (f : ℕ → ℕ) (d : List ℕ) → d ≡ table 0 f ++ drop 0 d
fill_none f d = rw (table_none f)

pub fill_step : (f : ℕ → ℕ) (d : List ℕ) (k : ℕ) → k < length d → set (table k f ++ drop k d) k (f k) ≡ table (k + 1) f ++ drop (k + 1) d
fill_step f d k h =
    rw (table_last k f, add-one k, drop-cons d k 0) (set_at (table k f) (get_or d k 0) (drop (suc k) d) (f k) k (length-table k f) ∙ simp append_assoc)

pub fill_all : (f : ℕ → ℕ) (d : List ℕ) (k : ℕ) → k ≡ length d → table k f ++ drop k d ≡ table k f
fill_all f d k e = simp (e, drop-length, append-nil)

fill_length : (f : ℕ → ℕ) (d : List ℕ) (k : ℕ) → k ≤ length d → length (table k f ++ drop k d) ≡ length d
fill_length f d k h = simp (length-append, length-table, length-drop) (omega arith)

-- A turn of the loop: it reads entry k of a, which is as it came, and stores entry k of the answer.
module _ (f : ℕ → ℕ) (d : List ℕ) (k : ℕ) (h : k < length d) {a : List ℕ} (e : a ≡ table k f ++ drop k d) where
  pub fill_read : at a k ≡ at d k
  fill_read = ap (λ (l : List ℕ). at l k) e ∙ rw (drop-cons d k 0) (get_or_at (table k f) (at d k) _ 0 k (length-table k f))

  pub fill_store : {v : ℕ} → v ≡ f k → set a k v ≡ table (k + 1) f ++ drop (k + 1) d
  fill_store q = (λ i. set (e i) k (q i)) ∙ fill_step f d k h

-- Where the answer is as d from place k on, k turns are enough.
pub fill_rest : (f : ℕ → ℕ) (d : List ℕ) (k : ℕ) → k ≤ length d → ((i : ℕ) → k ≤ i → f i ≡ at d i) → table k f ++ drop k d ≡ table (length d) f
fill_rest f d k l h = ext_get_or 0 (table k f ++ drop k d) (table (length d) f) (fill_length f d k l ∙ sym (length-table (length d) f)) each
  where
    past : (i : ℕ) → k ≤ i → at (table k f ++ drop k d) i ≡ at d i
    past i g = ap (λ (j : ℕ). at (table k f ++ drop k d) j) (omega (arith, length-table k f)) ∙ get_or-append-add (table k f) (drop k d) (i - k) 0 ∙ get_or-drop k d (i - k) 0
        ∙ ap (λ (j : ℕ). at d j) (omega arith)

    each : (i : ℕ) → i < length (table k f ++ drop k d) → at (table k f ++ drop k d) i ≡ at (table (length d) f) i
    each i b = let c : i < length d = omega (arith, fill_length f d k l) in elim (dec_lt i k) [
      | yes s ↦ get_or-append (table k f) (drop k d) 0 i (omega (arith, length-table k f)) ∙ at_table k f i s ∙ sym (at_table (length d) f i c)
      | no s ↦ past i (omega arith) ∙ sym (h i (omega arith)) ∙ sym (at_table (length d) f i c)
    ]
