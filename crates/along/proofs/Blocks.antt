-- Sums block by block. Within a block a sum of products is at most `BLOCK * largest`, so it never wraps, also with a
-- remainder beside it (`term_fits`, `sum_fits`). A block that is added is missing no longer (`next_block`).
-- Assumes nothing.
use Prim.Native.Nat.{ℕ, ◌+◌, ◌*◌, ◌-◌, ◌%◌, ◌^◌, ◌≤◌, ◌<◌, min}
use mathlib.Core.Path.{◌≡◌, refl, sym, ap, ap₂, ◌∙◌}
use mathlib.Core.List.{List, ◌++◌}
use native.Mathlib.Omega.{arith}
use native.Mathlib.Decide.{dec_le}
use native.Mathlib.Nat.{le_trans, lt_of_lt_of_le, mul-le-mul, mul-le-mul_right, mod-lt, mod-eq_of_lt, mod-add-mod, add-zero}
use lib.ListN.{length, take, drop, set, length-drop, drop_of_length-le}
use lib.Seq.{length-take-le, take_all, drop-drop, get_or-take, get_or-drop, ext_get_or}
use Rattle.sums.specs.Sum.{sum}
use Rattle.sums.specs.Table.{at, table}
use Rattle.sums.proofs.Tables.{length-table, at_table, table_low}
use Rattle.sums.proofs.Fill.{fill_read, fill_store}
use Rattle.sums.proofs.Sums.{sum_none, sum_last, sum-le, sum-eq, sum-append}
use Rattle.limits.specs.Limits.{most_modulus}
use Rattle.along.specs.declared.TheConstants.{BLOCK}
use Rattle.along.specs.Along.{term, along}
use Rattle.along.specs.Asks.{ProductFits, OneBlock, AnyLength}
use Rattle.along.proofs.Parts.{length_part, low_part, rest, front_is, rest_is}
use Rattle.along.proofs.Word.{largest, block_fits, modulus_fits}

-- The four sums after i products.
abbrev pub sums_to : ℕ → List ℕ → List ℕ → ℕ → ℕ
sums_to i x c j = sum i (term x c j)

-- ---- within a block

product_le : (x y : ℕ) → x < most_modulus → y < most_modulus → x * y ≤ largest
product_le x y h l = mul-le-mul {n₁ = x} {m₁ = y} {n₂ = most_modulus - 1} {m₂ = most_modulus - 1} (omega arith) (omega arith)

block-le : (x c : List ℕ) (j i : ℕ) → OneBlock x c → i ≤ length x → sum i (term x c j) ≤ BLOCK * largest
block-le x c j i p h =
    le_trans (sum-le i (term x c j) largest (λ t. product_le (at x t) (at c (t + j)) (p.low_x t) (p.low_c (t + j))))
    (mul-le-mul_right largest (le_trans h p.short))

pub next-term : (x c : List ℕ) (j i k s r : ℕ) → k ≡ i + j → s ≡ sum i (term x c j) → r ≡ s + at x i * at c k → r ≡ sum (i + 1) (term x c j)
next-term x c j i k s r e hs hr = rw sum_last (cc)

pub term_fits : (x c : List ℕ) (j i k s : ℕ) → OneBlock x c → i < length x → k ≡ i + j → s ≡ sum i (term x c j) → ProductFits s (at x i) (at c k)
term_fits x c j i k s p h e hs = record {
  word_x = lt_of_lt_of_le (p.low_x i) modulus_fits;
  word_y = lt_of_lt_of_le (p.low_c k) modulus_fits;
  fits = omega (arith, next-term x c j i k s (s + at x i * at c k) e hs refl, block-le x c j (i + 1) p (omega arith), block_fits);
}

-- One product more for the sum at j, where those before it have theirs.
module _ (x c : List ℕ) (i j : ℕ) (h : j < 4) {s : List ℕ} (e : s ≡ table j (sums_to (i + 1) x c) ++ drop j (table 4 (sums_to i x c))) where
  inside : j < length (table 4 (sums_to i x c))
  inside = omega (arith, length-table 4 (sums_to i x c))

  pub sum_so_far : at s j ≡ sum i (term x c j)
  sum_so_far = fill_read (sums_to (i + 1) x c) (table 4 (sums_to i x c)) j inside e ∙ at_table 4 (sums_to i x c) j h

  pub next_sum : {r : ℕ} → r ≡ at s j + at x i * at c (i + j) → set s j r ≡ table (j + 1) (sums_to (i + 1) x c) ++ drop (j + 1) (table 4 (sums_to i x c))
  next_sum q = fill_store (sums_to (i + 1) x c) (table 4 (sums_to i x c)) j inside e (next-term x c j i _ _ _ refl sum_so_far q)

-- ---- block after block

-- x along c is that of its first n entries and that of the others.
along_split : (n : ℕ) (x c : List ℕ) (j : ℕ) → along x c j ≡ along (take n x) c j + along (drop n x) (drop n c) j
along_split n x c j = elim (dec_le n (length x)) [
  | yes h ↦
      let whole : n + (length x - n) ≡ length x = omega arith in
      rw (length-take-le n x h, length-drop)
      (ap (λ (z : ℕ). sum z (term x c j)) (sym whole) ∙ sum-append n (length x - n) (term x c j)
      ∙ ap₂ ◌+◌ (sum-eq n _ _ (λ i l. ap (λ (z : ℕ). z * at c (i + j)) (sym (get_or-take n x i 0 l))))
      (sum-eq (length x - n) _ _ (λ i l. let g : n + i + j ≡ n + (i + j) = omega arith in rw (get_or-drop n x i 0, get_or-drop n c (i + j) 0, g) refl)))
  | no h ↦ rw (take_all n x (omega arith), drop_of_length-le x {i = n} (omega arith), sum_none) (sym (add-zero _))
]

-- Four sums modulo m, from which xs along cs is missing.
pub record Missing (x c : List ℕ) (m : ℕ) (xs cs s : List ℕ) : Type 0 where
  pub four : length s ≡ 4
  pub low : (j : ℕ) → at s j < m
  pub rest : (j : ℕ) → j < 4 → (at s j + along xs cs j) % m ≡ along x c j % m

pub all_missing : (x c : List ℕ) (m : ℕ) → 0 < m → Missing x c m x c (table 4 (λ _. 0))
all_missing x c m p = record {
  four = length-table 4 (λ _. 0);
  low = table_low 4 m (λ _. 0) p (λ _. p);
  rest = λ j h. rw (at_table 4 (λ _. 0) j h) (ap (λ (z : ℕ). z % m) (omega arith));
}

pub none_missing : (x c : List ℕ) (m : ℕ) (xs cs s : List ℕ) → length xs ≡ 0 → Missing x c m xs cs s → s ≡ table 4 (λ j. along x c j % m)
none_missing x c m xs cs s e p =
    ext_get_or 0 s (table 4 (λ j. along x c j % m)) (p.four ∙ sym (length-table 4 _))
    (λ j l.
    let h : j < 4 = omega (arith, p.four) in
    let none : at s j + along xs cs j ≡ at s j = rw (e, sum_none) (omega arith) in
    sym (mod-eq_of_lt (p.low j)) ∙ ap (λ (z : ℕ). z % m) (sym none) ∙ p.rest j h ∙ sym (at_table 4 (λ k. along x c k % m) j h))

-- The block b comes off the front of what is left of x from i on, and leaves r; cs is what is left of c.
pub record Next (x c : List ℕ) (i : ℕ) (b r cs : List ℕ) : Type 0 where
  pub here : i < length x
  pub block : b ≡ take BLOCK (drop i x)
  pub left : r ≡ drop (i + BLOCK) x
  pub along_c : cs ≡ drop i c
  pub ready : OneBlock b cs

pub next : (x c : List ℕ) (m i : ℕ) (xs b r : List ℕ) (n : ℕ) → AnyLength x c m → n ≡ BLOCK → xs ≡ drop i x → xs ≡ b ++ r → length b ≡ min n (length xs) → 0 < length xs
    → Next x c i b r (take (length c - i) (drop i c))
next x c m i xs b r n p size at_i e l some =
    let long : length xs ≡ length x - i = ap length at_i ∙ length-drop i x in
    let here : i < length x = omega arith in
    let block : b ≡ take BLOCK (drop i x) = front_is n xs b r e l ∙ rw (size, at_i) refl in
    record {
      here = here;
      block = block;
      left = rest_is n xs b r e l ∙ rw (size, at_i) (drop-drop BLOCK i x);
      along_c = rest i c;
      ready = record {
        short = omega arith;
        reach = rw (length_part i (length c) c (omega (arith, p.reach))) (omega (arith, p.reach));
        low_x = rw block (low_part i BLOCK x p.low_x);
        low_c = low_part i (length c - i) c p.low_c;
      };
    }

module _ (x c : List ℕ) (m i : ℕ) (p : AnyLength x c m) {b r cs : List ℕ} (now : Next x c i b r cs) (s t : List ℕ) (q : Missing x c m (drop i x) (drop i c) s) (ht : t ≡ table 4 (along b cs)) where
  -- The remainder so far and the block's sum.
  pub sum_fits : (j : ℕ) → j < 4 → at s j + at t j < 2 ^ 64
  sum_fits j k =
      rw (ht, at_table 4 (along b cs) j k)
      (omega (arith, q.low j, p.limit, block-le b cs j (length b) now.ready (omega arith), block_fits))

  pub next_block : (s' : List ℕ) (i' : ℕ) → i' ≡ i + BLOCK → s' ≡ table 4 (λ j. (at s j + at t j) % m) → Missing x c m (drop i' x) (drop i' c) s'
  next_block s' i' g f = record {
    four = rw f (length-table 4 _);
    low = rw f (table_low 4 m _ p.positive (λ j. mod-lt (at s j + at t j) p.positive));
    rest = λ j k.
        let block_sum : at t j ≡ along (take BLOCK (drop i x)) (drop i c) j = rw (ht, at_table 4 (along b cs) j k, now.along_c, now.block) in
        let both : at s j + at t j + along (drop (i + BLOCK) x) (drop (i + BLOCK) c) j ≡ at s j + along (drop i x) (drop i c) j =
        omega (arith, block_sum, rw (drop-drop BLOCK i x, drop-drop BLOCK i c) at (along_split BLOCK (drop i x) (drop i c) j))
        in
        rw (f, at_table 4 (λ j. (at s j + at t j) % m) j k, g)
        (mod-add-mod (at s j + at t j) m _ ∙ ap (λ (z : ℕ). z % m) both ∙ q.rest j k);
  }
