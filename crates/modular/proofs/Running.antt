-- The powers of a factor list multiplied entry by entry: what is left of both lists rises from the prime before, and the powers so far times those of the rest
-- are the product. Assumes nothing.
use Prim.Native.Nat.{ℕ, ◌+◌, ◌*◌, ◌^◌, ◌≤◌, ◌<◌}
use mathlib.Core.Path.{◌≡◌, sym, ap, ◌∙◌, subst}
use mathlib.Core.List.{List}
use native.Mathlib.Omega.{arith}
use native.Mathlib.Decide.{dec_le}
use native.Mathlib.Numerals.{add-one}
use native.Mathlib.Nat.{mul-one, mul_assoc, one-le-pow, le-mul_of_pos_right}
use borrow.Author.Tests.{ne_eqb}
use lib.Dec.{eqb}
use lib.ListN.{length, drop}
use lib.Seq.{drop-cons, drop-length}
use Rattle.sums.specs.Table.{at}
use Rattle.modular.specs.FactorList.{FactorEntry, Rising, powers}
use Rattle.modular.specs.Capped.{Capped}
use Rattle.modular.proofs.Factors.{powers_some}

-- What is left of both lists.
abbrev pub Left : ℕ → List ℕ → List ℕ → ℕ → Type 0
Left before ps es i = Rising before (drop i ps) (drop i es)

module _ (ps es : List ℕ) (i : ℕ) (hp : i < length ps) (he : i < length es) where
  first : (before : ℕ) → Left before ps es i ≡ (FactorEntry before (at ps i) (at es i) × Left (at ps i) ps es (i + 1))
  first before = rw (add-one i, drop-cons ps i 0, drop-cons es i 0)

  pub left_split : {before : ℕ} → Left before ps es i → FactorEntry before (at ps i) (at es i) × Left (at ps i) ps es (i + 1)
  left_split {before} l = subst (λ (T : Type 0). T) (first before) l

  powers-first : powers (drop i ps) (drop i es) ≡ at ps i ^ at es i * powers (drop (i + 1) ps) (drop (i + 1) es)
  powers-first = rw (add-one i, drop-cons ps i 0, drop-cons es i 0)

-- After i entries.
module _ (ps es : List ℕ) (i : ℕ) (hp : i ≡ length ps) (he : i ≡ length es) where
  powers_none : powers (drop i ps) (drop i es) ≡ 1
  powers_none = rw (hp, drop-length ps)

-- The product of the first i powers is x, or both are above m.
pub record Running (m : ℕ) (ps es : List ℕ) (i x : ℕ) : Type 0 where
  pub before : ℕ
  pub left : Left before ps es i
  pub same : x ≤ m → powers ps es ≡ x * powers (drop i ps) (drop i es)
  pub over : m < x → m < powers ps es

pub running_start : (m : ℕ) (ps es : List ℕ) → Rising 0 ps es → Running m ps es 0 1
running_start m ps es r = record { before = 0; left = r; same = λ l. omega arith; over = λ l. omega (arith, powers_some 0 ps es r) }

pub running_end : (m : ℕ) (ps es : List ℕ) (i x : ℕ) → i ≡ length ps → i ≡ length es → Running m ps es i x → Capped m (powers ps es) x
running_end m ps es i x hp he v = record { same = λ l. sym (v.same l ∙ ap (λ (z : ℕ). x * z) (powers_none ps es i hp he) ∙ mul-one x); over = v.over }

pub running_next : (m : ℕ) (ps es : List ℕ) (i x r : ℕ) → i < length ps → i < length es → Capped m (x * at ps i ^ at es i) r → Running m ps es i x → Running m ps es (i + 1) r
running_next m ps es i x r hp he c v = record {
  before = p;
  left = split.1;
  same = λ l. let q = c.same l in whole (omega (arith, up)) ∙ ap (λ (z : ℕ). z * rest) (sym q);
  over = λ l. elim (dec_le x m) [ yes h ↦ omega (arith, c.over l, whole h, le-mul_of_pos_right (x * p ^ e) some) | no h ↦ v.over (omega arith) ];
}
  where
    p : ℕ
    p = at ps i

    e : ℕ
    e = at es i

    rest : ℕ
    rest = powers (drop (i + 1) ps) (drop (i + 1) es)

    split : FactorEntry v.before p e × Left p ps es (i + 1)
    split = left_split ps es i hp he v.left

    some : 0 < rest
    some = powers_some p (drop (i + 1) ps) (drop (i + 1) es) split.1

    up : x ≤ x * p ^ e
    up = le-mul_of_pos_right x (one-le-pow e p (omega (arith, split.0.above)))

    whole : x ≤ m → powers ps es ≡ x * p ^ e * rest
    whole h = v.same h ∙ ap (λ (z : ℕ). x * z) (powers-first ps es i hp he) ∙ sym (mul_assoc x (p ^ e) rest)

-- What is the product, or above m as the product is, is m exactly where the product is.
pub capped_test : {m x r whole : ℕ} → Capped m x r → whole ≡ m → eqb r whole ≡ eqb x m
capped_test {m} {x} {r} {whole} c w = elim (dec_le r m) [
  | yes l ↦ rw (w, c.same l)
  | no l ↦ ne_eqb r whole (λ e. omega arith) ∙ sym (ne_eqb x m (λ e. omega (arith, c.over (omega arith))))
]
