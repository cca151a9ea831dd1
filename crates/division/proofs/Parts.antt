-- Terms added to the part of an array that begins at their shift: the whole array is then the sum of polynomials. Past the part, past the array and
-- past the divisor's coefficients all is 0. Assumes nothing.
use Prim.Native.Nat.{ℕ, zero, suc, ◌+◌, ◌*◌, ◌-◌, ◌%◌, ◌<◌}
use mathlib.Core.Path.{◌≡◌, sym, ◌∙◌, ap, subst, fun_ext}
use mathlib.Core.List.{List, ◌++◌}
use native.Mathlib.Decide.{dec_lt}
use native.Mathlib.Omega.{arith}
use native.Mathlib.Nat.{add-mod-mod, mod-eq_of_lt, zero-mod}
use lib.ListN.{length, take, drop, length-append, length-take, length-drop, get_or-append}
use lib.Seq.{get_or-take, get_or-drop, get_or-append-add, length-take-le}
use Rattle.sums.specs.Table.{at}
use Rattle.sums.proofs.Tables.{at_past, at_table, length-table}
use Rattle.rows.specs.Row.{times_linear, plus}
use Rattle.division.specs.Limits.{places}
use Rattle.series.specs.Series.{Below, Reduced}
use Rattle.division.specs.Division.{Coefficients}
use Rattle.division.specs.Terms.{AddableTerms, Added}
use Rattle.series.specs.Operations.{times, add, mul, linear}
use Rattle.division.specs.declared.Terms.{Terms}
use Rattle.series.proofs.Degrees.{below_at, reduced_add}
use Rattle.division.proofs.Linear.{linear_low, linear-at}

-- The coefficients of a list that is 0 from len on are its first len.
pub take_front : (len : ℕ) (b : List ℕ) → Below len (at b) → (i : ℕ) → at (take len b) i ≡ at b i
take_front len b h i = elim (dec_lt i len) [
  | yes l ↦ get_or-take len b i 0 l
  | no l ↦ at_past (take len b) i (omega (arith, length-take len b)) ∙ sym (below_at len (at b) h i (omega arith))
]

take-linear : (low high len : ℕ) (b : List ℕ) → Below len (at b) → (i : ℕ) → times_linear low high (take len b) i ≡ times_linear low high b i
take-linear low high len b h zero = omega (arith, ap (λ (x : ℕ). low * x) (take_front len b h 0))
take-linear low high len b h (suc i) = omega (arith, ap (λ (x : ℕ). low * x) (take_front len b h (suc i)), ap (λ (x : ℕ). high * x) (take_front len b h i))

linear_past : (low high len : ℕ) (b : List ℕ) → Below len (at b) → (i : ℕ) → len < i → times_linear low high b i ≡ 0
linear_past low high len b h zero l = omega arith
linear_past low high len b h (suc i) l = omega (arith, ap (λ (x : ℕ). low * x) (below_at len (at b) h (suc i) (omega arith)), ap (λ (x : ℕ). high * x) (below_at len (at b) h i (omega arith)))

-- Parts of an array of coefficients below p.
pub front_low : {p : ℕ} {b : List ℕ} (len : ℕ) → Coefficients p b → (i : ℕ) → at (take len b) i < p
unfolding Reduced
front_low {p} {b} len h i = elim (dec_lt i len) [
  | yes l ↦ rw (get_or-take len b i 0 l) (h.reduced i)
  | no l ↦ rw (at_past (take len b) i (omega (arith, length-take len b))) (omega (arith, h.reduced 0))
]

pub part_low : {p : ℕ} {a : List ℕ} (j : ℕ) → Coefficients p a → (i : ℕ) → at (take (length a - j) (drop j a)) i < p
unfolding Reduced
part_low {p} {a} j h i = elim (dec_lt i (length a - j)) [
  | yes l ↦ rw (get_or-take (length a - j) (drop j a) i 0 l, get_or-drop j a i 0) (h.reduced (j + i))
  | no l ↦ rw (at_past (take (length a - j) (drop j a)) i (omega (arith, length-take (length a - j) (drop j a)))) (omega (arith, h.reduced 0))
]

module _ {t : Terms} {len : ℕ} {a₀ b y : List ℕ} (r : AddableTerms t len a₀ b)
    (e : y ≡ plus t.low.modulus (take (length a₀ - t.shift) (drop t.shift a₀)) (times_linear t.low.value t.high.value (take len b))) where
  abbrev p : ℕ
  p = t.low.modulus

  abbrev j : ℕ
  j = t.shift

  abbrev whole : List ℕ
  whole = take t.shift a₀ ++ (y ++ drop (length a₀ - t.shift) (drop t.shift a₀))

  pos : 0 < p
  pos = omega (arith, r.modulus.two)

  long_part : length (take (length a₀ - j) (drop j a₀)) ≡ length a₀ - j
  long_part = omega (arith, length-take (length a₀ - j) (drop j a₀), length-drop j a₀)

  long_y : length y ≡ length a₀ - j
  unfolding plus
  long_y = ap length e ∙ length-table (length (take (length a₀ - j) (drop j a₀))) _ ∙ long_part

  long_front : length (take j a₀) ≡ j
  long_front = length-take-le j a₀ (omega (arith, r.room, r.onto.long))

  long_whole : length whole ≡ places
  long_whole =
      omega (
        arith,
        length-append (take j a₀) (y ++ drop (length a₀ - j) (drop j a₀)),
        length-append y (drop (length a₀ - j) (drop j a₀)),
        length-drop (length a₀ - j) (drop j a₀),
        length-drop j a₀,
        long_y,
        long_front,
        r.room,
        r.onto.long,
      )

  -- Before the part all stays.
  before : (k : ℕ) → k < j → at whole k ≡ at a₀ k
  before k h = get_or-append (take j a₀) (y ++ drop (length a₀ - j) (drop j a₀)) 0 k (omega (arith, long_front)) ∙ get_or-take j a₀ k 0 h

  -- In it the terms are added.
  inside : (i : ℕ) → i + j < length a₀ → at whole (i + j) ≡ (at a₀ (i + j) + times_linear t.low.value t.high.value b i) % p
  unfolding plus
  inside i h =
      ap (at whole) {x = i + j} {y = length (take j a₀) + i} (omega (arith, long_front)) ∙ get_or-append-add (take j a₀) (y ++ drop (length a₀ - j) (drop j a₀)) i 0
      ∙ get_or-append y (drop (length a₀ - j) (drop j a₀)) 0 i (omega (arith, long_y)) ∙ ap (λ (l : List ℕ). at l i) e
      ∙ at_table (length (take (length a₀ - j) (drop j a₀))) _ i (omega (arith, long_part))
      ∙ ap (λ (x : ℕ). (x + times_linear t.low.value t.high.value (take len b) i) % p) (get_or-take (length a₀ - j) (drop j a₀) i 0 (omega arith) ∙ get_or-drop j a₀ i 0 ∙ ap (at a₀) {x = j + i} {y = i + j} (omega arith))
      ∙ ap (λ (x : ℕ). (at a₀ (i + j) + x) % p) (take-linear t.low.value t.high.value len b r.below i)

  from : (k i : ℕ) → k ≡ i + j → at whole k ≡ (at a₀ k + times_linear t.low.value t.high.value b i) % p
  from k i q = elim (dec_lt k (length a₀)) [
    | yes h ↦ ap (at whole) q ∙ inside i (omega arith) ∙ ap (λ (x : ℕ). (at a₀ x + times_linear t.low.value t.high.value b i) % p) (sym q)
    | no h ↦ at_past whole k (omega (arith, long_whole, r.onto.long))
        ∙ sym (ap (λ (x : ℕ). x % p) (omega (arith, at_past a₀ k (omega arith), linear_past t.low.value t.high.value len b r.below i (omega (arith, r.room, r.onto.long)))) ∙ zero-mod p)
  ]

  sums : at whole ≡ add p (at a₀) (mul p (linear t.low.value t.high.value t.shift) (at b))
  unfolding add mul Reduced
  sums = fun_ext λ k. elim (dec_lt k j) [
    | yes h ↦ before k h ∙ sym (ap (λ (x : ℕ). (at a₀ k + x % p) % p) (linear_low t.low.value t.high.value t.shift (at b) k h) ∙ add-mod-mod (at a₀ k) 0 p ∙ ap (λ (x : ℕ). x % p) {x = at a₀ k + 0} {y = at a₀ k} (omega arith) ∙ mod-eq_of_lt (r.onto.reduced k))
    | no h ↦
        let q : k ≡ k - j + j = omega arith in
        from k (k - j) q ∙ sym (add-mod-mod (at a₀ k) (times (linear t.low.value t.high.value t.shift) (at b) k) p ∙ ap (λ (x : ℕ). (at a₀ k + x) % p) (linear-at t.low.value t.high.value t.shift b k (k - j) q))
  ]

  pub added : Added t a₀ whole b
  added = record {
    held = record { long = long_whole; reduced = subst (Reduced p) (sym sums) (reduced_add p (at a₀) (mul p (linear t.low.value t.high.value t.shift) (at b)) pos) };
    sum = sums;
  }
