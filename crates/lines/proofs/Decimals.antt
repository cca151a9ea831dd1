-- A number has one decimal: digits without a leading zero are as many as the number asks for, since k digits are worth less than 10^k and k + 1 digits
-- with a first one above 0 at least that; and as many digits of equal worth are equal, one by one. The next digit comes last. Assumes nothing.
use Prim.Native.Nat.{ℕ, ◌+◌, ◌*◌, ◌/◌, ◌%◌, ◌^◌, ◌≤◌, ◌<◌}
use mathlib.Core.Path.{◌≡◌, refl, sym, ap, ◌∙◌}
use mathlib.Core.List.{List, [], ◌∷◌, ◌++◌, map, map-append}
use native.Mathlib.Omega.{arith}
use native.Mathlib.Nat.{pow-zero, pow-suc, pow-le-pow_right, mul-le-mul_right, mod-lt, div-add-mod'}
use native.Mathlib.Decide.{dec_lt}
use lib.ListN.{length, length-append, length-map}
use Rattle.lines.specs.Decimal.{value, Digits, NoLeadingZero, glyph, Decimal}

-- ---- how much digits are worth

value_below : (ds : List ℕ) → Digits ds → value ds < 10 ^ length ds
unfolding value
value_below [] h = omega (arith, pow-zero 10)
value_below (d ∷ ds) h = omega (arith, value_below ds h.1, pow-suc 10 (length ds), mul-le-mul_right (10 ^ length ds) (at_most d h.0))
  where
    at_most : (d : ℕ) → d < 10 → d ≤ 9
    at_most d h = omega arith

value_above : (ds : List ℕ) (k : ℕ) → NoLeadingZero ds → 0 < k → k < length ds → 10 ^ k ≤ value ds
unfolding value
value_above [] k h some few = absurd h
value_above (d ∷ []) k h some few = absurd (omega arith)
value_above (d ∷ e ∷ ds) k h some few = omega (arith, pow-le-pow_right {n = 10} (omega arith) {i = k} {j = length (e ∷ ds)} (omega arith), mul-le-mul_right (10 ^ length (e ∷ ds)) h)

value_last : (ds : List ℕ) (d : ℕ) → value (ds ++ (d ∷ [])) ≡ value ds * 10 + d
unfolding value
value_last [] d = omega (arith, pow-zero 10)
value_last (c ∷ ds) d = omega (arith, value_last ds d, ap (λ (z : ℕ). c * z) power)
  where
    power : 10 ^ length (ds ++ (d ∷ [])) ≡ 10 ^ length ds * 10
    power = ap (λ (k : ℕ). 10 ^ k) (length-append ds (d ∷ []) ∙ omega arith) ∙ pow-suc 10 (length ds)

-- ---- one decimal

first-at-most : (p d e v w : ℕ) → w < p → d * p + v ≡ e * p + w → d ≤ e
first-at-most p d e v w small same = elim (dec_lt e d) [ yes h ↦ absurd (omega (arith, mul-le-mul_right p h)) | no h ↦ omega arith ]

same_digits : (ds es : List ℕ) → length ds ≡ length es → Digits ds → Digits es → value ds ≡ value es → ds ≡ es
unfolding value
same_digits [] [] n h k e = refl
same_digits [] (e ∷ es) n h k x = absurd (omega arith)
same_digits (d ∷ ds) [] n h k x = absurd (omega arith)
same_digits (d ∷ ds) (e ∷ es) n h k x =
    let long : length ds ≡ length es = omega arith in
    let power : 10 ^ length es ≡ 10 ^ length ds = ap (λ (j : ℕ). 10 ^ j) (sym long) in
    let same : d * 10 ^ length ds + value ds ≡ e * 10 ^ length ds + value es = x ∙ ap (λ (p : ℕ). e * p + value es) power in
    let below = value_below ds h.1 in
    let below' : value es < 10 ^ length ds = omega (arith, value_below es k.1) in
    let first : d ≡ e = omega (arith, first-at-most _ d e (value ds) (value es) below' same, first-at-most _ e d (value es) (value ds) below (sym same)) in
    let rest : value ds ≡ value es = omega (arith, ap (λ (z : ℕ). z * 10 ^ length ds) first) in
    rw (first, same_digits ds es long h.1 k.1 rest)

some_digit : (ds : List ℕ) → NoLeadingZero ds → 0 < length ds
some_digit [] h = absurd h
some_digit (d ∷ ds) h = omega arith

no_longer : (ds es : List ℕ) → Digits ds → NoLeadingZero ds → NoLeadingZero es → value ds ≡ value es → length es ≤ length ds
no_longer ds es h k k' e = elim (dec_lt (length ds) (length es)) [
  | yes l ↦ absurd (omega (arith, value_above es (length ds) k' (some_digit ds k) l, value_below ds h))
  | no l ↦ omega arith
]

pub one_decimal : {x : ℕ} {t u : List ℕ} → Decimal x t → Decimal x u → t ≡ u
one_decimal a b =
    let same = a.worth ∙ sym b.worth in
    let longer = no_longer a.digits b.digits a.all a.leads b.leads same in
    let shorter = no_longer b.digits a.digits b.all b.leads a.leads (sym same) in
    a.bytes ∙ ap (map glyph) (same_digits a.digits b.digits (omega arith) a.all b.all same) ∙ sym b.bytes

-- A number below 10^k has at most k digits.
pub decimal_short : {x : ℕ} {t : List ℕ} (k : ℕ) → 0 < k → x < 10 ^ k → Decimal x t → length t ≤ k
decimal_short k some low a = elim (dec_lt k (length a.digits)) [
  | yes h ↦ absurd (omega (arith, a.worth, value_above a.digits k a.leads some h))
  | no h ↦ omega (arith, ap length a.bytes, length-map a.digits glyph)
]

-- ---- digit by digit

pub one_digit : (x : ℕ) → x < 10 → Decimal x (glyph x ∷ [])
unfolding value
one_digit x h = record { digits = x ∷ []; all = (h, tt); leads = tt; worth = omega (arith, pow-zero 10); bytes = refl }

digits_last : (ds : List ℕ) (d : ℕ) → Digits ds → d < 10 → Digits (ds ++ (d ∷ []))
digits_last [] d h k = (k, tt)
digits_last (c ∷ ds) d h k = (h.0, digits_last ds d h.1 k)

leads_on : (ds : List ℕ) (d : ℕ) → NoLeadingZero ds → 0 < value ds → NoLeadingZero (ds ++ (d ∷ []))
unfolding value
leads_on [] d h some = absurd h
leads_on (c ∷ []) d h some = omega (arith, pow-zero 10)
leads_on (c ∷ e ∷ ds) d h some = h

pub next_digit : (x : ℕ) {t : List ℕ} → 10 ≤ x → Decimal (x / 10) t → Decimal x (t ++ (glyph (x % 10) ∷ []))
next_digit x h a =
    let digit : x % 10 < 10 = mod-lt x (omega arith) in
    let whole = div-add-mod' x 10 in
    record {
      digits = a.digits ++ (x % 10 ∷ []);
      all = digits_last a.digits (x % 10) a.all digit;
      leads = leads_on a.digits (x % 10) a.leads (omega (arith, a.worth));
      worth = value_last a.digits (x % 10) ∙ omega (arith, a.worth);
      bytes = ap (λ (l : List ℕ). l ++ (glyph (x % 10) ∷ [])) a.bytes ∙ sym (map-append glyph a.digits (x % 10 ∷ []));
    }
