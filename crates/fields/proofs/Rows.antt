-- Laws of any table of tags, by recursion over its rows: what a right length is, that no required tag is lacking, that the part of a tag that has come suits
-- its row, and how far fields reach. No tag's number stands here; Table has what is computed from the rows of document 01. Assumes nothing.
use Rattle.std.specs.Prelude.{is_some}
use Prim.Native.Nat.{ℕ, ◌+◌, ◌%◌, ◌≤◌, ◌<◌}
use mathlib.Core.Path.{◌≡◌, refl, sym, ap, subst}
use mathlib.Core.Bool.{Bool, true, false, not, cond, ◌&&◌}
use mathlib.Core.List.{List, [], ◌∷◌}
use native.Mathlib.Omega.{arith}
use native.Mathlib.Decide.{ℕ_discrete, dec_lt}
use borrow.Author.Tests.{eq-eqb, ne_eqb, le-leb, lt-ltb, le-ltb, eqb-true, leb-true, not-false}
use lib.Dec.{eqb, ltb, leb}
use Rattle.limits.specs.Limits.{header_bytes}
use Rattle.answer.proofs.Firsts.{neither}
use Rattle.fields.specs.Fields.{Field, last_tag, part_of, or_empty}
use Rattle.fields.specs.Tags.{Fit, Wrong, Right, Rule, exactly, multiple_of, that_of, Row, row, required, optional, right, fit, lacks}

pub never : {A : Type 0} → true ≡ false → A
never d = absurd (let z : ◌≡◌ {A = ℕ} 0 1 = cc in omega arith)

-- ---- right lengths

abbrev Suits : (come : List Field) → Rule → (len : ℕ) → Type 0
Suits come (exactly n) len = len ≡ n
Suits come (multiple_of step most) len = (len % step ≡ 0) × (len ≤ most)
Suits come (that_of tag) len = len ≡ (or_empty (part_of come tag)).len

abbrev pub pick : Bool → Type 0 → Type 0 → Type 0
pick true A B = A
pick false A B = B

-- What the row of this tag asks for.
abbrev pub Fitting : List Row → (come : List Field) (tag len : ℕ) → Type 0
Fitting [] come tag len = ⊥
Fitting (row t presence rule ∷ rows) come tag len = pick (eqb tag t) (Suits come rule len) (Fitting rows come tag len)

both_true : (a b : Bool) → (a && b) ≡ true → (a ≡ true) × (b ≡ true)
both_true true b e = (refl, e)
both_true false b e = never (sym e)

right_suits : (come : List Field) (rule : Rule) (len : ℕ) → right come rule len ≡ true → Suits come rule len
right_suits come (exactly n) len e = eqb-true len n e
right_suits come (multiple_of step most) len e = let x = both_true (eqb (len % step) 0) (leb len most) e in (eqb-true (len % step) 0 x.0, leb-true len most x.1)
right_suits come (that_of tag) len e = eqb-true len (or_empty (part_of come tag)).len e

suits_right : (come : List Field) (rule : Rule) (len : ℕ) → Suits come rule len → right come rule len ≡ true
suits_right come (exactly n) len h = eq-eqb len n h
suits_right come (multiple_of step most) len h = rw (eq-eqb (len % step) 0 h.0, le-leb len most h.1)
suits_right come (that_of tag) len h = eq-eqb len (or_empty (part_of come tag)).len h

right_only : (b : Bool) → cond b Right Wrong ≡ Right → b ≡ true
right_only true e = refl
right_only false e = absurd (let z : ◌≡◌ {A = ℕ} 0 1 = cc in omega arith)

-- One row, and those after it.
to_row : (b c : Bool) (rest : Fit) (A B : Type 0) → (c ≡ true → A) → (rest ≡ Right → B) → cond b (cond c Right Wrong) rest ≡ Right → pick b A B
to_row true c rest A B f g e = f (right_only c e)
to_row false c rest A B f g e = g e

from_row : (b c : Bool) (rest : Fit) (A B : Type 0) → (A → c ≡ true) → (B → rest ≡ Right) → pick b A B → cond b (cond c Right Wrong) rest ≡ Right
from_row true c rest A B f g h = rw (f h)
from_row false c rest A B f g h = g h

on_row : (b : Bool) (A B A' B' : Type 0) → (b ≡ true → A → A') → (B → B') → pick b A B → pick b A' B'
on_row true A B A' B' f g h = f refl h
on_row false A B A' B' f g h = g h

module _ (come : List Field) (tag len : ℕ) where
  fits_row : (rows : List Row) → fit rows come tag len ≡ Right → Fitting rows come tag len
  fits_row [] e = absurd (let z : ◌≡◌ {A = ℕ} 0 1 = cc in omega arith)
  fits_row (row t presence rule ∷ rows) e = to_row (eqb tag t) (right come rule len) (fit rows come tag len) _ _ (right_suits come rule len) (fits_row rows) e

  pub row_fits : (rows : List Row) → Fitting rows come tag len → fit rows come tag len ≡ Right
  row_fits [] h = absurd h
  row_fits (row t presence rule ∷ rows) h = from_row (eqb tag t) (right come rule len) (fit rows come tag len) _ _ (suits_right come rule len) (row_fits rows) h

-- ---- required tags

-- The required tags below the bound have come.
abbrev Has : List Row → (come : List Field) (bound : ℕ) → Type 0
Has [] come bound = Unit {0}
Has (row t required rule ∷ rows) come bound = (t < bound → is_some (part_of come t) ≡ true) × Has rows come bound
Has (row t optional rule ∷ rows) come bound = Has rows come bound

pub lacks_none : (come : List Field) (bound : ℕ) (rows : List Row) → lacks rows come bound ≡ false → Has rows come bound
lacks_none come bound [] e = tt
lacks_none come bound (row t required rule ∷ rows) e =
    let x = neither (ltb t bound && not (is_some (part_of come t))) (lacks rows come bound) e in
    ((λ h. not-false (is_some (part_of come t)) (rw (lt-ltb t bound h) at x.0)), lacks_none come bound rows x.1)
lacks_none come bound (row t optional rule ∷ rows) e = lacks_none come bound rows e

-- ---- the parts of tags that have come

-- The fields that have come fit the rows, and their tags rise.
abbrev pub InOrder : List Row → (come : List Field) → Type 0
InOrder rows [] = Unit {0}
InOrder rows (f ∷ come) = (fit rows come f.tag f.len ≡ Right) × (last_tag come < f.tag) × InOrder rows come

-- A rule speaks of lower tags only.
abbrev Lower : (tag : ℕ) → Rule → Type 0
Lower tag (exactly n) = Unit {0}
Lower tag (multiple_of step most) = Unit {0}
Lower tag (that_of t) = t < tag

abbrev pub AllLower : List Row → Type 0
AllLower [] = Unit {0}
AllLower (row tag presence rule ∷ rows) = Lower tag rule × AllLower rows

-- So one more field changes nothing.
module _ (f : Field) (come : List Field) where
  suits_on : (tag : ℕ) → tag ≤ f.tag → (rule : Rule) → Lower tag rule → (len : ℕ) → Suits come rule len → Suits (f ∷ come) rule len
  unfolding part_of
  suits_on tag low (exactly n) lower len h = h
  suits_on tag low (multiple_of step most) lower len h = h
  suits_on tag low (that_of t) lower len h = rw (ne_eqb f.tag t (λ e. omega arith)) h

  fitting_on : (tag len : ℕ) → tag ≤ f.tag → (rows : List Row) → AllLower rows → Fitting rows come tag len → Fitting rows (f ∷ come) tag len
  fitting_on tag len low [] lower h = h
  fitting_on tag len low (row t presence rule ∷ rows) lower h =
      on_row (eqb tag t) _ _ _ _ (λ e. suits_on t (omega (arith, eqb-true tag t e)) rule lower.0 len) (fitting_on tag len low rows lower.1) h

module _ (rows : List Row) where
  pub part_low : (come : List Field) (tag : ℕ) → InOrder rows come → is_some (part_of come tag) ≡ true → tag ≤ last_tag come
  unfolding part_of
  part_low [] tag h p = never (sym p)
  part_low (f ∷ come) tag h p = elim (ℕ_discrete f.tag tag) [ yes e ↦ omega arith | no e ↦ omega (arith, h.1, part_low come tag h.2 (rw (ne_eqb f.tag tag e) at p)) ]

  -- The part of a tag that has come suits its row.
  pub part_suits : AllLower rows → (come : List Field) (tag : ℕ) → InOrder rows come → is_some (part_of come tag) ≡ true → Fitting rows come tag (or_empty (part_of come tag)).len
  unfolding part_of
  part_suits lower [] tag h p = never (sym p)
  part_suits lower (f ∷ come) tag h p = elim (ℕ_discrete f.tag tag) [
    | yes e ↦ rw (eq-eqb f.tag tag e) (fitting_on f come tag f.len (omega arith) rows lower (subst (λ (t : ℕ). Fitting rows come t f.len) e (fits_row come f.tag f.len rows h.0)))
    | no e ↦
        let p' = rw (ne_eqb f.tag tag e) at p in
        rw (ne_eqb f.tag tag e) (fitting_on f come tag (or_empty (part_of come tag)).len (omega (arith, h.1, part_low come tag h.2 p')) rows lower (part_suits lower come tag h.2 p'))
  ]

-- ---- how far fields reach

-- The longest value of a rule; of one that names a tag, that of the tag's own rule.
abbrev look_up : List Row → (tag : ℕ) → (Rule → ℕ) → ℕ
look_up [] tag of = 0
look_up (row t presence rule ∷ rows) tag of = cond (eqb tag t) (of rule) (look_up rows tag of)

abbrev told-bytes : Rule → ℕ
told-bytes (exactly n) = n
told-bytes (multiple_of step most) = most
told-bytes (that_of tag) = 0

abbrev most_bytes : List Row → Rule → ℕ
most_bytes rows (exactly n) = n
most_bytes rows (multiple_of step most) = most
most_bytes rows (that_of tag) = look_up rows tag told-bytes

abbrev pub most_of : List Row → (tag : ℕ) → ℕ
most_of rows tag = look_up rows tag (most_bytes rows)

-- The fields with tags up to `last`, each with its header and its longest value; and all of them.
abbrev from_tag : (tag bytes last : ℕ) → ℕ
from_tag tag bytes last = cond (ltb last tag) 0 bytes

module _ (most : ℕ → ℕ) where
  abbrev Capped : (tag : ℕ) → Rule → Type 0
  Capped tag (exactly n) = n ≤ most tag
  Capped tag (multiple_of step m) = m ≤ most tag
  Capped tag (that_of t) = most t ≤ most tag

  abbrev pub Caps : List Row → Type 0
  Caps [] = Unit {0}
  Caps (row tag presence rule ∷ rows) = Capped tag rule × Caps rows

  abbrev pub reach : List Row → (last : ℕ) → ℕ
  reach [] last = 0
  reach (row tag presence rule ∷ rows) last = from_tag tag (header_bytes + most tag) last + reach rows last

  abbrev pub total : List Row → ℕ
  total [] = 0
  total (row tag presence rule ∷ rows) = header_bytes + most tag + total rows

from_most : (tag bytes last : ℕ) → from_tag tag bytes last ≤ bytes
from_most tag bytes last = by_test (ltb last tag)
  where
    by_test : (b : Bool) → cond b 0 bytes ≤ bytes
    by_test true = omega arith
    by_test false = omega arith

from_rises : (tag bytes last next : ℕ) → last ≤ next → from_tag tag bytes last ≤ from_tag tag bytes next
from_rises tag bytes last next h = elim (dec_lt next tag) [
  | yes k ↦ let j : last < tag = omega arith in rw (lt-ltb next tag k, lt-ltb last tag j) (omega arith)
  | no k ↦ let j : tag ≤ next = omega arith in rw (le-ltb next tag j) (from_most tag bytes last)
]

module _ (most : ℕ → ℕ) where
  pub reach_total : (rows : List Row) (last : ℕ) → reach most rows last ≤ total most rows
  reach_total [] last = omega arith
  reach_total (row tag presence rule ∷ rows) last = omega (arith, from_most tag (header_bytes + most tag) last, reach_total rows last)

  reach_rises : (rows : List Row) (last next : ℕ) → last ≤ next → reach most rows last ≤ reach most rows next
  reach_rises [] last next h = omega arith
  reach_rises (row tag presence rule ∷ rows) last next h = omega (arith, from_rises tag (header_bytes + most tag) last next h, reach_rises rows last next h)

  module _ (come : List Field) (len : ℕ) where
    -- A field with a right length is no longer than its rule allows, and reaches no further.
    cap : ((t : ℕ) → (or_empty (part_of come t)).len ≤ most t) → (tag : ℕ) (rule : Rule) → Capped most tag rule → Suits come rule len → len ≤ most tag
    cap low tag (exactly n) c h = omega arith
    cap low tag (multiple_of step m) c h = omega arith
    cap low tag (that_of t) c h = omega (arith, low t)

    reach_on : ((t : ℕ) → (or_empty (part_of come t)).len ≤ most t) → (tag : ℕ) → last_tag come < tag → (rows : List Row) → Caps most rows → Fitting rows come tag len
        → (len ≤ most tag) × (reach most rows (last_tag come) + (header_bytes + most tag) ≤ reach most rows tag)
    reach_on low tag above [] caps h = absurd h
    reach_on low tag above (row t presence rule ∷ rows) caps h = elim (ℕ_discrete tag t) [
      | yes e ↦
          let k : last_tag come < t = omega arith in
          let j : t ≤ tag = omega arith in
          let x : Suits come rule len = rw (eq-eqb tag t e) at h in
          rw (lt-ltb (last_tag come) t k, le-ltb tag t j) (subst (λ (y : ℕ). len ≤ most y) (sym e) (cap low t rule caps.0 x), omega (arith, ap most e, reach_rises rows (last_tag come) tag (omega arith)))
      | no n ↦
          let x : Fitting rows come tag len = rw (ne_eqb tag t n) at h in
          let y = reach_on low tag above rows caps.1 x in
          (y.0, omega (arith, y.1, from_rises t (header_bytes + most t) (last_tag come) tag (omega arith)))
    ]

-- The next offset is within reach, and so are the parts.
pub record Within (most : ℕ → ℕ) (rows : List Row) (come : List Field) (o : ℕ) : Type 0 where
  pub near : o ≤ reach most rows (last_tag come)
  pub low : (t : ℕ) → (or_empty (part_of come t)).len ≤ most t

pub within_start : (most : ℕ → ℕ) (rows : List Row) → Within most rows [] 0
unfolding part_of
within_start most rows = record { near = omega arith; low = λ t. omega arith }

pub within_next : (most : ℕ → ℕ) (rows : List Row) → Caps most rows → (f : Field) (come : List Field) (o : ℕ) → Within most rows come o → last_tag come < f.tag → fit rows come f.tag f.len ≡ Right
    → Within most rows (f ∷ come) (o + header_bytes + f.len)
unfolding part_of
within_next most rows caps f come o b above e =
    let x = reach_on most come f.len b.low f.tag above rows caps (fits_row come f.tag f.len rows e) in
    record {
      near = omega (arith, b.near, x.0, x.1);
      low = λ t. elim (ℕ_discrete f.tag t) [ yes d ↦ rw (eq-eqb f.tag t d) (subst (λ (y : ℕ). f.len ≤ most y) d x.0) | no d ↦ rw (ne_eqb f.tag t d) (b.low t) ];
    }
