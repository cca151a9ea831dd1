-- What the rows of document 01's table say of a sheet: required tags, right lengths, and how far fields reach. The facts of the first part are computed from the
-- rows; the rest follows from the laws of any table (Rows). Above, only the law of written sheets (Written) looks into the rows. Assumes nothing.
use Rattle.std.specs.Prelude.{Option, Some, None, is_some, IfSome}
use Prim.Native.Nat.{ℕ, ◌+◌, ◌%◌, ◌≤◌, ◌<◌}
use mathlib.Core.Path.{◌≡◌, refl, sym, subst, ◌∙◌}
use mathlib.Core.Logic.{◌≢◌}
use mathlib.Core.Bool.{true, false}
use lib.Dec.{eqb}
use mathlib.Core.List.{List, [], ◌∷◌}
use native.Mathlib.Omega.{arith}
use native.Mathlib.Decide.{dec_lt}
use borrow.Author.Tests.{eq-eqb, ne_eqb, lt-ltb}
use lib.ListN.{length, drop}
use Rattle.limits.specs.Limits.{header_bytes, version_bytes, modulus_bytes, factor_bytes, entry_bytes, most_factor_bytes, most_entry_bytes, most_sheet_bytes}
use Rattle.fields.specs.Fields.{Field, last_tag, version_of, part_of, or_empty}
use Rattle.fields.specs.Tags.{Unknown, Right, Row, row, required, exactly, tags, fit, lacks}
use Rattle.fields.specs.Checks.{above_tags}
use Rattle.fields.specs.Walk.{accepted, reading}
use Rattle.fields.specs.Kept.{number, kept}
use Rattle.fields.specs.declared.Part.{Part}
use Rattle.fields.specs.declared.Tag.{Tag}
use Rattle.fields.specs.declared.Tag.TheVariants.{Version, Modulus, Factors, Pattern, Readings}
use Rattle.fields.proofs.Sound.{Sound, accepted_whole, part_inside}
use Rattle.fields.proofs.Rows.{never, Fitting, lacks_none, InOrder, AllLower, part_suits, most_of, Caps, reach, total, reach_total, Within, within_start, within_next}

-- ---- computed from the rows

all_lower : (version : ℕ) → AllLower (tags version)
unfolding tags
all_lower version = omega arith

-- The version's row comes first, the same in every version.
abbrev later : (version : ℕ) → List Row
later version = drop 1 (tags version)

version_row : (version : ℕ) → tags version ≡ row 1 required (exactly version_bytes) ∷ later version
unfolding tags
version_row version = refl

-- The rows before any version is told are those of every version.
abbrev every : List Row
every = tags 0

in_every : (version : ℕ) (come : List Field) (tag len : ℕ) → fit (tags version) come tag len ≡ Right → fit every come tag len ≡ Right
unfolding tags
in_every version come tag len e = e

caps : Caps (most_of every) every
unfolding tags
caps = omega arith

-- A byte that stands for no tag is in no row.
pub unknown_tag : (version : ℕ) (come : List Field) (byte len : ℕ) → ((tag : Tag) → number tag ≢ byte) → fit (tags version) come byte len ≡ Unknown
unfolding tags
unknown_tag version come byte len none =
    let other : (tag : Tag) → eqb byte (number tag) ≡ false = λ tag. ne_eqb byte (number tag) (λ e. none tag (sym e)) in
    simp (other Version, other Modulus, other Factors, other Pattern, other Readings)

-- A field with such a tag leaves what is kept as it was, but for the last tag.
pub kept_unknown : (come : List Field) (f : Field) → ((tag : Tag) → number tag ≢ f.tag) → kept (f ∷ come) ≡ record {
  last = f.tag;
  version = part_of come 1;
  modulus = part_of come 2;
  factors = part_of come 3;
  pattern = part_of come 4;
  readings = part_of come 5;
}
unfolding part_of
kept_unknown come f none =
    let other : (tag : Tag) → eqb f.tag (number tag) ≡ false = λ tag. ne_eqb f.tag (number tag) (λ e. none tag (sym e)) in
    simp (other Version, other Modulus, other Factors, other Pattern, other Readings)

-- The longest sheet has every field, each with its longest value.
all_fields : total (most_of every) every ≡ most_sheet_bytes
unfolding tags
all_fields = refl

pub reach_most : (last : ℕ) → reach (most_of every) every last ≤ most_sheet_bytes
reach_most last = subst (λ (k : ℕ). reach (most_of every) every last ≤ k) all_fields (reach_total (most_of every) every last)

-- The tags that a sheet must have.
pub record Required (come : List Field) : Type 0 where
  pub version : is_some (part_of come 1) ≡ true
  pub modulus : is_some (part_of come 2) ≡ true
  pub factors : is_some (part_of come 3) ≡ true
  pub pattern : is_some (part_of come 4) ≡ true

none_lacks : (version : ℕ) (come : List Field) → lacks (tags version) come above_tags ≡ false → Required come
unfolding tags
none_lacks version come e =
    let has = lacks_none come above_tags (tags version) e in
    record { version = has.0 (omega arith); modulus = has.1.0 (omega arith); factors = has.1.1.0 (omega arith); pattern = has.1.1.1.0 (omega arith) }

-- ---- the fields that are accepted

version_stays : (s : List ℕ) (f : Field) (come : List Field) → 1 < f.tag → version_of s (f ∷ come) ≡ version_of s come
unfolding part_of
version_stays s f come h = rw (ne_eqb f.tag 1 (λ e. omega arith))

version_first : (version tag : ℕ) → lacks (tags version) [] tag ≡ false → tag ≤ 1
unfolding part_of
version_first version tag e = elim (dec_lt 1 tag) [ yes h ↦ never (rw (version_row version, lt-ltb 1 tag h) at e) | no h ↦ omega arith ]

version_alike : (version other tag : ℕ) → tag ≡ 1 → (come : List Field) (len : ℕ) → fit (tags version) come tag len ≡ fit (tags other) come tag len
version_alike version other tag e come len = rw (version_row version, version_row other, eq-eqb tag 1 e)

-- They fit the rows of the version that the sheet tells.
sound_order : (s : List ℕ) (come : List Field) → Sound s come → InOrder (tags (version_of s come)) come
sound_order s [] h = tt
sound_order s (f ∷ []) h =
    let k = version_first (version_of s []) f.tag h.0.complete in
    let e : f.tag ≡ 1 = omega (arith, h.0.above) in
    (version_alike (version_of s (f ∷ [])) (version_of s []) f.tag e [] f.len ∙ h.0.fits, h.0.above, tt)
sound_order s (f ∷ g ∷ come) h =
    subst (λ (v : ℕ). InOrder (tags v) (f ∷ g ∷ come)) (sym (version_stays s f (g ∷ come) (omega (arith, h.0.above, h.1.0.above))))
    (h.0.fits, h.0.above, sound_order s (g ∷ come) h.1)

-- A part that has come suits the row of its tag.
part_right : (s : List ℕ) (come : List Field) (tag : ℕ) → Sound s come → is_some (part_of come tag) ≡ true → Fitting (tags (version_of s come)) come tag (or_empty (part_of come tag)).len
part_right s come tag h p = part_suits (tags (version_of s come)) (all_lower (version_of s come)) come tag (sound_order s come h) p

pub accepted_has : (s : List ℕ) (come : List Field) → reading s ≡ accepted come → Required come
accepted_has s come e = none_lacks (version_of s come) come (accepted_whole s come e).complete

pub modulus_inside : (s : List ℕ) (come : List Field) → reading s ≡ accepted come → (or_empty (part_of come 2)).from + modulus_bytes ≤ length s
unfolding tags
modulus_inside s come e =
    let whole = accepted_whole s come e in
    let four : (or_empty (part_of come 2)).len ≡ modulus_bytes = part_right s come 2 whole.sound (accepted_has s come e).modulus in
    omega (arith, part_inside s come 2 whole.sound)

-- The parts told have right lengths.
pub record Sized (factors pattern : Part) (readings : Option Part) : Type 0 where
  pub fives : factors.len % factor_bytes ≡ 0
  pub few : factors.len ≤ most_factor_bytes
  pub fours : pattern.len % entry_bytes ≡ 0
  pub small : pattern.len ≤ most_entry_bytes
  pub same : IfSome readings (λ part. part.len ≡ pattern.len)

where_come : (n : ℕ) (readings : Option Part) → (is_some readings ≡ true → (or_empty readings).len ≡ n) → IfSome readings (λ part. part.len ≡ n)
where_come n None h = tt
where_come n (Some part) h = h refl

pub accepted_sized : (s : List ℕ) (come : List Field) → reading s ≡ accepted come → Sized (or_empty (part_of come 3)) (or_empty (part_of come 4)) (part_of come 5)
unfolding tags
accepted_sized s come e =
    let whole = accepted_whole s come e in
    let has = accepted_has s come e in
    let factors = part_right s come 3 whole.sound has.factors in
    let pattern = part_right s come 4 whole.sound has.pattern in
    record { fives = factors.0; few = factors.1; fours = pattern.0; small = pattern.1; same = where_come (or_empty (part_of come 4)).len (part_of come 5) (part_right s come 5 whole.sound) }

-- ---- how far fields reach

abbrev pub Bounded : (come : List Field) (o : ℕ) → Type 0
Bounded come o = Within (most_of every) every come o

pub bounded_none : Bounded [] 0
bounded_none = within_start (most_of every) every

-- A field with a right length keeps within reach.
pub bounded_on : (version : ℕ) (come : List Field) (o len : ℕ) → Bounded come o → (tag : ℕ) → fit (tags version) come tag len ≡ Right → last_tag come < tag
    → Bounded (record { tag = tag; from = o + header_bytes; len = len } ∷ come) (o + header_bytes + len)
bounded_on version come o len b tag e h = within_next (most_of every) every caps (record { tag = tag; from = o + header_bytes; len = len }) come o b h (in_every version come tag len e)
