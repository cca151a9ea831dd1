-- "no valid sheet is longer than 8,247, and three more show why a longer one is refused" (document 01): bytes past the first 8,250 never change what a
-- sheet means. After fields that pass with tags up to t the next offset is at most `reach t`, so at each field the header lies in the first 8,250 bytes,
-- and so does a value of right length; both walks make the same steps. Both numbers are `limits`' own, most-sheet-bytes and deciding-bytes. Assumes nothing.
use Rattle.std.specs.Prelude.{Ok, Err}
use Prim.Native.Nat.{ℕ, zero, suc, ◌+◌, ◌-◌, ◌≤◌, ◌<◌}
use mathlib.Core.Path.{◌≡◌, refl, sym, ap, ◌∙◌}
use mathlib.Core.List.{List, [], ◌∷◌}
use native.Mathlib.Omega.{arith}
use native.Mathlib.Decide.{ℕ_discrete, dec_lt, dec_le}
use borrow.Author.Tests.{le-ltb, le-leb, eq-eqb, ne_eqb}
use lib.ListN.{length, take}
use lib.Seq.{get_or-take, length-take-le, take_all}
use Rattle.limits.specs.Limits.{header_bytes, most_sheet_bytes, deciding_bytes}
use Rattle.sums.specs.Table.{at}
use Rattle.answer.specs.First.{first}
use Rattle.answer.specs.Check.{Check}
use Rattle.octets.specs.Numbers.{big_endian}
use Rattle.fields.specs.Fields.{Field, tag_at, length_at, field_at, next_at, last_tag, part_of, version_of}
use Rattle.fields.specs.Tags.{Fit, Unknown, Wrong, Right, tags, fit}
use Rattle.fields.specs.Checks.{value_order, field_order}
use Rattle.fields.specs.Walk.{accepted, unless, walk, reading}
use Rattle.fields.proofs.Passes.{field_passes}
use Rattle.fields.proofs.Walks.{walk_on}
use Rattle.fields.proofs.Sound.{unless_accepted}
use Rattle.fields.proofs.Table.{Bounded, bounded_none, bounded_on, reach_most}

-- ---- the same bytes

module _ (n : ℕ) (s : List ℕ) where
  same_at : (i : ℕ) → i < n → at (take n s) i ≡ at s i
  same_at i h = get_or-take n s i 0 h

  same_number : (width o : ℕ) → o + width ≤ n → big_endian width (take n s) o ≡ big_endian width s o
  unfolding big_endian
  same_number zero o h = refl
  same_number (suc width) o h = rw (same_number width o (omega arith), same_at (o + width) (omega arith))

-- ---- a sheet of deciding-bytes or more

module _ (s : List ℕ) (long : deciding_bytes ≤ length s) where
  abbrev a : List ℕ
  a = take deciding_bytes s

  a_long : length a ≡ deciding_bytes
  a_long = length-take-le deciding_bytes s long

  module _ (come : List Field) (o : ℕ) (b : Bounded come o) (told_same : version_of a come ≡ version_of s come) where
    near : o ≤ most_sheet_bytes
    near = omega (arith, b.near, reach_most (last_tag come))

    -- After a field of right length.
    within : (tag len : ℕ) → fit (tags (version_of s come)) come tag len ≡ Right → last_tag come < tag → o + header_bytes + len ≤ most_sheet_bytes
    within tag len e h = omega (arith, (bounded_on (version_of s come) come o len b tag e h).near, reach_most tag)

    same_value : (tag len : ℕ) → first (value_order a come o tag len) ≡ first (value_order s come o tag len)
    unfolding value_order
    same_value tag len = by_fit (fit (tags (version_of s come)) come tag len) refl
      where
        by_fit : (f : Fit) → fit (tags (version_of s come)) come tag len ≡ f → first (value_order a come o tag len) ≡ first (value_order s come o tag len)
        by_fit Unknown e = rw (told_same, e)
        by_fit Wrong e = rw (told_same, e)
        by_fit Right e = elim (dec_lt (last_tag come) tag) [
          | yes h ↦
              let w = within tag len e h in
              let x : len ≤ length a - (o + header_bytes) = omega (arith, a_long) in
              let y : len ≤ length s - (o + header_bytes) = omega arith in
              rw (told_same, e, le-ltb (length a - (o + header_bytes)) len x, le-ltb (length s - (o + header_bytes)) len y, same_at deciding_bytes s (o + header_bytes) (omega arith))
          | no h ↦ let k : tag ≤ last_tag come = omega arith in rw (told_same, e, le-leb tag (last_tag come) k)
        ]

    same_tag : tag_at a o ≡ tag_at s o
    same_tag = same_at deciding_bytes s o (omega (arith, near))

    same_length : length_at a o ≡ length_at s o
    same_length = same_number deciding_bytes s 2 (o + 1) (omega (arith, near))

    same_field : field_at a o ≡ field_at s o
    same_field = λ i. record { tag = same_tag i; from = o + header_bytes; len = same_length i }

    same_checks : first (field_order a come o) ≡ first (field_order s come o)
    unfolding field_order
    same_checks =
        let x : header_bytes ≤ length a - o = omega (arith, a_long, near) in
        let y : header_bytes ≤ length s - o = omega (arith, near) in
        rw (le-ltb (length a - o) header_bytes x, le-ltb (length s - o) header_bytes y, same_tag, same_length) (same_value (tag_at s o) (length_at s o))

    same_told : (f : Field) → f.from < deciding_bytes → version_of a (f ∷ come) ≡ version_of s (f ∷ come)
    unfolding part_of
    same_told f h = elim (ℕ_discrete f.tag 1) [ yes e ↦ rw (eq-eqb f.tag 1 e) (same_at deciding_bytes s f.from h) | no e ↦ rw (ne_eqb f.tag 1 e) told_same ]

    same_step : (k k' : ℕ) (c : Check) → first (field_order s come o) ≡ c
        → (first (field_order s come o) ≡ Ok tt → walk k a (field_at s o ∷ come) (next_at s o) ≡ walk k' s (field_at s o ∷ come) (next_at s o))
        → unless (first (field_order a come o)) (walk k a (field_at a o ∷ come) (next_at a o)) ≡ unless (first (field_order s come o)) (walk k' s (field_at s o ∷ come) (next_at s o))
    same_step k k' (Err r) e on = rw (same_checks, e)
    same_step k k' (Ok _) e on = rw (same_checks, e) (ap (λ (g : Field). walk k a (g ∷ come) (o + header_bytes + g.len)) same_field ∙ on e)

  same_walk : (k k' : ℕ) (come : List Field) (o : ℕ) → deciding_bytes ≤ o + k → length s ≤ o + k' → Bounded come o → version_of a come ≡ version_of s come → walk k a come o ≡ walk k' s come o
  same_walk zero k' come o h h' b t = absurd (omega (arith, near come o b t))
  same_walk (suc k) zero come o h h' b t = absurd (omega (arith, near come o b t))
  same_walk (suc k) (suc k') come o h h' b t =
      let n = near come o b t in
      walk_on a come o k (omega (arith, a_long))
      ∙ same_step come o b t k k' (first (field_order s come o)) refl (λ e. let f = field_passes s come o e in
      same_walk k k' (field_at s o ∷ come) (next_at s o) (omega arith) (omega arith) (bounded_on (version_of s come) come o (length_at s o) b (tag_at s o) f.fits f.above) (same_told come o b t (field_at s o) (omega (arith, within come o b t (tag_at s o) (length_at s o) f.fits f.above))))
      ∙ sym (walk_on s come o k' (omega arith))

-- ---- the theorems

pub same_reading : (s : List ℕ) → reading (take deciding_bytes s) ≡ reading s
unfolding reading part_of
same_reading s = elim (dec_le deciding_bytes (length s)) [
  | yes h ↦ same_walk s h (length (take deciding_bytes s)) (length s) [] 0 (omega (arith, a_long s h)) (omega arith) bounded_none refl
  | no h ↦ let k : length s ≤ deciding_bytes = omega arith in ap reading (take_all deciding_bytes s k)
]

-- A sheet that is accepted has at most most-sheet-bytes.
module _ (s : List ℕ) (fields : List Field) where
  short_walk : (most : ℕ) (come : List Field) (o : ℕ) → length s ≤ o + most → Bounded come o → walk most s come o ≡ accepted fields → length s ≤ most_sheet_bytes
  short_walk zero come o h b e = omega (arith, b.near, reach_most (last_tag come))
  short_walk (suc most) come o h b e = elim (dec_lt o (length s)) [
    | yes k ↦
        let x = unless_accepted (first (field_order s come o)) (walk most s (field_at s o ∷ come) (next_at s o)) (sym (walk_on s come o most k) ∙ e) in
        let f = field_passes s come o x.0 in
        short_walk most (field_at s o ∷ come) (next_at s o) (omega arith) (bounded_on (version_of s come) come o (length_at s o) b (tag_at s o) f.fits f.above) x.1
    | no k ↦ omega (arith, b.near, reach_most (last_tag come))
  ]

  pub accepted_short : reading s ≡ accepted fields → length s ≤ most_sheet_bytes
  unfolding reading part_of
  accepted_short e = short_walk (length s) [] 0 (omega arith) bounded_none e
