-- Well-formed fields in order, joined, are accepted with exactly their parts. Each field passes its checks where it stands; by recursion on the fields.
-- Assumes nothing.
use Rattle.std.specs.Prelude.{is_some}
use Prim.Native.Nat.{ℕ, zero, suc, ◌+◌, ◌≤◌}
use mathlib.Core.Path.{◌≡◌, refl, sym, ap, ◌∙◌}
use mathlib.Core.Bool.{Bool, true, false}
use mathlib.Core.List.{List, [], ◌∷◌, ◌++◌, append_assoc}
use native.Mathlib.Omega.{arith}
use native.Mathlib.Nat.{add-zero, div-add-mod'}
use native.Mathlib.Decide.{ℕ_discrete}
use borrow.Author.Tests.{eq-eqb, ne_eqb}
use lib.ListN.{length, take, drop, length-append}
use lib.Seq.{get_or-append-add, drop-append-add, take-append_seam}
use Rattle.limits.specs.Limits.{header_bytes}
use Rattle.sums.specs.Table.{at}
use Rattle.fields.specs.Fields.{Field, tag_at, length_at, field_at, part_of, or_empty, version_of}
use Rattle.fields.specs.Tags.{known_version}
use Rattle.fields.specs.Walk.{accepted, walk, reading}
use Rattle.fields.specs.Joined.{Value, field_bytes, joined, placed, all_placed}
use Rattle.fields.specs.WellFormed.{told_version, Fits, WellFormed}
use Rattle.octets.proofs.Numbers.{two_bytes}
use Rattle.fields.proofs.Passes.{Follows, follows_passes}
use Rattle.fields.proofs.Walks.{walk_end, walk_on}

-- ---- a field where it stands

module _ (pre : List ℕ) (f : Value) (rest : List ℕ) where
  abbrev s : List ℕ
  s = pre ++ (field_bytes f ++ rest)

  at_field : (i : ℕ) → at s (length pre + i) ≡ at (field_bytes f ++ rest) i
  at_field i = get_or-append-add pre (field_bytes f ++ rest) i 0

  tag_stands : tag_at s (length pre) ≡ f.tag
  tag_stands = ap (at s) (sym (add-zero (length pre))) ∙ at_field 0

  length_stands : length_at s (length pre) ≡ length f.bytes
  length_stands =
      let d : length pre + 1 + 1 ≡ length pre + 2 = omega arith in
      two_bytes s (length pre + 1) ∙ rw (d, at_field 1, at_field 2) (div-add-mod' (length f.bytes) 256)

  field_stands : field_at s (length pre) ≡ placed f (length pre)
  field_stands = λ i. record { tag = tag_stands i; from = length pre + header_bytes; len = length_stands i }

  pub value_stands : take (length f.bytes) (drop (length pre + header_bytes) s) ≡ f.bytes
  value_stands = rw (drop-append-add pre (field_bytes f ++ rest) header_bytes) (take-append_seam f.bytes rest)

-- ---- the walk over joined fields

-- The sheet has the version where its field has come.
abbrev Tells : (s : List ℕ) (version : ℕ) (come : List Field) → Type 0
Tells s version come = is_some (part_of come 1) ≡ true → at s (or_empty (part_of come 1)).from ≡ version

told : (s : List ℕ) (version : ℕ) (come : List Field) → Tells s version come → version_of s come ≡ told_version version come
told s version come h = by_present (is_some (part_of come 1)) refl
  where
    by_present : (b : Bool) → is_some (part_of come 1) ≡ b → version_of s come ≡ told_version version come
    by_present true e = rw e (h e)
    by_present false e = rw e

module _ (version : ℕ) (known : known_version version ≡ true) (s pre : List ℕ) (come : List Field) (o : ℕ) (f : Value) (rest : List ℕ)
    (is : s ≡ pre ++ (field_bytes f ++ rest)) (start : o ≡ length pre) (fits : Fits version come f) (tells : Tells s version come) where
  here : field_at s o ≡ placed f o
  here = rw (is, start) (field_stands pre f rest)

  long : length s ≡ o + (header_bytes + (length f.bytes + length rest))
  long = ap length is ∙ length-append pre (field_bytes f ++ rest) ∙ omega (arith, length-append f.bytes rest)

  version_stands : f.tag ≡ 1 → at s (o + header_bytes) ≡ version
  version_stands e = rw (is, start, at_field pre f rest header_bytes) (ap (λ (l : List ℕ). at (l ++ rest) 0) (fits.tells e))

  follows : Follows s come (field_at s o)
  follows = rw here (record {
    fits = rw (told s version come tells) fits.fits;
    above = fits.above;
    complete = rw (told s version come tells) fits.complete;
    whole = omega (arith, long);
    uncut = omega (arith, long);
    version = elim (ℕ_discrete f.tag 1) [ yes e ↦ rw (version_stands e, known, eq-eqb f.tag 1 e) | no e ↦ rw (ne_eqb f.tag 1 e) ];
  })

  goes_on : (most : ℕ) → walk (suc most) s come o ≡ walk most s (placed f o ∷ come) (o + header_bytes + length f.bytes)
  goes_on most = walk_on s come o most (omega (arith, long)) ∙ rw (follows_passes s come o follows) (ap (λ (g : Field). walk most s (g ∷ come) (o + header_bytes + g.len)) here)

  tells_on : Tells s version (placed f o ∷ come)
  unfolding part_of
  tells_on = elim (ℕ_discrete f.tag 1) [
    | yes e ↦ rw (eq-eqb f.tag 1 e) (λ p. version_stands e)
    | no e ↦ rw (ne_eqb f.tag 1 e) tells
  ]

walk-joined : (version : ℕ) → known_version version ≡ true → (fs : List Value) (most : ℕ) (s pre : List ℕ) (come : List Field) (o : ℕ) → s ≡ pre ++ joined fs → o ≡ length pre → length s ≤ o + most
    → WellFormed version come o fs → Tells s version come → walk most s come o ≡ accepted (all_placed fs come o)
unfolding joined all_placed
walk-joined version known [] most s pre come o is start enough h tells =
    walk_end s come o most (omega (arith, ap length is, length-append pre [])) ∙ rw (told s version come tells, h)
walk-joined version known (f ∷ fs) zero s pre come o is start enough h tells = absurd (omega (arith, long version known s pre come o f (joined fs) is start h.0 tells))
walk-joined version known (f ∷ fs) (suc most) s pre come o is start enough h tells =
    goes_on version known s pre come o f (joined fs) is start h.0 tells most
    ∙ walk-joined version known fs most s (pre ++ field_bytes f) (placed f o ∷ come) (o + header_bytes + length f.bytes) (is ∙ sym (append_assoc pre (field_bytes f) (joined fs)))
    (omega (arith, length-append pre (field_bytes f))) (omega arith) h.1 (tells_on version known s pre come o f (joined fs) is start h.0 tells)

-- The theorem.
pub accepted_joined : (version : ℕ) → known_version version ≡ true → (fs : List Value) → WellFormed version [] 0 fs → reading (joined fs) ≡ accepted (all_placed fs [] 0)
unfolding reading part_of
accepted_joined version known fs h = walk-joined version known fs (length (joined fs)) (joined fs) [] [] 0 refl refl (omega arith) h (λ (p : false ≡ true). absurd (let z : ◌≡◌ {A = ℕ} 0 1 = cc in omega arith))
