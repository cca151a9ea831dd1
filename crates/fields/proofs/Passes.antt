-- What a field that no check refuses is, and that such a field passes. Each check passes exactly where its test fails. Assumes nothing.
use Rattle.std.specs.Prelude.{Ok}
use Prim.Native.Nat.{ℕ, ◌+◌, ◌-◌, ◌≤◌, ◌<◌}
use mathlib.Core.Path.{◌≡◌, refl}
use mathlib.Core.Bool.{false, not, ◌&&◌}
use mathlib.Core.List.{List}
use native.Mathlib.Omega.{arith}
use borrow.Author.Tests.{lt-leb, le-ltb, leb-false, ltb-false}
use lib.Dec.{eqb}
use lib.ListN.{length}
use Rattle.limits.specs.Limits.{header_bytes}
use Rattle.sums.specs.Table.{at}
use Rattle.answer.specs.First.{first}
use Rattle.answer.proofs.Firsts.{both, passes, neither}
use Rattle.fields.specs.Fields.{Field, tag_at, length_at, field_at, last_tag, version_of}
use Rattle.fields.specs.Tags.{Fit, Unknown, Wrong, Right, tags, known_version, fit, lacks}
use Rattle.fields.specs.Checks.{is_unknown, is_wrong, value_order, field_order}

-- A field that may follow those that have come.
pub record Follows (s : List ℕ) (come : List Field) (f : Field) : Type 0 where
  pub fits : fit (tags (version_of s come)) come f.tag f.len ≡ Right
  pub above : last_tag come < f.tag
  pub complete : lacks (tags (version_of s come)) come f.tag ≡ false
  pub whole : f.from ≤ length s
  pub uncut : f.len ≤ length s - f.from
  pub version : (eqb f.tag 1 && not (known_version (at s f.from))) ≡ false

right_left : (f : Fit) → is_unknown f ≡ false → is_wrong f ≡ false → f ≡ Right
right_left Unknown e d = absurd (let z : ◌≡◌ {A = ℕ} 0 1 = cc in omega arith)
right_left Wrong e d = absurd (let z : ◌≡◌ {A = ℕ} 0 1 = cc in omega arith)
right_left Right e d = refl

module _ (s : List ℕ) (come : List Field) (o : ℕ) where
  pub value_passes : {tag len : ℕ} → o + header_bytes ≤ length s → first (value_order s come o tag len) ≡ Ok tt → Follows s come (record { tag = tag; from = o + header_bytes; len = len })
  unfolding value_order
  value_passes {tag} {len} h e =
      let x₁ = both _ _ e in
      let x₂ = both _ _ x₁.1 in
      let x₃ = both _ _ x₂.1 in
      let x₄ = both _ _ x₃.1 in
      let x₅ = both _ _ x₄.1 in
      let known = neither _ _ (passes _ _ 0 o x₁.0) in
      record {
        fits = right_left _ known.0 (passes _ _ 0 o x₃.0);
        above = leb-false tag (last_tag come) known.1;
        complete = passes _ _ 0 o x₂.0;
        whole = h;
        uncut = ltb-false (length s - (o + header_bytes)) len (passes _ _ 0 o x₄.0);
        version = passes _ _ 0 o x₅.0;
      }

  pub field_passes : first (field_order s come o) ≡ Ok tt → Follows s come (field_at s o)
  unfolding field_order
  field_passes e =
      let x = both _ (first (value_order s come o (tag_at s o) (length_at s o))) e in
      let h = ltb-false (length s - o) header_bytes (passes _ _ 0 o x.0) in
      value_passes (omega arith) x.1

  -- And the other way.
  pub follows_passes : Follows s come (field_at s o) → first (field_order s come o) ≡ Ok tt
  unfolding field_order value_order
  follows_passes h =
      let k : header_bytes ≤ length s - o = omega (arith, h.whole) in
      rw (le-ltb (length s - o) header_bytes k, h.fits, lt-leb (tag_at s o) (last_tag come) h.above, h.complete, le-ltb (length s - (o + header_bytes)) (length_at s o) h.uncut, h.version)
