-- The reader's loop: the code stands in the middle of the walk over the sheet, and goes on, is refused or comes to the end as the walk does. Assumes nothing.
use Rattle.std.specs.Prelude.{Option, Some, None, IsSome, ok_or, Ok, Err}
use Prim.Native.Nat.{ℕ, suc, ◌+◌, ◌-◌, ◌≤◌, ◌<◌}
use mathlib.Core.Path.{◌≡◌, refl, sym, ap, ◌∙◌}
use mathlib.Core.Bool.{Bool, true, false, cond}
use mathlib.Core.List.{List, [], ◌∷◌}
use native.Mathlib.Omega.{arith}
use borrow.Author.Tests.{ltb-false}
use lib.Dec.{ltb}
use lib.ListN.{length}
use Rattle.limits.specs.Limits.{header_bytes}
use Rattle.answer.specs.First.{first}
use Rattle.answer.specs.Check.{Check}
use Rattle.answer.specs.declared.Case.TheVariants.{Cut}
use Rattle.answer.specs.declared.Refusal.{Refusal}
use Rattle.fields.specs.Fields.{Field, tag_at, length_at, field_at, next_at}
use Rattle.fields.specs.Checks.{value_order, field_order, end_check}
use Rattle.fields.specs.Walk.{accepted, refused, unless, walk, reading}
use Rattle.fields.specs.Kept.{header, kept}
use Rattle.fields.specs.declared.Header.{Header}
use Rattle.fields.specs.declared.Part.{Part}
use Rattle.fields.specs.declared.Fields as declared
use Rattle.sheet.specs.Walked.{Whole}
use Rattle.fields.proofs.Passes.{Follows, value_passes}
use Rattle.fields.proofs.Table.{accepted_has, modulus_inside}
use Rattle.fields.proofs.Walks.{walk_end, walk_on, any_bound}

-- The code stands at offset `at` of the sheet s with the fields that it has found.
pub record Stands (s : List ℕ) (at : ℕ) (found : declared.Fields) : Type 0 where
  pub come : List Field
  pub found_is : found ≡ kept come
  pub inside : at ≤ length s
  pub reads : reading s ≡ walk (length s) s come at

pub begins : (s : List ℕ) {found : declared.Fields} → found ≡ kept [] → Stands s 0 found
unfolding reading
begins s e = record { come = []; found_is = e; inside = omega arith; reads = refl }

-- ---- the header

none_short : (b : Bool) (h : Header) → ◌≡◌ {A = Option Header} (cond b None (Some h)) None → b ≡ true
none_short true h e = refl
none_short false h e = cc

some_whole : (b : Bool) (h : Header) {k : Header} → cond b None (Some h) ≡ Some k → (b ≡ false) × (h ≡ k)
some_whole true h e = cc
some_whole false h e = (refl, cc)

module _ (s : List ℕ) (at : ℕ) where
  abbrev there : Header
  there = record { tag = tag_at s at; len = length_at s at }

  pub header_fits : {h : Header} → header s at ≡ Some h → at + header_bytes ≤ length s
  header_fits e = let k = ltb-false (length s - at) header_bytes (some_whole (ltb (length s - at) header_bytes) there e).0 in omega arith

  pub whole_there : (o : Option Header) → o ≡ header s at → (cut : Refusal) {h : Header} → ok_or o cut ≡ Ok h → header s at ≡ Some h
  whole_there None e cut d = cc
  whole_there (Some k) e cut {h = h} d = let same : k ≡ h = cc in sym e ∙ ap Some same

  -- ---- one field on

  module _ (come : List Field) (before : at < length s) (reads : reading s ≡ walk (length s) s come at) where
    next : reading s ≡ unless (first (field_order s come at)) (walk (length s) s (field_at s at ∷ come) (next_at s at))
    next = reads ∙ any_bound s (length s) (suc (length s)) come at (omega arith) (omega arith) ∙ walk_on s come at (length s) before

    pub cut_short : (o : Option Header) → o ≡ header s at → {r : Refusal} → ok_or o (record { case = Cut; ring = 0; place = at }) ≡ Err r → reading s ≡ refused r
    unfolding field_order
    cut_short None e {r} d = let cut : record { case = Cut; ring = 0; place = at } ≡ r = cc in next ∙ rw (none_short (ltb (length s - at) header_bytes) there (sym e)) (ap refused cut)
    cut_short (Some h) e d = cc

    module _ {h : Header} (whole : header s at ≡ Some h) where
      checks : first (field_order s come at) ≡ first (value_order s come at h.tag h.len)
      unfolding field_order
      checks = let w = some_whole (ltb (length s - at) header_bytes) there whole in rw (w.0, ap (λ (k : Header). k.tag) w.1, ap (λ (k : Header). k.len) w.1) refl

      pub refused_there : {r : Refusal} → first (value_order s come at h.tag h.len) ≡ Err r → reading s ≡ refused r
      refused_there e = next ∙ rw (checks, e) refl

      pub follows : first (value_order s come at h.tag h.len) ≡ Ok tt → Follows s come (record { tag = h.tag; from = at + header_bytes; len = h.len })
      follows e = value_passes s come at (header_fits whole) e

      pub goes_on : first (value_order s come at h.tag h.len) ≡ Ok tt → {found : declared.Fields} → found ≡ kept (record { tag = h.tag; from = at + header_bytes; len = h.len } ∷ come)
          → Stands s (at + header_bytes + h.len) found
      goes_on e is =
          let w = (some_whole (ltb (length s - at) header_bytes) there whole).1 in
          let f = follows e in
          record {
            come = record { tag = h.tag; from = at + header_bytes; len = h.len } ∷ come;
            found_is = is;
            inside = omega (arith, f.whole, f.uncut);
            reads = next ∙ rw (checks, e) (ap (λ (k : Header). walk (length s) s (record { tag = k.tag; from = at + header_bytes; len = k.len } ∷ come) (at + header_bytes + k.len)) w);
          }

-- ---- the end

module _ (s : List ℕ) {at : ℕ} {found : declared.Fields} (h : Stands s at found) (end : length s ≤ at) where
  ends : {c : Check} → c ≡ end_check s h.come → reading s ≡ unless c (accepted h.come)
  ends e = h.reads ∙ walk_end s h.come at (length s) end ∙ ap (λ (c : Check). unless c (accepted h.come)) (sym e)

  pub whole_sheet : {c : Check} → c ≡ end_check s h.come → c ≡ Ok tt → Whole s found
  whole_sheet e d = record { come = h.come; found_is = h.found_is; reads = ends e ∙ ap (λ (c : Check). unless c (accepted h.come)) d }

  pub refused_end : {c : Check} {r : Refusal} → c ≡ end_check s h.come → c ≡ Err r → reading s ≡ refused r
  refused_end e d = ends e ∙ ap (λ (c : Check). unless c (accepted h.come)) d

-- ---- a whole sheet

module _ {s : List ℕ} {found : declared.Fields} (w : Whole s found) where
  pub modulus_came : IsSome found.modulus
  modulus_came = rw w.found_is (accepted_has s w.come w.reads).modulus

  pub factors_came : IsSome found.factors
  factors_came = rw w.found_is (accepted_has s w.come w.reads).factors

  pub pattern_came : IsSome found.pattern
  pattern_came = rw w.found_is (accepted_has s w.come w.reads).pattern

  pub modulus_fits : {part : Part} → found.modulus ≡ Some part → part.from + 4 ≤ length s
  modulus_fits e = rw (sym (ap (λ (f : declared.Fields). f.modulus) w.found_is) ∙ e) at (modulus_inside s w.come w.reads)
