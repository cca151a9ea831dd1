-- Fields that are accepted follow one another, lie in the sheet, and lack no required tag; so their parts lie in the sheet. By recursion on the count of
-- fields. Assumes nothing.
use Rattle.std.specs.Prelude.{Ok, Err}
use Prim.Native.Nat.{ℕ, zero, suc, ◌+◌, ◌≤◌}
use mathlib.Core.Path.{◌≡◌, refl, subst}
use mathlib.Core.Bool.{Bool, true, false, cond}
use mathlib.Core.List.{List, [], ◌∷◌}
use native.Mathlib.Omega.{arith}
use native.Mathlib.Decide.{ℕ_discrete}
use borrow.Author.Tests.{eq-eqb, ne_eqb}
use lib.Dec.{leb}
use lib.ListN.{length}
use Rattle.answer.specs.First.{first}
use Rattle.answer.specs.Check.{Check}
use Rattle.answer.proofs.Firsts.{passes}
use Rattle.fields.specs.Fields.{Field, field_at, next_at, version_of, part_of, or_empty}
use Rattle.fields.specs.Tags.{tags, lacks}
use Rattle.fields.specs.Checks.{above_tags, field_order, end_check}
use Rattle.fields.specs.Walk.{Reading, accepted, unless, walk, reading}
use Rattle.fields.proofs.Passes.{Follows, field_passes}

-- Each field follows those before it.
abbrev pub Sound : (s : List ℕ) (come : List Field) → Type 0
Sound s [] = Unit {0}
Sound s (f ∷ come) = Follows s come f × Sound s come

pub record WholeSheet (s : List ℕ) (come : List Field) : Type 0 where
  pub sound : Sound s come
  pub complete : lacks (tags (version_of s come)) come above_tags ≡ false

-- ---- accepted fields

pub unless_accepted : (c : Check) (x : Reading) {come : List Field} → unless c x ≡ accepted come → (c ≡ Ok tt) × (x ≡ accepted come)
unless_accepted (Ok _) x e = (refl, e)
unless_accepted (Err r) x e = absurd (let z : ◌≡◌ {A = ℕ} 0 1 = cc in omega arith)

same_fields : {come fields : List Field} → accepted come ≡ accepted fields → come ≡ fields
same_fields e = cc

module _ (s : List ℕ) (fields : List Field) where
  whole_end : (come : List Field) → Sound s come → unless (end_check s come) (accepted come) ≡ accepted fields → WholeSheet s fields
  whole_end come h e =
      let x = unless_accepted (end_check s come) (accepted come) e in
      subst (WholeSheet s) (same_fields x.1) (record { sound = h; complete = passes _ _ 0 (length s) x.0 })

  whole_by : (b : Bool) (come : List Field) (o : ℕ) (rest : Reading) → Sound s come → (Sound s (field_at s o ∷ come) → rest ≡ accepted fields → WholeSheet s fields)
      → cond b (unless (end_check s come) (accepted come)) (unless (first (field_order s come o)) rest) ≡ accepted fields → WholeSheet s fields
  whole_by true come o rest h on e = whole_end come h e
  whole_by false come o rest h on e = let x = unless_accepted (first (field_order s come o)) rest e in on (field_passes s come o x.0, h) x.1

  whole_walk : (most : ℕ) (come : List Field) (o : ℕ) → Sound s come → walk most s come o ≡ accepted fields → WholeSheet s fields
  unfolding walk
  whole_walk zero come o h e = whole_end come h e
  whole_walk (suc most) come o h e = whole_by (leb (length s) o) come o _ h (whole_walk most (field_at s o ∷ come) (next_at s o)) e

  pub accepted_whole : reading s ≡ accepted fields → WholeSheet s fields
  unfolding reading
  accepted_whole e = whole_walk (length s) [] 0 tt e

-- ---- the parts

-- A part lies in the sheet, present or not.
pub part_inside : (s : List ℕ) (come : List Field) (tag : ℕ) → Sound s come → (or_empty (part_of come tag)).from + (or_empty (part_of come tag)).len ≤ length s
unfolding part_of
part_inside s [] tag h = omega arith
part_inside s (f ∷ come) tag h = elim (ℕ_discrete f.tag tag) [
  | yes e ↦ rw (eq-eqb f.tag tag e) (omega (arith, h.0.whole, h.0.uncut))
  | no e ↦ rw (ne_eqb f.tag tag e) (part_inside s come tag h.1)
]
