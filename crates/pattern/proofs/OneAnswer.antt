-- For every input invert, unmix and same feeding have one answer, one content of the output and one yes or no: any two that fit are equal.
-- There is one inverse, one smallest singular prime, one ghost and one ring of counts; and where there is an inverse no prime of m is singular.
-- Assumes nothing.
use Rattle.std.specs.Prelude.{Ok}
use Prim.Native.Nat.{ℕ, ◌<◌}
use mathlib.Core.Path.{◌≡◌, refl, sym, ◌∙◌, subst}
use mathlib.Core.Logic.{◌↔◌, ◌⊎◌, inl, inr}
use mathlib.Core.Bool.{Bool, true, false}
use mathlib.Core.List.{List}
use lib.ListN.{length}
use Rattle.sums.proofs.Tests.{one_saying}
use Rattle.ring.specs.Inverse.{Inverse, Invertible}
use Rattle.ring.proofs.Inverses.{inverse_unique}
use Rattle.answer.specs.First.{first}
use Rattle.answer.specs.Answer.{Answer}
use Rattle.answer.specs.declared.Failure.TheVariants.{Singular}
use Rattle.answer.proofs.OneAnswer.{one_answer}
use Rattle.factors.specs.Factored.{Factored}
use Rattle.pattern.specs.Sent.{Sent, entries}
use Rattle.pattern.specs.Counts.{Unmixed}
use Rattle.pattern.specs.Same.{Same}
use Rattle.pattern.specs.Smallest.{Smallest}
use Rattle.pattern.specs.Ghost.{Ghost}
use Rattle.pattern.specs.Granted.{BothGranted}
use Rattle.pattern.specs.Promises.{invert_order, unmix_order, same_order, ShowsGhost, LeavesOutput, NamesRing, Inverts, Unmixes, Compared, RingOne, RingThree, SameFeeding}
use Rattle.pattern.proofs.Granted.{invert_granted, unmix_granted, same_granted}
use Rattle.pattern.proofs.Patterns.{one_smallest, smallest_none}
use Rattle.pattern.proofs.Ghosts.{one_ghost}
use Rattle.pattern.proofs.Unmixing.{one_unmixed}

-- ---- invert

pub invert_one_answer : (f : List ℕ) (M : Factored) (old : List ℕ) {a b : Answer} {x y : List ℕ} → Inverts f M old a x → Inverts f M old b y → (a ≡ b) × (x ≡ y)
invert_one_answer f M old h k =
    one_answer (invert_order f M (length old)) (Inverse (length f) M.modulus f) (ShowsGhost f M.modulus) old
    (λ e x y i j. inverse_unique (length f) M.modulus f i j)
    (λ e x y r p i s. smallest_none (length f) (some e) f refl s.smallest (record { inverse = x; is = i }))
    (λ e x y r p r' p' s t. let q = one_smallest s.smallest t.smallest in (
      cc (s.one, t.one, q),
      one_ghost (length f) M.modulus f (some e) refl t.smallest.prime.two (subst (λ (z : ℕ). Ghost (length f) M.modulus f z x) q s.ghost) t.ghost,
    ))
    _ _ _ _ h.meets k.meets
  where
    some : first (invert_order f M (length old)) ≡ Ok tt → 0 < length f
    some e = (invert_granted f M (length old) e).0.legal.some

-- ---- unmix

pub unmix_one_answer : (s : Sent) (M : Factored) (old : List ℕ) {a b : Answer} {c d : List ℕ} → Unmixes s M old a c → Unmixes s M old b d → (a ≡ b) × (c ≡ d)
unmix_one_answer s M old h k =
    one_answer (unmix_order s M (length old)) (Unmixed M.modulus s) (LeavesOutput s M.modulus old) old
    (λ e c d i j. one_unmixed M.modulus s i j)
    (λ e c d r p i t. smallest_none (entries s) (unmix_granted s M (length old) e).0.legal.some s.pattern refl t.smallest i.invertible)
    (λ e c d r p r' p' t u. (let q = one_smallest t.smallest u.smallest in cc (t.one, u.one, q), t.untouched ∙ sym u.untouched))
    _ _ _ _ h.meets k.meets

-- ---- same feeding

module _ (m : ℕ) (s₁ s₂ : Sent) where
  -- Which of the two it is: the count rings are the only ones.
  pub compared_exactly : {same : Bool} {c₁ c₂ : List ℕ} → Unmixed m s₁ c₁ → Unmixed m s₂ c₂ → Compared m s₁ s₂ same → (same ≡ true) ↔ Same (entries s₁) c₁ c₂
  compared_exactly {same} u₁ u₂ a =
      subst (λ (c : List ℕ). (same ≡ true) ↔ Same (entries s₁) c _) (one_unmixed m s₁ a.unmixed₁ u₁)
      (subst (λ (c : List ℕ). (same ≡ true) ↔ Same (entries s₁) a.counts₁ c) (one_unmixed m s₂ a.unmixed₂ u₂) a.exactly)

  one_compared : (x y : Bool) → Compared m s₁ s₂ x → Compared m s₁ s₂ y → x ≡ y
  one_compared x y a b = one_saying x y (compared_exactly b.unmixed₁ b.unmixed₂ a) b.exactly

module _ (s₁ s₂ : Sent) (M : Factored) (g : BothGranted s₁ s₂ M) where
  abbrev m : ℕ
  m = M.modulus

  first_none : {p : ℕ} → Smallest (entries s₁) m s₁.pattern p → ¬ Invertible (entries s₁) m s₁.pattern
  first_none s = smallest_none (entries s₁) g.first_side.legal.some s₁.pattern refl s

  third_none : {p : ℕ} → Smallest (entries s₂) m s₂.pattern p → ¬ Invertible (entries s₂) m s₂.pattern
  third_none s = smallest_none (entries s₂) g.second_side.legal.some s₂.pattern refl s

  -- A singular pattern is named only where one has no inverse,
  pub named_none : {r p : ℕ} → RingOne m s₁ r p ⊎ RingThree m s₁ s₂ r p → ¬ (Invertible (entries s₁) m s₁.pattern × Invertible (entries s₂) m s₂.pattern)
  named_none (inl s) u = first_none s.smallest u.0
  named_none (inr s) u = third_none s.smallest u.1

  -- and in one way.
  one_named : {r p r' p' : ℕ} → RingOne m s₁ r p ⊎ RingThree m s₁ s₂ r p → RingOne m s₁ r' p' ⊎ RingThree m s₁ s₂ r' p' → Singular r p ≡ Singular r' p'
  one_named (inl s) (inl t) = let q = one_smallest s.smallest t.smallest in cc (s.one, t.one, q)
  one_named (inr s) (inr t) = let q = one_smallest s.smallest t.smallest in cc (s.three, t.three, q)
  one_named (inl s) (inr t) = absurd (first_none s.smallest t.invertible)
  one_named (inr s) (inl t) = absurd (first_none t.smallest s.invertible)

pub same_one_answer : (s₁ s₂ : Sent) (M : Factored) {a b : Answer} {x y : Bool} → SameFeeding s₁ s₂ M a x → SameFeeding s₁ s₂ M b y → (a ≡ b) × (x ≡ y)
same_one_answer s₁ s₂ M h k =
    one_answer (same_order s₁ s₂ M) (Compared M.modulus s₁ s₂) (NamesRing M.modulus s₁ s₂) false
    (λ e x y a b. one_compared M.modulus s₁ s₂ x y a b)
    (λ e x y r p a s. named_none s₁ s₂ M (same_granted s₁ s₂ M e) s.lowest (a.unmixed₁.invertible, a.unmixed₂.invertible))
    (λ e x y r p r' p' s t. (one_named s₁ s₂ M (same_granted s₁ s₂ M e) s.lowest t.lowest, s.untold ∙ sym t.untold))
    _ _ _ _ h.meets k.meets
