-- Demand 2. A legal call that needs the inverse g is singular exactly when no g exists; f has an inverse modulo m exactly when no prime of m is singular
-- (000, Theorem 2.2); and the ghost is counts, not all zero modulo m, whose readings are all zero. "Done" with the inverse itself is the contract's
-- own words: `Inverse`, the product is one. Assumes nothing.
use Rattle.std.specs.Prelude.{Ok, Err}
use Prim.Native.Nat.{ℕ, ◌<◌, ◌∣◌}
use mathlib.Core.Path.{◌≡◌, refl}
use mathlib.Core.Logic.{◌↔◌, ◌⊎◌, inl, inr}
use mathlib.Core.Bool.{Bool, false}
use mathlib.Core.List.{List}
use native.Mathlib.Omega.{arith}
use lib.ListN.{length}
use Rattle.ring.specs.Inverse.{Inverse, Invertible}
use Rattle.modular.specs.Prime.{Prime}
use Rattle.answer.specs.First.{first}
use Rattle.answer.specs.Contract.{Meets}
use Rattle.answer.specs.Reply.{reply}
use Rattle.answer.specs.Check.{Check}
use Rattle.answer.specs.Answer.{Answer}
use Rattle.answer.specs.declared.Failure.TheVariants.{Singular, Refused}
use Rattle.answer.proofs.Firsts.{passed_refused}
use Rattle.factors.specs.Factored.{Factored}
use Rattle.pattern.specs.Sent.{Sent, entries}
use Rattle.pattern.specs.Singular as pattern
use Rattle.pattern.specs.Smallest.{Smallest}
use Rattle.pattern.specs.Silent.{Silent}
use Rattle.pattern.specs.Counts.{Unmixed}
use Rattle.pattern.specs.Promises.{invert_order, unmix_order, same_order, ShowsGhost, LeavesOutput, Compared, NamesRing, Inverts, Unmixes, SameFeeding}
use Rattle.pattern.proofs.Granted.{invert_granted, unmix_granted, same_granted}
use Rattle.pattern.proofs.Patterns.{inverse_or_smallest, singular_none, smallest_none}
use Rattle.pattern.proofs.Ghosts.{ghost_ring, ghost_some, ghost_silent}
use Rattle.pattern.proofs.OneAnswer.{named_none}

-- ---- 000, Theorem 2.2

pub theorem_2_2 : {m : ℕ} → 0 < m → (n : ℕ) → 0 < n → (f : List ℕ) → length f ≡ n → Invertible n m f ↔ ((q : ℕ) → Prime q → q ∣ m → ¬ pattern.Singular n q f)
theorem_2_2 {m} positive n some f lf = ((λ u q prime d s. singular_none n some f lf prime d s u), (λ h. pick h (inverse_or_smallest positive n some f lf)))
  where
    pick : ((q : ℕ) → Prime q → q ∣ m → ¬ pattern.Singular n q f) → Invertible n m f ⊎ ((p : ℕ) × Smallest n m f p) → Invertible n m f
    pick h (inl u) = u
    pick h (inr (p, s)) = absurd (h p s.prime s.divides s.singular)

-- ---- a legal call is singular (9) exactly when no inverse exists, and done exactly when there is one

-- Of any contract: A is what Done shows and Singular excludes.
module _ {R : Type 0} (checks : List Check) (done : R → Type 0) (singular : ℕ → ℕ → R → Type 0) (stays : R) {A : Type 0} (ok : first checks ≡ Ok tt)
    (shows : (x : R) → done x → A) (excludes : (r p : ℕ) (x : R) → singular r p x → ¬ A) where
  nine_exactly : (a : Answer) (x : R) → Meets checks done singular stays a x → ((reply a).number ≡ 9) ↔ (¬ A)
  nine_exactly (Ok _) x h = ((λ e. absurd (omega arith)), (λ n. absurd (n (shows x h.1))))
  nine_exactly (Err (Singular r p)) x h = ((λ e. excludes r p x h.1), (λ n. refl))
  nine_exactly (Err (Refused r)) x h = absurd (passed_refused ok h.0)

  done_when : (a : Answer) (x : R) → Meets checks done singular stays a x → (a ≡ Ok tt) ↔ A
  done_when (Ok _) x h = ((λ e. shows x h.1), (λ b. refl))
  done_when (Err (Singular r p)) x h = ((λ e. absurd (let z : ◌≡◌ {A = ℕ} 0 1 = cc in omega arith)), (λ b. absurd (excludes r p x h.1 b)))
  done_when (Err (Refused r)) x h = absurd (passed_refused ok h.0)

module _ (f : List ℕ) (M : Factored) (old : List ℕ) (ok : first (invert_order f M (length old)) ≡ Ok tt) (a : Answer) (new : List ℕ) (h : Inverts f M old a new) where
  lacks : {p : ℕ} → Smallest (length f) M.modulus f p → ¬ Invertible (length f) M.modulus f
  lacks s = smallest_none (length f) (invert_granted f M (length old) ok).0.legal.some f refl s

  pub invert_singular : ((reply a).number ≡ 9) ↔ (¬ Invertible (length f) M.modulus f)
  invert_singular = nine_exactly (invert_order f M (length old)) (Inverse (length f) M.modulus f) (ShowsGhost f M.modulus) old ok (λ g i. record { inverse = g; is = i }) (λ r p x s. lacks s.smallest) a new h.meets

  pub invert_done : (a ≡ Ok tt) ↔ Invertible (length f) M.modulus f
  invert_done = done_when (invert_order f M (length old)) (Inverse (length f) M.modulus f) (ShowsGhost f M.modulus) old ok (λ g i. record { inverse = g; is = i }) (λ r p x s. lacks s.smallest) a new h.meets

pub unmix_singular : (s : Sent) (M : Factored) (old : List ℕ) → first (unmix_order s M (length old)) ≡ Ok tt → (a : Answer) (new : List ℕ)
    → Unmixes s M old a new → ((reply a).number ≡ 9) ↔ (¬ Invertible (entries s) M.modulus s.pattern)
unmix_singular s M old ok a new h =
    nine_exactly (unmix_order s M (length old)) (Unmixed M.modulus s) (LeavesOutput s M.modulus old) old ok (λ c u. u.invertible) (λ r p x t. smallest_none (entries s) (unmix_granted s M (length old) ok).0.legal.some s.pattern refl t.smallest) a new h.meets

pub same_singular : (s₁ s₂ : Sent) (M : Factored) → first (same_order s₁ s₂ M) ≡ Ok tt → (a : Answer) (same : Bool) → SameFeeding s₁ s₂ M a same
    → ((reply a).number ≡ 9) ↔ (¬ (Invertible (entries s₁) M.modulus s₁.pattern × Invertible (entries s₂) M.modulus s₂.pattern))
same_singular s₁ s₂ M ok a same h =
    nine_exactly (same_order s₁ s₂ M) (Compared M.modulus s₁ s₂) (NamesRing M.modulus s₁ s₂) false ok (λ x c. (c.unmixed₁.invertible, c.unmixed₂.invertible)) (λ r p x t. named_none s₁ s₂ M (same_granted s₁ s₂ M ok) t.lowest) a same h.meets

-- ---- the ghost

pub invert_ghost : (f : List ℕ) (M : Factored) (old : List ℕ) (ring p : ℕ) (new : List ℕ) → Inverts f M old (Err (Singular ring p)) new → Silent (length f) M.modulus f new
invert_ghost f M old ring p new h =
    let g = (invert_granted f M (length old) h.meets.0).0 in
    let s = h.meets.1.smallest in
    let ghost = h.meets.1.ghost in
    let pos : 0 < M.modulus = omega (arith, g.legal.low) in
    let t = ghost_some (length f) M.modulus f s.prime.two pos s.divides ghost in
    record {
      ring = ghost_ring (length f) M.modulus f s.prime.two pos s.divides ghost;
      place = t.0;
      inside = t.1;
      some = t.2;
      silent = ghost_silent (length f) M.modulus f s.prime.two pos s.divides ghost;
    }
