-- For every input of invert, unmix and same feeding some answer fits, with something beside it: with proofs/OneAnswer.antt, exactly one.
-- Where no check refuses there is an inverse or a smallest singular prime. Assumes nothing.
use Prim.Native.Nat.{ℕ, ◌<◌}
use mathlib.Core.Path.{◌≡◌, refl, sym}
use mathlib.Core.Logic.{◌↔◌, ◌⊎◌, ◌≢◌, inl, inr}
use mathlib.Core.Bool.{Bool, true, false, true≢false}
use mathlib.Core.List.{List, [], ◌∷◌}
use native.Mathlib.Omega.{arith}
use native.Mathlib.Decide.{ℕ_discrete}
use lib.ListN.{length}
use Rattle.sums.specs.Table.{at}
use Rattle.sums.proofs.Tests.{all_or-one}
use Rattle.ring.specs.Inverse.{Inverse, Invertible}
use Rattle.answer.specs.Answer.{Answer}
use Rattle.answer.proofs.OneAnswer.{some_answer}
use Rattle.factors.specs.Factored.{Factored}
use Rattle.pattern.specs.Sent.{Sent, entries}
use Rattle.pattern.specs.Same.{Same}
use Rattle.pattern.specs.Smallest.{Smallest}
use Rattle.pattern.specs.Counts.{Unmixed}
use Rattle.pattern.specs.Granted.{Granted, BothGranted}
use Rattle.pattern.specs.Promises.{invert_order, unmix_order, same_order, ShowsGhost, Inverts, LeavesOutput, Unmixes, Compared, NamesRing, SameFeeding}
use Rattle.pattern.proofs.Granted.{invert_granted, unmix_granted, same_granted}
use Rattle.pattern.proofs.Patterns.{inverse_or_smallest, ghost_of}
use Rattle.pattern.proofs.Unmixing.{unmixed_of}

positive : {f : List ℕ} {others : List (List ℕ)} {M : Factored} → Granted f others M → 0 < M.modulus
positive g = omega (arith, g.legal.low)

decided : {f : List ℕ} {others : List (List ℕ)} {M : Factored} → Granted f others M → Invertible (length f) M.modulus f ⊎ ((p : ℕ) × Smallest (length f) M.modulus f p)
decided {f} g = inverse_or_smallest (positive g) (length f) g.legal.some f refl

-- What some answer may be once no check refuses.
abbrev Decided : {R : Type 0} → (done : R → Type 0) → (singular : ℕ → ℕ → R → Type 0) → Type 0
Decided {R} done singular = ((x : R) × done x) ⊎ ((ring : ℕ) × (prime : ℕ) × (x : R) × singular ring prime x)

-- ---- invert

module _ (f : List ℕ) (M : Factored) (old : List ℕ) where
  inverted : {others : List (List ℕ)} → Granted f others M → Decided (Inverse (length f) M.modulus f) (ShowsGhost f M.modulus)
  inverted g = pick (decided g)
    where
      pick : Invertible (length f) M.modulus f ⊎ ((p : ℕ) × Smallest (length f) M.modulus f p) → Decided (Inverse (length f) M.modulus f) (ShowsGhost f M.modulus)
      pick (inl u) = inl (u.inverse, u.is)
      pick (inr (p, s)) = let h = ghost_of (length f) g.legal.some f refl s in inr (1, p, h.0, record { one = refl; smallest = s; ghost = h.1 })

  pub invert_answers : (a : Answer) × (new : List ℕ) × Inverts f M old a new
  invert_answers = let (a, new, h) = some_answer (invert_order f M (length old)) (Inverse (length f) M.modulus f) (ShowsGhost f M.modulus) old (λ e. inverted (invert_granted f M (length old) e).0) in (a, new, record { meets = h })

-- ---- unmix

module _ (s : Sent) (M : Factored) (old : List ℕ) where
  unmixed : Granted s.pattern (s.readings ∷ []) M → Decided (Unmixed M.modulus s) (LeavesOutput s M.modulus old)
  unmixed g = pick (decided g)
    where
      pick : Invertible (entries s) M.modulus s.pattern ⊎ ((p : ℕ) × Smallest (entries s) M.modulus s.pattern p) → Decided (Unmixed M.modulus s) (LeavesOutput s M.modulus old)
      pick (inl u) = inl (_, unmixed_of M.modulus s (positive g) u g.legal.rings.0)
      pick (inr (p, t)) = inr (1, p, old, record { one = refl; smallest = t; untouched = refl })

  pub unmix_answers : (a : Answer) × (new : List ℕ) × Unmixes s M old a new
  unmix_answers = let (a, new, h) = some_answer (unmix_order s M (length old)) (Unmixed M.modulus s) (LeavesOutput s M.modulus old) old (λ e. unmixed (unmix_granted s M (length old) e).0) in (a, new, record { meets = h })

-- ---- same feeding

-- Whether two count rings are the same can be decided.
same? : (n : ℕ) (c₁ c₂ : List ℕ) → Dec (Same n c₁ c₂)
same? n c₁ c₂ = go (all_or-one _ (λ i. ℕ_discrete (at c₁ i) (at c₂ i)) n) (all_or-one _ (λ i. ℕ_discrete (at c₁ i) 0) n)
  where
    go : ((i : ℕ) → i < n → at c₁ i ≡ at c₂ i) ⊎ ((i : ℕ) × (i < n) × (at c₁ i ≢ at c₂ i)) → ((i : ℕ) → i < n → at c₁ i ≡ 0) ⊎ ((i : ℕ) × (i < n) × (at c₁ i ≢ 0)) → Dec (Same n c₁ c₂)
    go (inr (i, h, differ)) _ = no λ s. differ (s.entries i h)
    go (inl agree) (inl idle) = no λ s. s.some (idle s.place s.inside)
    go (inl agree) (inr (i, h, some)) = yes (record { entries = agree; place = i; inside = h; some = some })

-- Yes or no, by a decision.
said : {A : Type 0} → Dec A → (same : Bool) × ((same ≡ true) ↔ A)
said (yes a) = (true, ((λ e. a), (λ b. refl)))
said (no h) = (false, ((λ e. absurd (true≢false (sym e))), (λ a. absurd (h a))))

module _ (s₁ s₂ : Sent) (M : Factored) where
  abbrev m : ℕ
  m = M.modulus

  compared : BothGranted s₁ s₂ M → Decided (Compared m s₁ s₂) (NamesRing m s₁ s₂)
  compared g = pick (decided g.first_side) (decided g.second_side)
    where
      counts : (c₁ c₂ : List ℕ) → Unmixed m s₁ c₁ → Unmixed m s₂ c₂ → Decided (Compared m s₁ s₂) (NamesRing m s₁ s₂)
      counts c₁ c₂ a b = let (same, h) = said (same? (entries s₁) c₁ c₂) in inl (same, record { counts₁ = c₁; counts₂ = c₂; unmixed₁ = a; unmixed₂ = b; exactly = h })

      pick : Invertible (entries s₁) m s₁.pattern ⊎ ((p : ℕ) × Smallest (entries s₁) m s₁.pattern p)
          → Invertible (entries s₂) m s₂.pattern ⊎ ((p : ℕ) × Smallest (entries s₂) m s₂.pattern p) → Decided (Compared m s₁ s₂) (NamesRing m s₁ s₂)
      pick (inr (p, t)) b = inr (1, p, false, record { lowest = inl (record { one = refl; smallest = t }); untold = refl })
      pick (inl u) (inr (p, t)) = inr (3, p, false, record { lowest = inr (record { three = refl; invertible = u; smallest = t }); untold = refl })
      pick (inl u) (inl v) = counts _ _ (unmixed_of m s₁ (positive g.first_side) u g.first_side.legal.rings.0) (unmixed_of m s₂ (positive g.second_side) v g.second_side.legal.rings.0)

  pub same_answers : (a : Answer) × (same : Bool) × SameFeeding s₁ s₂ M a same
  same_answers = let (a, same, h) = some_answer (same_order s₁ s₂ M) (Compared M.modulus s₁ s₂) (NamesRing M.modulus s₁ s₂) false (λ e. compared (same_granted s₁ s₂ M e)) in (a, same, record { meets = h })
