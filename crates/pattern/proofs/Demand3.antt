-- Demand 3, over demand 2's inverse: the inverse of a mix is the mix of the inverses; of an inverse the pattern; reducing and folding keep inverses; and,
-- as document 02's second request reads its last sentence, same feeding says yes exactly when the counts behind the readings agree modulo m and are not
-- all zero. Each as a law of the definitions (those on inverses stand in crate ring and are named here), and as what it means for the calls: the answer
-- that fits, and by proofs/OneAnswer.antt there is no other. Assumes nothing.
use Rattle.std.specs.Prelude.{Ok, Err}
use Prim.Native.Nat.{ℕ, ◌%◌, ◌≤◌, ◌<◌}
use mathlib.Core.Path.{◌≡◌, refl, sym, ap, ◌∙◌, subst}
use mathlib.Core.Logic.{◌↔◌, ◌⊎◌, ◌≢◌, inl, inr}
use mathlib.Core.Bool.{Bool, true, false, true≢false, not-eq-not}
use mathlib.Core.List.{List, [], ◌∷◌}
use native.Mathlib.Omega.{arith}
use native.Mathlib.Decide.{ℕ_discrete}
use native.Mathlib.Nat.{le_of_dvd}
use lib.ListN.{length}
use Rattle.sums.specs.Table.{at}
use Rattle.sums.proofs.Tables.{at_table}
use Rattle.sums.proofs.Tests.{all_or-one}
use Rattle.limits.specs.Limits.{least_modulus}
use Rattle.ring.specs.Ring.{Ring}
use Rattle.ring.specs.Mix.{mix}
use Rattle.ring.specs.Reduce.{reduce}
use Rattle.ring.specs.Inverse.{Inverse, Invertible}
use Rattle.ring.proofs.Entries.{reduce_ring}
use Rattle.ring.proofs.Product.{mix_ring}
pub use Rattle.ring.proofs.Inverses.{inverse_unique, inverse_mix, invertible_mix, inverse_inverse, inverse_twice}
pub use Rattle.ring.proofs.Reduce.{reduce_keeps_inverse, reduce_keeps_invertible}
pub use Rattle.ring.proofs.Fold.{fold_ring, fold_keeps_inverse, fold_keeps_invertible}
use Rattle.modular.specs.FactorList.{FactorList}
use Rattle.modular.proofs.HasList.{has_list}
use Rattle.answer.specs.First.{first}
use Rattle.answer.specs.Answer.{Answer}
use Rattle.answer.specs.declared.Failure.TheVariants.{Singular, Refused}
use Rattle.answer.proofs.Firsts.{both, passed_refused}
use Rattle.checks.specs.Checks.{room, divisor}
use Rattle.checks.specs.Order.{no_list}
use Rattle.checks.specs.Legal.{Legal}
use Rattle.checks.proofs.Orders.{legal, divisor_passes}
use Rattle.factors.specs.Factored.{Factored, factored}
use Rattle.calls.specs.Promises.{Mixes, Reduces, Folds}
use Rattle.pattern.specs.Sent.{Sent, entries}
use Rattle.pattern.specs.Heard.{heard}
use Rattle.pattern.specs.Counts.{Unmixed}
use Rattle.pattern.specs.Same.{Same}
use Rattle.pattern.specs.Agree.{Agree}
use Rattle.pattern.specs.Idle.{Idle, SentIdle}
use Rattle.pattern.specs.Granted.{Granted}
use Rattle.pattern.specs.Promises.{invert_order, same_order, Inverts, Compared, SameFeeding}
use Rattle.pattern.proofs.Granted.{invert_granted, invert_passes, same_granted}
use Rattle.pattern.proofs.Unmixing.{heard_unmixed}
use Rattle.pattern.proofs.OneAnswer.{compared_exactly, named_none}
use Rattle.pattern.proofs.Demand2.{invert_done}

-- ---- what invert answers

-- A ring that has the inverse g, in a call that is legal: Done with g fits.
inverts : (f : List ℕ) (M : Factored) (old g : List ℕ) → Legal f [] M.modulus → FactorList M.modulus M.primes M.exponents → length old ≡ length f → Inverse (length f) M.modulus f g → Inverts f M old (Ok tt) g
inverts f M old g l factors e i = record { meets = (invert_passes f M (length old) (record { legal = l; factors = factors }) e, i) }

-- The same of another pattern f of n entries, where n and m are in range.
again : {f₁ : List ℕ} {others : List (List ℕ)} {M : Factored} → Granted f₁ others M → (f old g : List ℕ) → length old ≡ length f₁ → Ring (length f₁) M.modulus f
    → Inverse (length f₁) M.modulus f g → Inverts f M old (Ok tt) g
again {f₁} {others} {M} given f old g e r i =
    let n : length f₁ ≡ length f = sym r.long in
    let l = given.legal in
    inverts f M old g
    (record { some = omega (arith, l.some); few = omega (arith, l.few); low = l.low; high = l.high; ring = rw n at r; rings = tt })
    given.factors (e ∙ n) (rw n at i)

-- ---- products

-- Invert of a mix answers the mix of what it answers of the two,
pub invert_mixed : {M : Factored} {f₁ f₂ f g₁ g₂ g o₁ o₂ o₃ o₄ : List ℕ} (old : List ℕ)
    → Inverts f₁ M o₁ (Ok tt) g₁ → Inverts f₂ M o₂ (Ok tt) g₂ → Mixes f₁ f₂ M.modulus o₃ (Ok tt) f → Mixes g₁ g₂ M.modulus o₄ (Ok tt) g → length old ≡ length f₁ → Inverts f M old (Ok tt) g
invert_mixed {M} {f₁} {f₂} {f} {g₁} {g₂} {g} {o₁} {o₂} {o₃} {o₄} old h₁ h₂ k k' e =
    let m = M.modulus in
    let given = (invert_granted f₁ M (length o₁) h₁.meets.0).0 in
    let l = (legal f₁ (f₂ ∷ []) m no_list _ k.meets.0).0 in
    let n : length f₂ ≡ length f₁ = l.rings.0.long in
    let pos : 0 < m = omega (arith, l.low) in
    let i = inverse_mix (length f₁) m f₁ f₂ pos h₁.meets.1 (rw n at h₂.meets.1) in
    let long : length g₁ ≡ length f₁ = h₁.meets.1.ring.long in
    again given f old g e (rw k.meets.1 (mix_ring (length f₁) m f₁ f₂ pos)) (rw (k.meets.1, k'.meets.1, long) i)

-- and is done exactly when it is of both.
pub invert_mixed_done : {M : Factored} {f₁ f₂ f o₁ o₂ o₃ o x₁ x₂ x : List ℕ} {a₁ a₂ a : Answer} → first (invert_order f₁ M (length o₁)) ≡ Ok tt
    → first (invert_order f₂ M (length o₂)) ≡ Ok tt → first (invert_order f M (length o)) ≡ Ok tt
    → Inverts f₁ M o₁ a₁ x₁ → Inverts f₂ M o₂ a₂ x₂ → Mixes f₁ f₂ M.modulus o₃ (Ok tt) f → Inverts f M o a x → (a ≡ Ok tt) ↔ ((a₁ ≡ Ok tt) × (a₂ ≡ Ok tt))
invert_mixed_done {M} {f₁} {f₂} {f} {o₁} {o₂} {o₃} {o} {x₁} {x₂} {x} {a₁} {a₂} {a} p₁ p₂ p h₁ h₂ k h =
    let m = M.modulus in
    let l = (legal f₁ (f₂ ∷ []) m no_list _ k.meets.0).0 in
    let pos : 0 < m = omega (arith, l.low) in
    let n : length f₂ ≡ length f₁ = l.rings.0.long in
    let is : f ≡ mix (length f₁) m f₁ f₂ = k.meets.1 in
    let n' : length f ≡ length f₁ = ap length is ∙ (mix_ring (length f₁) m f₁ f₂ pos).long in
    let d₁ = invert_done f₁ M o₁ p₁ a₁ x₁ h₁ in
    let d₂ = invert_done f₂ M o₂ p₂ a₂ x₂ h₂ in
    let d = invert_done f M o p a x h in
    let law = invertible_mix (length f₁) m f₁ f₂ pos in (
      (λ e. let u : Invertible (length f₁) m (mix (length f₁) m f₁ f₂) = subst (Invertible (length f₁) m) is (subst (λ (x : ℕ). Invertible x m f) n' (d.0 e)) in
          (d₁.1 (law.0 u).0, d₂.1 (subst (λ (x : ℕ). Invertible x m f₂) (sym n) (law.0 u).1))),
      (λ e. d.1 (subst (λ (x : ℕ). Invertible x m f) (sym n') (subst (Invertible (length f₁) m) (sym is) (law.1 (d₁.0 e.0, subst (λ (x : ℕ). Invertible x m f₂) n (d₂.0 e.1)))))),
    )

-- ---- twice

pub invert_twice : {M : Factored} {f g o : List ℕ} (old : List ℕ) → Inverts f M o (Ok tt) g → length old ≡ length f → Inverts g M old (Ok tt) f
invert_twice {M} {f} {g} {o} old h e =
    let given = (invert_granted f M (length o) h.meets.0).0 in
    again given g old f e h.meets.1.ring (inverse_inverse (length f) M.modulus f g given.legal.ring h.meets.1)

-- ---- reduced

-- With the factor list of m', which m' has; by `one_list` of crate modular there is no other.
pub invert_reduced : {M : Factored} {m' : ℕ} {f g f' g' o₁ o₂ o₃ : List ℕ} (old : List ℕ)
    → Inverts f M o₁ (Ok tt) g → Reduces f M.modulus m' o₂ (Ok tt) f' → Reduces g M.modulus m' o₃ (Ok tt) g' → length old ≡ length f
    → (M' : Factored) × (M'.modulus ≡ m') × Inverts f' M' old (Ok tt) g'
invert_reduced {M} {m'} {f} {g} {f'} {g'} {o₁} {o₂} {o₃} old h k k' e =
    let m = M.modulus in
    let t = legal f [] m no_list _ k.meets.0 in
    let d = divisor_passes least_modulus m m' (both (divisor least_modulus m m') (Ok tt) (both (room (length f) (length o₂)) _ t.2).1).0 in
    let pos : 0 < m' = omega (arith, d.0) in
    let less : m' ≤ m = le_of_dvd (omega (arith, t.0.low)) d.1 in
    let r : Ring (length f) m' f' = rw k.meets.1 (reduce_ring (length f) m' f pos) in
    let n : length f ≡ length f' = sym r.long in
    let i : Inverse (length f) m' f' g' = rw (k.meets.1, k'.meets.1, h.meets.1.ring.long) (reduce_keeps_inverse (length f) m m' d.1 pos h.meets.1) in
    let (ps, es, factors) = has_list m' pos in (
      factored m' ps es,
      refl,
      inverts f' (factored m' ps es) old g'
          (record { some = omega (arith, t.0.some); few = omega (arith, t.0.few); low = d.0; high = omega (arith, t.0.high); ring = rw n at r; rings = tt })
          factors (e ∙ n) (rw n at i),
    )

-- ---- folded

pub invert_folded : {M : Factored} {f g f' g' o₁ o₂ o₃ : List ℕ} (old : List ℕ) → Inverts f M o₁ (Ok tt) g → Folds f M.modulus o₂ (Ok tt) f' → Folds g M.modulus o₃ (Ok tt) g'
    → length o₃ ≡ length o₂ → length old ≡ length o₂ → Inverts f' M old (Ok tt) g'
invert_folded {M} {f} {g} {f'} {g'} {o₁} {o₂} {o₃} old h k k' e e' =
    let m = M.modulus in
    let given = (invert_granted f M (length o₁) h.meets.0).0 in
    let t = legal f [] m no_list _ k.meets.0 in
    let d = divisor_passes 1 (length f) (length o₂) (both (divisor 1 (length f) (length o₂)) (Ok tt) t.2).0 in
    let pos : 0 < m = omega (arith, t.0.low) in
    let less : length o₂ ≤ length f = le_of_dvd t.0.some d.1 in
    let r : Ring (length o₂) m f' = rw k.meets.1 (fold_ring (length f) (length o₂) m d.1 f pos) in
    let n : length o₂ ≡ length f' = sym r.long in
    let i : Inverse (length o₂) m f' g' = rw (k.meets.1, k'.meets.1, h.meets.1.ring.long, e) (fold_keeps_inverse (length f) (length o₂) m d.1 t.0.some pos h.meets.1) in
    inverts f' M old g'
    (record { some = omega (arith, d.0); few = omega (arith, t.0.few); low = t.0.low; high = t.0.high; ring = rw n at r; rings = tt })
    given.factors (e' ∙ n) (rw n at i)

-- ---- same feeding

-- The counts behind what was heard of c₁ and c₂ are the same exactly when c₁ and c₂ agree modulo m and are not all zero.
same_exactly : (n m : ℕ) (c₁ c₂ : List ℕ) → Same n (reduce n m c₁) (reduce n m c₂) ↔ (Agree n m c₁ c₂ × ¬ Idle n m c₁)
unfolding reduce
same_exactly n m c₁ c₂ = (
  (λ s. (
    record { entries = λ i h. sym (at_table n _ i h) ∙ s.entries i h ∙ at_table n _ i h },
    λ idle. s.some (at_table n _ s.place s.inside ∙ idle.entries s.place s.inside),
  )),
  (λ t. pick t.0 t.1 (all_or-one _ (λ i. ℕ_discrete (at c₁ i % m) 0) n)),
)
  where
    pick : Agree n m c₁ c₂ → ¬ Idle n m c₁ → ((i : ℕ) → i < n → at c₁ i % m ≡ 0) ⊎ ((i : ℕ) × (i < n) × (at c₁ i % m ≢ 0)) → Same n (reduce n m c₁) (reduce n m c₂)
    pick agree busy (inl idle) = absurd (busy (record { entries = idle }))
    pick agree busy (inr (place, inside, some)) = record {
      entries = λ i h. at_table n _ i h ∙ agree.entries i h ∙ sym (at_table n _ i h);
      place = place;
      inside = inside;
      some = λ e. some (sym (at_table n _ place inside) ∙ e);
    }

module _ (s₁ s₂ : Sent) (M : Factored) (ok : first (same_order s₁ s₂ M) ≡ Ok tt) (a : Answer) (same : Bool) (h : SameFeeding s₁ s₂ M a same) where
  -- A legal call whose two count rings can be told is done, and says yes exactly when they are the same,
  pub yes_exactly : {c₁ c₂ : List ℕ} → Unmixed M.modulus s₁ c₁ → Unmixed M.modulus s₂ c₂ → (a ≡ Ok tt) × ((same ≡ true) ↔ Same (entries s₁) c₁ c₂)
  yes_exactly {c₁} {c₂} u₁ u₂ = go a h
    where
      go : (a : Answer) → SameFeeding s₁ s₂ M a same → (a ≡ Ok tt) × ((same ≡ true) ↔ Same (entries s₁) c₁ c₂)
      go (Ok _) k = (refl, compared_exactly M.modulus s₁ s₂ u₁ u₂ k.meets.1)
      go (Err (Singular r p)) k = absurd (named_none s₁ s₂ M (same_granted s₁ s₂ M ok) k.meets.1.lowest (u₁.invertible, u₂.invertible))
      go (Err (Refused r)) k = absurd (passed_refused ok k.meets.0)

  -- and of readings taken through two patterns that have inverses
  module _ (c₁ c₂ : List ℕ) (e₁ : s₁.readings ≡ heard M.modulus s₁ c₁) (e₂ : s₂.readings ≡ heard M.modulus s₂ c₂)
      (i₁ : Invertible (entries s₁) M.modulus s₁.pattern) (i₂ : Invertible (entries s₂) M.modulus s₂.pattern) where
    -- exactly when the counts behind them agree modulo m and are not all zero;
    pub same_feeding : (a ≡ Ok tt) × ((same ≡ true) ↔ (Agree (entries s₁) M.modulus c₁ c₂ × ¬ Idle (entries s₁) M.modulus c₁))
    same_feeding =
        let m = M.modulus in
        let given = same_granted s₁ s₂ M ok in
        let pos : 0 < m = omega (arith, given.first_side.legal.low) in
        let u₁ = heard_unmixed m s₁ c₁ pos e₁ i₁ in
        let u₂ : Unmixed m s₂ (reduce (entries s₁) m c₂) = subst (λ (n : ℕ). Unmixed m s₂ (reduce n m c₂)) given.one_size (heard_unmixed m s₂ c₂ pos e₂ i₂) in
        let t = yes_exactly u₁ u₂ in
        let law = same_exactly (entries s₁) m c₁ c₂ in
        (t.0, ((λ e. law.0 (t.1.0 e)), (λ e. t.1.1 (law.1 e))))

    -- no in every other case. (There are counts behind all legal readings through such a pattern: `counts_behind` in proofs/Unmixing.antt.)
    pub other_feeding : ¬ (Agree (entries s₁) M.modulus c₁ c₂ × ¬ Idle (entries s₁) M.modulus c₁) → (a ≡ Ok tt) × (same ≡ false)
    other_feeding differ = (same_feeding.0, not-eq-not.0 (λ yes. differ (same_feeding.1.0 yes)))

-- ---- an idle tank is no feeding, whatever is lent, legal or not

module _ (s₁ s₂ : Sent) (M : Factored) where
  abbrev m : ℕ
  m = M.modulus

  -- Where it says yes the call is legal and both count rings can be told;
  told : (a : Answer) → SameFeeding s₁ s₂ M a true → (first (same_order s₁ s₂ M) ≡ Ok tt) × Compared m s₁ s₂ true
  told (Ok _) h = h.meets
  told (Err (Singular r p)) h = absurd (true≢false h.meets.1.untold)
  told (Err (Refused r)) h = absurd (true≢false h.meets.1)

  -- and they agree and are not all zero.
  module _ (a : Answer) (h : SameFeeding s₁ s₂ M a true) where
    fed : (c₁ c₂ : List ℕ) → s₁.readings ≡ heard m s₁ c₁ → s₂.readings ≡ heard m s₂ c₂ → Agree (entries s₁) m c₁ c₂ × ¬ Idle (entries s₁) m c₁
    fed c₁ c₂ e₁ e₂ = let (ok, k) = told a h in (same_feeding s₁ s₂ M ok a true h c₁ c₂ e₁ e₂ k.unmixed₁.invertible k.unmixed₂.invertible).1.0 refl

    busy_first : ¬ SentIdle m s₁
    busy_first t = let k = (told a h).1 in (fed t.counts k.counts₂ t.readings (sym k.unmixed₂.counts.readings)).1 t.idle

    busy_second : ¬ SentIdle m s₂
    busy_second t =
        let (ok, k) = told a h in
        let one_size = (same_granted s₁ s₂ M ok).one_size in
        let (agree, busy) = fed k.counts₁ t.counts (sym k.unmixed₁.counts.readings) t.readings in
        busy (record { entries = λ i b. agree.entries i b ∙ t.idle.entries i (omega arith) })

  -- So it never says yes of an idle tank: not with another, which may be idle too, and not with itself, since s₂ may be s₁.
  pub never_idle : (a : Answer) (same : Bool) → SameFeeding s₁ s₂ M a same → SentIdle m s₁ ⊎ SentIdle m s₂ → same ≡ false
  never_idle a false h t = refl
  never_idle a true h (inl t) = absurd (busy_first a h t)
  never_idle a true h (inr t) = absurd (busy_second a h t)
