-- Same feeding, from what unmixing both sides and comparing the counts found. Assumes nothing.
use Rattle.std.specs.Prelude.{Ok, Err, Some, None, is_ok, is_some, position}
use Prim.Native.Nat.{ℕ, ◌<◌, ◌≤◌}
use mathlib.Core.Path.{◌≡◌, refl, sym, ap, ◌∙◌}
use mathlib.Core.Logic.{◌↔◌}
use mathlib.Core.Bool.{Bool, true, false, cond, true≢false}
use mathlib.Core.List.{List, []}
use native.Mathlib.Omega.{arith}
use borrow.Author.Tests.{ltb-true, ltb-false}
use lib.Dec.{eqb, leb}
use lib.ListN.{length}
use lib.Seq.{ext_get_or}
use Rattle.std.specs.Bool.{Decides}
use Rattle.std.specs.Cmp.Lexicographic.{pointwise}
use Rattle.std.proofs.lemmas.Bool.Decides.{Decides-eqb}
use Rattle.std.proofs.lemmas.Slice.Eq.{slice_eq-Decides}
use Rattle.sums.specs.Table.{at}
use Rattle.checks.proofs.FirstHigh.{high_before, high_at}
use Rattle.checks.specs.Checks.{first_high}
use Rattle.pattern.specs.Sent.{Sent, entries}
use Rattle.pattern.specs.Granted.{BothGranted}
use Rattle.pattern.specs.Same.{Same}
use Rattle.pattern.specs.Counts.{Unmixed}
use Rattle.answer.specs.First.{first}
use Rattle.answer.specs.Check.{Check}
use Rattle.answer.specs.Answer.{Answer}
use Rattle.answer.specs.Contract.{Meets}
use Rattle.answer.specs.declared.Failure.TheVariants.{Singular, Refused}
use Rattle.answer.proofs.Firsts.{passed_refused}
use Rattle.factors.specs.Factored.{Factored}
use Rattle.pattern.specs.Promises.{same_order, Compared, NamesRing, SameFeeding}
use Rattle.feeding.specs.Told.{Verdict, answer_in, yes}
use Rattle.invert.specs.Inversions.{Inversion}
use Rattle.feeding.specs.Unmixings.{CanCount, Counted}
use Rattle.feeding.specs.Inner.{Judged}

-- ---- two rings of counts

-- The place of the first entry that is 1 or more is told exactly where there is one.
some_exactly : (b : Bool) (k : ℕ) → is_some (cond b (Some k) None) ≡ b
some_exactly true k = refl
some_exactly false k = refl

fed : (a : List ℕ) → is_some (position (leb 1) a) ≡ true → first_high 1 a < length a
unfolding first_high
fed a e = ltb-true _ _ (sym (some_exactly _ _) ∙ e)

unfed : (a : List ℕ) → is_some (position (leb 1) a) ≡ false → length a ≤ first_high 1 a
unfolding first_high
unfed a e = ltb-false _ _ (sym (some_exactly _ _) ∙ e)

module _ (a b : List ℕ) where
  -- If there is one, the comparison tells;
  pub fed_exactly : length b ≡ length a → is_some (position (leb 1) a) ≡ true → {same : Bool} → same ≡ pointwise eqb a b → (same ≡ true) ↔ Same (length a) a b
  fed_exactly long some {same} told =
      let equal : Decides same (a ≡ b) = slice_eq-Decides Decides-eqb a b same told in
      let inside = fed a some in (
        (λ e. record { entries = λ i h. ap (λ (l : List ℕ). at l i) (equal.0 e); place = first_high 1 a; inside = inside; some = λ z. absurd (omega (arith, high_at 1 a inside)) }),
        (λ s. equal.1 (ext_get_or 0 a b (sym long) s.entries)),
      )

  -- if there is none, there is no feeding.
  pub unfed_exactly : is_some (position (leb 1) a) ≡ false → {same : Bool} → same ≡ false → (same ≡ true) ↔ Same (length a) a b
  unfed_exactly none {same} told = (
    (λ e. absurd (true≢false (sym e ∙ told))),
    (λ s. absurd (s.some (let low : at a s.place < 1 = high_before 1 a s.place (omega (arith, s.inside, unfed a none)) in omega arith))),
  )

-- ---- both sides

-- What unmixing each side asks.
pub first_ready : {s₁ s₂ : Sent} {M : Factored} → BothGranted s₁ s₂ M → {out : List ℕ} → length out ≡ entries s₁ → CanCount s₁ M out
first_ready both l = record { granted = both.first_side; long = l }

pub second_ready : {s₁ s₂ : Sent} {M : Factored} → BothGranted s₁ s₂ M → {out : List ℕ} → length out ≡ entries s₁ → CanCount s₂ M out
second_ready both l = record { granted = both.second_side; long = l ∙ sym both.one_size }

-- Where unmixing is done, the counts are told.
counts_of : {s : Sent} {m : ℕ} {old new : List ℕ} (found : Inversion) → true ≡ is_ok found → Counted s m old new found → Unmixed m s new
counts_of (Ok u) e c = c.means
counts_of (Err g) e c = absurd (true≢false e)

-- The counts of both sides are as many.
pub one-length : {s₁ s₂ : Sent} {M : Factored} {old₁ c₁ old₂ c₂ : List ℕ} {found₁ found₂ : Inversion} → BothGranted s₁ s₂ M → Counted s₁ M.modulus old₁ c₁ found₁ → true ≡ is_ok found₁
    → Counted s₂ M.modulus old₂ c₂ found₂ → true ≡ is_ok found₂ → length c₂ ≡ length c₁
one-length {found₁ = found₁} {found₂} both k₁ done₁ k₂ done₂ =
    (counts_of found₂ done₂ k₂).counts.ring.long ∙ both.one_size ∙ sym (counts_of found₁ done₁ k₁).counts.ring.long

pub compared : {s₁ s₂ : Sent} {m : ℕ} {old₁ c₁ old₂ c₂ : List ℕ} {found₁ found₂ : Inversion} {same : Bool} → Counted s₁ m old₁ c₁ found₁ → true ≡ is_ok found₁ → Counted s₂ m old₂ c₂ found₂ → true ≡ is_ok found₂
    → (same ≡ true) ↔ Same (length c₁) c₁ c₂ → Judged m s₁ s₂ (Ok same)
compared {found₁ = found₁} {found₂} k₁ done₁ k₂ done₂ exactly =
    let u₁ = counts_of found₁ done₁ k₁ in
    record { meets = (refl, record { counts₁ = _; counts₂ = _; unmixed₁ = u₁; unmixed₂ = counts_of found₂ done₂ k₂; exactly = rw u₁.counts.ring.long at exactly }) }

-- ---- the call

-- A contract that holds with no check left holds where no check refuses.
meets : {R : Type 0} (checks : List Check) (done : R → Type 0) (singular : ℕ → ℕ → R → Type 0) (stays : R) → first checks ≡ Ok tt → (a : Answer) (x : R) → Meets [] done singular stays a x → Meets checks done singular stays a x
meets checks done singular stays e (Ok _) x h = (e, h.1)
meets checks done singular stays e (Err (Singular r p)) x h = (e, h.1)
meets checks done singular stays e (Err (Refused r)) x h = absurd (passed_refused refl h.0)

pub judged_feeding : {s₁ s₂ : Sent} {M : Factored} {v : Verdict} → first (same_order s₁ s₂ M) ≡ Ok tt → Judged M.modulus s₁ s₂ v → SameFeeding s₁ s₂ M (answer_in v) (yes v)
judged_feeding {s₁} {s₂} {M} {v} e j =
    record { meets = meets (same_order s₁ s₂ M) (Compared M.modulus s₁ s₂) (NamesRing M.modulus s₁ s₂) false e (answer_in v) (yes v) j.meets }
