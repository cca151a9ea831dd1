-- A contract of the form `Meets` allows one answer, and one thing to stand beside it, wherever what it says of Done and of Singular is settled: the first
-- check that finds something decides between a refusal and the rest. And some answer fits wherever one of Done and Singular does once no check refuses.
-- Assumes nothing.
use Prim.Native.Nat.{ℕ}
use mathlib.Core.Path.{◌≡◌, refl, sym, ap, ◌∙◌}
use mathlib.Core.Logic.{◌⊎◌, inl, inr}
use mathlib.Core.List.{List}
use Rattle.answer.specs.First.{first}
use Rattle.answer.specs.Reply.{reply, Replied}
use Rattle.answer.specs.Contract.{Meets, Fills}
use Rattle.std.specs.Prelude.{Ok, Err}
use Rattle.answer.specs.Check.{Check}
use Rattle.answer.specs.declared.Reply.{Reply}
use Rattle.answer.specs.Answer.{Answer}
use Rattle.answer.specs.declared.Failure.TheVariants.{Singular, Refused}
use Rattle.answer.proofs.Firsts.{passed_refused}

module _ {R : Type 0} (checks : List Check) (done : R → Type 0) (singular : ℕ → ℕ → R → Type 0) (stays : R)
    (one-done : first checks ≡ Ok tt → (x y : R) → done x → done y → x ≡ y)
    (not_both : first checks ≡ Ok tt → (x y : R) (r p : ℕ) → done x → singular r p y → ⊥)
    (one-singular : first checks ≡ Ok tt → (x y : R) (r p r' p' : ℕ) → singular r p x → singular r' p' y → (Singular r p ≡ Singular r' p') × (x ≡ y)) where
  pub one_answer : (a b : Answer) (x y : R) → Meets checks done singular stays a x → Meets checks done singular stays b y → (a ≡ b) × (x ≡ y)
  one_answer (Ok _) (Ok _) x y h k = (refl, one-done h.0 x y h.1 k.1)
  one_answer (Ok _) (Err (Singular r p)) x y h k = absurd (not_both h.0 x y r p h.1 k.1)
  one_answer (Ok _) (Err (Refused r)) x y h k = absurd (passed_refused h.0 k.0)
  one_answer (Err (Singular r p)) (Ok _) x y h k = absurd (not_both h.0 y x r p k.1 h.1)
  one_answer (Err (Singular r p)) (Err (Singular r' p')) x y h k = let e = one-singular h.0 x y r p r' p' h.1 k.1 in (ap Err e.0, e.1)
  one_answer (Err (Singular r p)) (Err (Refused r')) x y h k = absurd (passed_refused h.0 k.0)
  one_answer (Err (Refused r)) (Ok _) x y h k = absurd (passed_refused k.0 h.0)
  one_answer (Err (Refused r)) (Err (Singular r' p)) x y h k = absurd (passed_refused k.0 h.0)
  one_answer (Err (Refused r)) (Err (Refused r')) x y h k = (cc (h.0, k.0), h.1 ∙ sym k.1)

pub one_fill : {R : Type 0} (checks : List Check) (result stays : R) (a b : Answer) (x y : R) → Fills checks result stays a x → Fills checks result stays b y → (a ≡ b) × (x ≡ y)
one_fill checks result stays = one_answer checks _ _ stays (λ e x y h k. h ∙ sym k) (λ e x y r p h k. k) (λ e x y r p r' p' h k. absurd h)

-- In numbers too.
pub one-reply : {R : Type 0} (Fits : Answer → R → Type 0) {r r' : Reply} {x y : R} → ((a b : Answer) → Fits a x → Fits b y → (a ≡ b) × (x ≡ y))
    → Replied (λ a. Fits a x) r → Replied (λ a. Fits a y) r' → (r ≡ r') × (x ≡ y)
one-reply Fits one h k = let e = one h.answer k.answer h.fits k.fits in (h.is ∙ ap reply e.0 ∙ sym k.is, e.1)

-- Some answer fits, where Done or Singular does once no check refuses.
module _ {R : Type 0} (checks : List Check) (done : R → Type 0) (singular : ℕ → ℕ → R → Type 0) (stays : R) where
  abbrev pub Answered : Type 0
  Answered = (a : Answer) × (x : R) × Meets checks done singular stays a x

  abbrev pub Decided : Type 0
  Decided = ((x : R) × done x) ⊎ ((ring : ℕ) × (prime : ℕ) × (x : R) × singular ring prime x)

  pub some_answer : (first checks ≡ Ok tt → Decided) → Answered
  some_answer decide = go (first checks) refl
    where
      pick : first checks ≡ Ok tt → Decided → Answered
      pick e (inl (x, h)) = (Ok tt, x, (e, h))
      pick e (inr (ring, prime, x, h)) = (Err (Singular ring prime), x, (e, h))

      go : (c : Check) → first checks ≡ c → Answered
      go (Ok _) e = pick e (decide e)
      go (Err r) e = (Err (Refused r), stays, (e, refl))
