-- The contract of a call: what it may answer, and what may stand beside its answer then. Beside an answer stand the outputs that the call is lent and
-- the values that it tells; R is their type, whatever they are.
use Rattle.std.specs.Prelude.{ℕ, ◌≡◌, List, Ok, Err}
use Rattle.answer.specs.First.{first}
use Rattle.answer.specs.Check.{Check}
use Rattle.answer.specs.Answer.{Answer}
use Rattle.answer.specs.declared.Failure.TheVariants.{Singular, Refused}

-- `checks` is the call's order; `done` and `singular` say what may stand beside the answer then; `stays` is each output as it came, and nothing told.
-- "Refusals 1 to 8, and every number added later, leave each lent output as it came."
abbrev pub Meets : {R : Type 0} → List Check → (done : R → Type 0) → (singular : ℕ → ℕ → R → Type 0) → (stays : R) → Answer → R → Type 0
Meets checks done singular stays (Ok _) r = (first checks ≡ Ok tt) × done r
Meets checks done singular stays (Err (Singular ring prime)) r = (first checks ≡ Ok tt) × singular ring prime r
Meets checks done singular stays (Err (Refused refusal)) r = (first checks ≡ Err refusal) × (r ≡ stays)

-- A call that no pattern can make singular, and that leaves `result` when it is done.
abbrev pub Fills : {R : Type 0} → List Check → (result : R) → (stays : R) → Answer → R → Type 0
Fills checks result stays answer r = Meets checks (λ x. x ≡ result) (λ ring prime x. ⊥) stays answer r
