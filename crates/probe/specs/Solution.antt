-- What is told of the extended Euclid on f and x^n - 1 modulo p: kind 0 with the inverse in the output, kind 1 with the ghost in the output and the degree of
-- the shared factor, or kind 2 with the output as it came where it takes no such call. That only one answer fits is `one_solution` in proofs/OneAnswer.antt.
use Rattle.std.specs.Prelude.{ℕ, ◌≡◌, ◌⊎◌, Ok, Err, List, length}
use Rattle.sums.specs.Table.{at}
use Rattle.euclid.specs.Answer.{Outcome, Answers}
use Rattle.probe.specs.Takes.{Takes}
use Rattle.probe.specs.declared.Solution.{Solution}

abbrev pub solution : ℕ → ℕ → Solution
solution k d = record { kind = k; zero = 0; degree = d }

abbrev pub solution_of : Outcome → Solution
solution_of (Ok _) = solution 0 0
solution_of (Err s) = solution 1 s.degree

pub record SolutionFound (f : List ℕ) (p : ℕ) (before after : List ℕ) (r : Solution) : Type 0 where
  pub taken : Takes f p (length before)
  pub outcome : Outcome
  pub answers : Answers (length f) p (at f) after outcome
  pub told : r ≡ solution_of outcome

pub record SolutionRefused (f : List ℕ) (p : ℕ) (before after : List ℕ) (r : Solution) : Type 0 where
  pub refused : Takes f p (length before) → ⊥
  pub untouched : after ≡ before
  pub told : r ≡ solution 2 0

abbrev pub TellsSolution : List ℕ → ℕ → List ℕ → List ℕ → Solution → Type 0
TellsSolution f p before after r = SolutionFound f p before after r ⊎ SolutionRefused f p before after r
