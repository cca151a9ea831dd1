-- For each input one answer fits, and with it one output. Assumes nothing.
use Prim.Native.Nat.{ℕ}
use mathlib.Core.Path.{◌≡◌, sym, ◌∙◌, ap}
use mathlib.Core.Logic.{inl, inr}
use mathlib.Core.List.{List}
use native.Mathlib.Omega.{arith}
use lib.ListN.{length}
use Rattle.sums.specs.Table.{at}
use Rattle.modular.proofs.Inverses.{finds_one}
use Rattle.euclid.proofs.Answers.{one_answer}
use Rattle.probe.specs.Number.{number_of, TellsInverse}
use Rattle.probe.specs.Solution.{solution_of, TellsSolution}
use Rattle.probe.specs.declared.Number.{Number}
use Rattle.probe.specs.declared.Solution.{Solution}

pub one_number : (y m : ℕ) (r q : Number) → TellsInverse y m r → TellsInverse y m q → r ≡ q
one_number y m r q (inl a) (inl b) = a.told ∙ ap number_of (finds_one a.found b.found a.finds b.finds) ∙ sym b.told
one_number y m r q (inl a) (inr b) = absurd (omega (arith, a.taken, b.small))
one_number y m r q (inr a) (inl b) = absurd (omega (arith, a.small, b.taken))
one_number y m r q (inr a) (inr b) = a.told ∙ sym b.told

pub one_solution : (f : List ℕ) (p : ℕ) (before after after' : List ℕ) (r q : Solution) → TellsSolution f p before after r → TellsSolution f p before after' q → (r ≡ q) × (after ≡ after')
one_solution f p before after after' r q (inl a) (inl b) =
    let same = one_answer (length f) p a.taken.prime.two a.taken.some (at f) after after' a.outcome b.outcome a.answers b.answers in
    (a.told ∙ ap solution_of same.0 ∙ sym b.told, same.1)
one_solution f p before after after' r q (inl a) (inr b) = absurd (b.refused a.taken)
one_solution f p before after after' r q (inr a) (inl b) = absurd (a.refused b.taken)
one_solution f p before after after' r q (inr a) (inr b) = (a.told ∙ sym b.told, a.untouched ∙ sym b.untouched)
