-- What mix, reduce and fold may answer, and what their output may hold then (document 01, The calls): for each the order of its checks, and the
-- record of an answer and an output that fit. None has a factor list, none can be singular; `room` is the length of the output.
use Rattle.std.specs.Prelude.{ℕ, List, [], ◌∷◌, length}
use Rattle.limits.specs.Limits.{least_modulus}
use Rattle.ring.specs.Mix.{mix}
use Rattle.ring.specs.Reduce.{reduce}
use Rattle.ring.specs.Fold.{fold}
use Rattle.checks.specs.Checks as checks
use Rattle.checks.specs.Order.{ring_order, no_list}
use Rattle.answer.specs.Contract.{Fills}
use Rattle.answer.specs.Check.{Check}
use Rattle.answer.specs.Answer.{Answer}

-- "Mix two rings modulo m." Refusals 1, 2, 3, 4, 6, 7.
abbrev pub mix_order : List ℕ → List ℕ → ℕ → ℕ → List Check
mix_order a b m room = ring_order a (b ∷ []) m no_list (checks.room (length a) room ∷ [])

pub record Mixes (a b : List ℕ) (m : ℕ) (old : List ℕ) (answer : Answer) (new : List ℕ) : Type 0 where
  pub meets : Fills (mix_order a b m (length old)) (mix (length a) m a b) old answer new

-- "Reduce a ring from modulus m to a divisor m' of m: each entry becomes its remainder by m'." Refusals 1, 2, 4, 6, 7, 8.
abbrev pub reduce_order : List ℕ → ℕ → ℕ → ℕ → List Check
reduce_order a m m' room = ring_order a [] m no_list (checks.room (length a) room ∷ checks.divisor least_modulus m m' ∷ [])

pub record Reduces (a : List ℕ) (m m' : ℕ) (old : List ℕ) (answer : Answer) (new : List ℕ) : Type 0 where
  pub meets : Fills (reduce_order a m m' (length old)) (reduce (length a) m' a) old answer new

-- "Fold a ring of n entries onto n' entries, n' being the length of the output buffer." Refusals 1, 2, 4, 6, 8.
abbrev pub fold_order : List ℕ → ℕ → ℕ → List Check
fold_order a m n' = ring_order a [] m no_list (checks.divisor 1 (length a) n' ∷ [])

pub record Folds (a : List ℕ) (m : ℕ) (old : List ℕ) (answer : Answer) (new : List ℕ) : Type 0 where
  pub meets : Fills (fold_order a m (length old)) (fold (length a) (length old) m a) old answer new
