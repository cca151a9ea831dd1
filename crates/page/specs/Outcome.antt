-- What the program unmix comes to (document 01, The pattern sheet): "then `inverse` and the n entries, or `singular p ghost` and the n entries; then,
-- with readings and an inverse, `counts` and the n entries." A refusal comes instead.
use Rattle.std.specs.Prelude.{ℕ, ◌≡◌, List, [], ◌∷◌, length, Result, Ok, Err}
use mathlib.Core.Option.{Option, none, some}
use Rattle.ring.specs.Inverse.{Inverse}
use Rattle.answer.specs.First.{first}
use Rattle.answer.specs.Check.{Check}
use Rattle.answer.specs.declared.Refusal.{Refusal}
use Rattle.pattern.specs.Sent.{sent}
use Rattle.factors.specs.Factored.{Factored, factored, listed_order}
use Rattle.pattern.specs.Counts.{Unmixed}
use Rattle.pattern.specs.Smallest.{Smallest}
use Rattle.pattern.specs.Ghost.{Ghost}
use Rattle.sheet.specs.Held.{Held, held_of}

pub data Outcome : Type 0 where
  refused : Refusal → Outcome
  singular : (prime : ℕ) (ghost : List ℕ) → Outcome
  inverted : (inverse : List ℕ) (counts : Option (List ℕ)) → Outcome

-- The modulus that a sheet holds, with its list.
abbrev pub listed : Held → Factored
listed h = factored h.modulus h.primes h.exponents

-- "With readings present, both rings are checked (pattern 1, readings 2) before anything is inverted."
abbrev pub ring_2 : Option (List ℕ) → List (List ℕ)
ring_2 none = []
ring_2 (some readings) = readings ∷ []

abbrev pub held_order : Held → List Check
held_order h = listed_order h.pattern (ring_2 h.readings) (listed h) []

-- Counts are shown exactly where there are readings, and are the counts behind them.
abbrev pub CountsBehind : (m : ℕ) (f : List ℕ) → (readings counts : Option (List ℕ)) → Type 0
CountsBehind m f none none = Unit {0}
CountsBehind m f none (some counts) = ⊥
CountsBehind m f (some readings) none = ⊥
CountsBehind m f (some readings) (some counts) = Unmixed m (sent f readings) counts

-- What may be shown of a sheet that holds h.
abbrev pub Shown : Held → Outcome → Type 0
Shown h (refused r) = first (held_order h) ≡ Err r
Shown h (singular prime ghost) = let n = length h.pattern in
    (first (held_order h) ≡ Ok tt) × Smallest n h.modulus h.pattern prime × Ghost n h.modulus h.pattern prime ghost
Shown h (inverted inverse counts) = let n = length h.pattern in
    (first (held_order h) ≡ Ok tt) × Inverse n h.modulus h.pattern inverse × CountsBehind h.modulus h.pattern h.readings counts

-- What may be shown of a sheet: its own refusal comes first.
abbrev pub AfterReading : Result Held Refusal → Outcome → Type 0
AfterReading (Err r) outcome = outcome ≡ refused r
AfterReading (Ok h) outcome = Shown h outcome

abbrev pub Comes : (s : List ℕ) → Outcome → Type 0
Comes s outcome = AfterReading (held_of s) outcome
