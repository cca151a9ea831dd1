-- What invert, unmix and same feeding may answer, and what may stand beside their answer then (document 01, The calls): for each the order of its checks,
-- and the record of what fits. `room` is the length of the output.
use Rattle.std.specs.Prelude.{ℕ, ◌≡◌, ◌↔◌, ◌⊎◌, Bool, true, false, List, [], ◌∷◌, length}
use Rattle.ring.specs.Inverse.{Inverse, Invertible}
use Rattle.answer.specs.Contract.{Meets}
use Rattle.answer.specs.Check.{Check}
use Rattle.answer.specs.Answer.{Answer}
use Rattle.checks.specs.Checks as checks
use Rattle.factors.specs.Factored.{Factored, listed_order}
use Rattle.pattern.specs.Sent.{Sent, entries}
use Rattle.pattern.specs.Counts.{Unmixed}
use Rattle.pattern.specs.Same.{Same}
use Rattle.pattern.specs.Smallest.{Smallest}
use Rattle.pattern.specs.Ghost.{Ghost}

-- ---- "Invert a pattern." Refusals 1, 2, 4, those of the factor list, 6, 7.

abbrev pub invert_order : List ℕ → Factored → ℕ → List Check
invert_order f M room = listed_order f [] M (checks.room (length f) room ∷ [])

-- 9 SINGULAR tells ring 1 and the smallest singular prime; "in invert it writes the ghost".
pub record ShowsGhost (f : List ℕ) (m ring prime : ℕ) (new : List ℕ) : Type 0 where
  pub one : ring ≡ 1
  pub smallest : Smallest (length f) m f prime
  pub ghost : Ghost (length f) m f prime new

pub record Inverts (f : List ℕ) (M : Factored) (old : List ℕ) (answer : Answer) (new : List ℕ) : Type 0 where
  pub meets : Meets (invert_order f M (length old)) (Inverse (length f) M.modulus f) (ShowsGhost f M.modulus) old answer new

-- ---- "Unmix: pattern and readings give the counts." Refusals 1 to 4, those of the factor list, 6, 7.

abbrev pub unmix_order : Sent → Factored → ℕ → List Check
unmix_order s M room = listed_order s.pattern (s.readings ∷ []) M (checks.room (entries s) room ∷ [])

-- 9 SINGULAR tells the same; in unmix it leaves the output as it came.
pub record LeavesOutput (s : Sent) (m : ℕ) (old : List ℕ) (ring prime : ℕ) (new : List ℕ) : Type 0 where
  pub one : ring ≡ 1
  pub smallest : Smallest (entries s) m s.pattern prime
  pub untouched : new ≡ old

pub record Unmixes (s : Sent) (M : Factored) (old : List ℕ) (answer : Answer) (new : List ℕ) : Type 0 where
  pub meets : Meets (unmix_order s M (length old)) (Unmixed M.modulus s) (LeavesOutput s M.modulus old) old answer new

-- ---- "Same feeding: two patterns, each followed by its readings, one n, one m .. No output buffer." Refusals 1 to 4, those of the factor list, 6. Beside the
-- answer stands whether yes.

abbrev pub same_order : Sent → Sent → Factored → List Check
same_order s₁ s₂ M = listed_order s₁.pattern (s₁.readings ∷ s₂.pattern ∷ s₂.readings ∷ []) M []

-- "Yes exactly when the two unmixed count rings" are the same feeding, as document 02's second request has it.
pub record Compared (m : ℕ) (s₁ s₂ : Sent) (same : Bool) : Type 0 where
  pub counts₁ : List ℕ
  pub counts₂ : List ℕ
  pub unmixed₁ : Unmixed m s₁ counts₁
  pub unmixed₂ : Unmixed m s₂ counts₂
  pub exactly : (same ≡ true) ↔ Same (entries s₁) counts₁ counts₂

-- 9 SINGULAR tells "lowest such ring, smallest singular prime": ring 1, or ring 3 where the pattern of ring 1 has an inverse. There is no yes then.
pub record RingOne (m : ℕ) (s₁ : Sent) (ring prime : ℕ) : Type 0 where
  pub one : ring ≡ 1
  pub smallest : Smallest (entries s₁) m s₁.pattern prime

pub record RingThree (m : ℕ) (s₁ s₂ : Sent) (ring prime : ℕ) : Type 0 where
  pub three : ring ≡ 3
  pub invertible : Invertible (entries s₁) m s₁.pattern
  pub smallest : Smallest (entries s₂) m s₂.pattern prime

pub record NamesRing (m : ℕ) (s₁ s₂ : Sent) (ring prime : ℕ) (same : Bool) : Type 0 where
  pub lowest : RingOne m s₁ ring prime ⊎ RingThree m s₁ s₂ ring prime
  pub untold : same ≡ false

pub record SameFeeding (s₁ s₂ : Sent) (M : Factored) (answer : Answer) (same : Bool) : Type 0 where
  pub meets : Meets (same_order s₁ s₂ M) (Compared M.modulus s₁ s₂) (NamesRing M.modulus s₁ s₂) false answer same
