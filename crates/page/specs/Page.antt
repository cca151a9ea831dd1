-- The lines that the program prints (document 01, The pattern sheet).
use Rattle.std.specs.Prelude.{ℕ, List, [], ◌∷◌, ◌++◌, length, Result, Ok, Err}
use mathlib.Core.Option.{Option, none, some}
use Rattle.answer.specs.Numbers.{refusal_row}
use Rattle.answer.specs.declared.Refusal.{Refusal}
use Rattle.answer.specs.declared.Told.{Told}
use Rattle.answer.specs.declared.Told.TheVariants.{Nothing, Ring, RingAndPlace, RingAndPrime, Place}
use Rattle.lines.specs.Items.{Item, number, numbers, text}
use Rattle.lines.specs.Lines.{line}
use Rattle.sheet.specs.Held.{Held}
use Rattle.page.specs.Outcome.{Outcome, refused, singular, inverted}

-- "It prints `ring n modulus m`".
abbrev pub heading : (n m : ℕ) → List Item
heading n m = line (text "ring") (number n ∷ text "modulus" ∷ number m ∷ [])

-- "`inverse` and the n entries, or `singular p ghost` and the n entries; then, with readings and an inverse, `counts` and the n entries."
abbrev pub inverse_line : List ℕ → List Item
inverse_line inverse = line (text "inverse") (numbers inverse)

abbrev pub singular_line : ℕ → List ℕ → List Item
singular_line prime ghost = line (text "singular") (number prime ∷ text "ghost" ∷ numbers ghost)

abbrev pub counts_line : Option (List ℕ) → List Item
counts_line none = []
counts_line (some counts) = line (text "counts") (numbers counts)

-- "A refusal prints one line instead: `refused` and the number; for 6 then `ring r at k`; for 20 to 24 then `at` and the offset." What the table of numbers
-- says is told, is printed. (9 is never a refusal here.)
abbrev pub told_items : Told → (ring place : ℕ) → List Item
told_items Nothing ring place = []
told_items Ring ring place = text "ring" ∷ number ring ∷ []
told_items RingAndPlace ring place = text "ring" ∷ number ring ∷ text "at" ∷ number place ∷ []
told_items RingAndPrime ring place = text "ring" ∷ number ring ∷ []
told_items Place ring place = text "at" ∷ number place ∷ []

abbrev pub refused_line : ℕ → Told → (ring place : ℕ) → List Item
refused_line k told ring place = line (text "refused") (number k ∷ told_items told ring place)

abbrev pub refusal_line : Refusal → List Item
refusal_line r = let row = refusal_row r.case in refused_line row.number row.told r.ring r.place

-- All lines, for a ring of n entries modulo m.
abbrev pub page : (n m : ℕ) → Outcome → List Item
page n m (refused r) = refusal_line r
page n m (singular prime ghost) = heading n m ++ singular_line prime ghost
page n m (inverted inverse counts) = heading n m ++ (inverse_line inverse ++ counts_line counts)

-- All lines of what comes of a sheet that holds so much; of one that is refused only a refusal comes, which has no heading.
abbrev pub page_of : Result Held Refusal → Outcome → List Item
page_of (Ok h) outcome = page (length h.pattern) h.modulus outcome
page_of (Err r) outcome = page 0 0 outcome
