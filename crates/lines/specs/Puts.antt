-- What the functions of this crate ask of a lent buffer, and what they leave in it.
use Rattle.std.specs.Prelude.{ℕ, ◌+◌, ◌^◌, ◌≤◌, ◌<◌, List, [], ◌∷◌, length}
use Rattle.lines.specs.Put.{PutsBytes}
use Rattle.lines.specs.Items.{Item, word, number, Spells}

-- The items stand in the buffer from offset o up to `end`; the rest is as it came.
pub record Puts (items : List Item) (o : ℕ) (old new : List ℕ) (end : ℕ) : Type 0 where
  pub spelling : List ℕ
  pub spells : Spells items spelling
  pub stands : PutsBytes spelling o old new end

-- The most bytes that items take, where a number has at most so many digits.
abbrev pub most : (places : ℕ) → List Item → ℕ
most places [] = 0
most places (word w ∷ items) = length w + most places items
most places (number x ∷ items) = places + most places items

-- No number has more digits.
abbrev pub Low : (places : ℕ) → List Item → Type 0
Low places [] = Unit {0}
Low places (word w ∷ items) = Low places items
Low places (number x ∷ items) = (x < 10 ^ places) × Low places items

-- The buffer has room for the items from offset o on.
pub record Room (items : List Item) (o : ℕ) (old : List ℕ) : Type 0 where
  pub places : ℕ
  pub some : 0 < places
  pub low : Low places items
  pub inside : o + most places items ≤ length old

-- A digit has room at offset o.
pub record DigitFits (digit : ℕ) (o : ℕ) (old : List ℕ) : Type 0 where
  pub low : digit < 10
  pub inside : o < length old
