-- A number as it is printed: its decimal digits, without a leading zero, in ASCII.
use Rattle.std.specs.Prelude.{ℕ, ◌+◌, ◌*◌, ◌^◌, ◌<◌, ◌≡◌, List, [], ◌∷◌, map, length}

-- What digits are worth, the highest first.
unfoldable pub value : List ℕ → ℕ
value [] = 0
value (d ∷ ds) = d * 10 ^ length ds + value ds

abbrev pub Digits : List ℕ → Type 0
Digits [] = Unit {0}
Digits (d ∷ ds) = (d < 10) × Digits ds

-- There is a first digit, and it is not 0 unless it stands alone.
abbrev pub NoLeadingZero : List ℕ → Type 0
NoLeadingZero [] = ⊥
NoLeadingZero (d ∷ []) = Unit {0}
NoLeadingZero (d ∷ e ∷ ds) = 0 < d

-- The byte of a digit: '0' is 48.
abbrev pub glyph : ℕ → ℕ
glyph d = 48 + d

-- The bytes t are the number x.
pub record Decimal (x : ℕ) (t : List ℕ) : Type 0 where
  pub digits : List ℕ
  pub all : Digits digits
  pub leads : NoLeadingZero digits
  pub worth : value digits ≡ x
  pub bytes : t ≡ map glyph digits
