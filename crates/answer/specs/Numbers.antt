-- Document 01's table, "Numbers a call can answer with", and the numbers 20 to 24 of "The pattern sheet"; document 02's numbers 10 to 13: for each case its
-- number and what is told besides.
use Rattle.std.specs.Prelude.{ℕ}
use Rattle.answer.specs.declared.Row.{Row}
use Rattle.answer.specs.declared.Told.{Told}
use Rattle.answer.specs.declared.Told.TheVariants.{Nothing, Ring, RingAndPlace, RingAndPrime, Place}
use Rattle.answer.specs.declared.Case.{Case}
use Rattle.answer.specs.declared.Case.TheVariants.{Empty, Large, Mismatch, Modulus, Factors, Coefficient, Room, Divisor, Exponent, Prime, Order, Product, Cut, Tag, Length, Missing, Version}

-- The columns "No." and "Told besides".
abbrev pub row : (number : ℕ) (told : Told) → Row
row number told = record { number = number; told = told }

-- 10, 11 and 12: "each with the entry's place". A sheet's refusals: "Each tells the offset of the field's first byte, or for 23 at the end the sheet's length."
abbrev pub refusal_row : Case → Row
refusal_row Empty = row 1 Nothing
refusal_row Large = row 2 Nothing
refusal_row Mismatch = row 3 Ring
refusal_row Modulus = row 4 Nothing
refusal_row Factors = row 5 Nothing
refusal_row Coefficient = row 6 RingAndPlace
refusal_row Room = row 7 Nothing
refusal_row Divisor = row 8 Nothing
refusal_row Exponent = row 10 Place
refusal_row Prime = row 11 Place
refusal_row Order = row 12 Place
refusal_row Product = row 13 Nothing
refusal_row Cut = row 20 Place
refusal_row Tag = row 21 Place
refusal_row Length = row 22 Place
refusal_row Missing = row 23 Place
refusal_row Version = row 24 Place

abbrev pub singular_row : Row
singular_row = row 9 RingAndPrime
