-- The checks 1 to 8 of document 01's table, but for 5, which is in Factors.antt. Limits are arguments.
use Rattle.std.specs.Prelude.{ℕ, ◌%◌, not, ◌||◌, List, eqb, leb, ltb, length}
use Rattle.std.specs.List.{position_or_len}
use Rattle.answer.specs.Refuse.{refuse_if}
use Rattle.answer.specs.declared.Case.TheVariants.{Empty, Large, Mismatch, Modulus, Coefficient, Room, Divisor}
use Rattle.answer.specs.Check.{Check}

-- 1: "ring 1 has no entry". n is its length.
abbrev pub empty : ℕ → Check
empty n = refuse_if (eqb n 0) Empty 0 0

-- 2: "ring 1 has more than 1,024".
abbrev pub large : ℕ → ℕ → Check
large most n = refuse_if (ltb most n) Large 0 0

-- 3: "another ring's length differs from ring 1's". The ring is told.
abbrev pub mismatch : ℕ → ℕ → ℕ → Check
mismatch n ring len = refuse_if (not (eqb len n)) Mismatch ring 0

-- 4: "m below 2 or above 1,000,000".
abbrev pub modulus : ℕ → ℕ → ℕ → Check
modulus least most m = refuse_if (ltb m least || ltb most m) Modulus 0 0

-- 6: "an entry is m or more". The ring and "its first such place" are told.
-- (the place of the first entry that is m or more; the length where there is none)
unfoldable pub first_high : ℕ → List ℕ → ℕ
first_high m a = position_or_len (leb m) a

abbrev pub coefficient : ℕ → ℕ → List ℕ → Check
coefficient m ring a = refuse_if (ltb (first_high m a) (length a)) Coefficient ring (first_high m a)

-- 7: "output length isn't n".
abbrev pub room : ℕ → ℕ → Check
room n len = refuse_if (not (eqb len n)) Room 0 0

-- 8: "m' isn't a divisor of m from 2 up; in fold, n' doesn't divide n or is 0". The least divisor allowed is 2 there and 1 here.
abbrev pub divisor : ℕ → ℕ → ℕ → Check
divisor least n d = refuse_if (ltb d least || not (eqb (n % d) 0)) Divisor 0 0
