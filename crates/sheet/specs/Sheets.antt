-- What the reader hands back: the modulus, and "the parts that hold factors, pattern and readings, uncopied", or the refusal. (document 01, The pattern sheet)
use Rattle.std.specs.Prelude.{ℕ, List, Result, Ok, Err}
use Rattle.answer.specs.declared.Refusal.{Refusal}
use Rattle.octets.specs.Numbers.{big_endian}
use Rattle.fields.specs.Fields.{part_of, or_empty}
use Rattle.fields.specs.Walk.{Reading, accepted, refused, reading}
use Rattle.sheet.specs.declared.Sheet.{Sheet}

abbrev pub told : (s : List ℕ) → Reading → Result Sheet Refusal
told s (accepted come) = Ok (record {
  modulus = big_endian 4 s (or_empty (part_of come 2)).from;
  factors = or_empty (part_of come 3);
  pattern = or_empty (part_of come 4);
  readings = part_of come 5;
})
told s (refused r) = Err r

-- What the bytes s mean.
abbrev pub sheet_of : List ℕ → Result Sheet Refusal
sheet_of s = told s (reading s)
