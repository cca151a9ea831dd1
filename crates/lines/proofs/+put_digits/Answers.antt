-- The goals of `lines::put_digits` that the search leaves: the last digit is written after the tenth's.
use native.Mathlib.Omega.{arith}
use native.Mathlib.Nat.{mod-lt}
use Rattle.lines.proofs.Putting.{last_inside, puts_last}
use Rattle.lines.proofs.+put_digits.Goals as goal

pub put_digit-requires-2 : goal.put_digit-requires-2
put_digit-requires-2 t c = record {
  low = mod-lt c.args.x (omega arith);
  inside = last_inside (omega arith) (omega arith) c.requires c.put_digits-end.ensures;
}

pub returns : goal.returns
returns t c = puts_last (omega arith) (omega arith) c.put_digits-end.ensures c.put_digit-2.ensures
