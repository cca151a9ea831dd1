-- `division::Terms::next` meets its contract: the top digit takes the top coefficient away, and the digit of what is then next takes that away.
-- Assumes nothing.
use Prim.Native.Nat.{◌-◌}
use mathlib.Core.Path.{refl}
use native.Mathlib.Omega.{arith}
use Rattle.rows.proofs.Rows.{up_low}
use Rattle.division.proofs.Digits.{held_low, next_two}
use Rattle.division.proofs.Terms.next.Goals as goal

pub digit-requires : goal.digit-requires
digit-requires c =
    let d = c.requires.division in
    record { left = held_low d.dividend.remainder (c.args.top - 1); right = d.lead.low }

pub plus_multiple-rest-requires : goal.plus_multiple-rest-requires
plus_multiple-rest-requires c =
    let d = c.requires.division in
    rw c.new-high.ensures.modulus (record {
      modulus = d.modulus.word;
      onto = held_low d.dividend.remainder (c.args.top - 2);
      from = rw c.second.ensures (up_low c.args.p c.args.divisor.now.remainder (omega (arith, d.modulus.two)) (held_low d.divisor.remainder) (c.args.divisor.now.len - 1));
    })

pub returns : goal.returns
returns c =
    next_two c.requires _ {rest = c.plus_multiple-rest.result} (rw c.new-high.ensures.value c.digit.ensures) (cc) (rw c.new-low.ensures.value c.digit-2.ensures) c.new-low.ensures.modulus c.new-high.ensures.modulus refl
