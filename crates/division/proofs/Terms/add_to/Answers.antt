-- `division::Terms::add_to` meets its contract: the part of a that begins at the shift gets the terms times b, and the rest stays. Assumes nothing.
use Prim.Native.Nat.{◌-◌}
use native.Mathlib.Omega.{arith}
use lib.ListN.{length, drop, length-take, length-drop}
use Rattle.division.proofs.Parts.{added, part_low, front_low}
use Rattle.division.proofs.Terms.add_to.Goals as goal

pub add_linear-requires : goal.add_linear-requires
add_linear-requires c =
    let r = c.requires in
    record {
      multiple = record { modulus = r.modulus.word; low = front_low c.args.len r.from };
      same = r.same;
      onto = part_low c.args.self.shift r.onto;
      fits = omega (arith, length-take c.args.len c.args.b.now, length-take (length c.args.a.now - c.args.self.shift) (drop c.args.self.shift c.args.a.now), length-drop c.args.self.shift c.args.a.now, r.room, r.onto.long);
    }

pub returns : goal.returns
returns c = added c.requires c.add_linear.ensures
