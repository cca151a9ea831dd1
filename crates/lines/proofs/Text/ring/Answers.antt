-- The goals of `Text::ring` that the search leaves.
use Rattle.lines.proofs.Rows.{room_entry, writes_entry}
use Rattle.lines.proofs.Text.ring.Goals as goal

pub number-requires : goal.number-requires
number-requires c =
    room_entry c.args.ring.now c.loop-x.x-index c.loop-x-test.true c.from.ensures c.requires c.loop-x.invariant.puts

pub loop-x-preserved : goal.loop-x-preserved
loop-x-preserved c =
    writes_entry c.args.ring.now c.loop-x.x-index c.loop-x-test.true c.from.ensures c.loop-x.invariant c.number.ensures
