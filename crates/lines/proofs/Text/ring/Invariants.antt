-- `Text::ring` meets its contract: after so many turns as many entries stand, each after a blank. Assumes nothing.
use lib.ListN.{take}
use Rattle.lines.specs.Items.{numbers}
use Rattle.lines.specs.Lines.{after}
use Rattle.lines.specs.Writes.{Writes}
use Rattle.lines.proofs.Text.ring.Given as goal

abbrev pub invariant-loop-x : goal.invariant-loop-x
invariant-loop-x l = Writes (after (numbers (take l.x-index l.ring))) l.initial.self l.self
