-- The goals of `print::put_told` that the search leaves: two names, one after the other.
use mathlib.Core.List.{[], ◌∷◌}
use Rattle.lines.specs.Items.{number, text}
use Rattle.lines.specs.Lines.{after}
use Rattle.lines.proofs.Putting.{room_next}
use Rattle.lines.proofs.Writing.{writes_append}
use Rattle.print.proofs.put_told.Goals as goal

pub named-requires-in-RingAndPlace-2 : goal.named-requires-in-RingAndPlace-2
named-requires-in-RingAndPlace-2 c = room_next _ (after (text "at" ∷ number c.args.place ∷ [])) (rw c.in-RingAndPlace.is at c.requires) c.named-in-RingAndPlace.ensures.puts

pub returns-in-RingAndPlace : goal.returns-in-RingAndPlace
returns-in-RingAndPlace c = rw c.in-RingAndPlace.is (writes_append c.named-in-RingAndPlace.ensures c.named-in-RingAndPlace-2.ensures)
