-- The goals of `print::put_heading` that the search leaves: its four pieces, one after the other.
use Rattle.lines.specs.Lines.{newline}
use Rattle.lines.proofs.Putting.{room-first, room_next}
use Rattle.lines.proofs.Writing.{writes_append}
use Rattle.print.proofs.put_heading.Goals as goal

pub named-requires : goal.named-requires
named-requires c =
    room-first _ newline (room_next _ _ (room_next _ _ (rw (← c.from.ensures) at c.requires) c.word.ensures.puts) c.number.ensures.puts)

pub word-requires-2 : goal.word-requires-2
word-requires-2 c =
    room_next _ newline (room_next _ _ (room_next _ _ (rw (← c.from.ensures) at c.requires) c.word.ensures.puts) c.number.ensures.puts) c.named.ensures.puts

pub returns : goal.returns
returns c =
    rw (← c.from.ensures) (writes_append c.word.ensures (writes_append c.number.ensures (writes_append c.named.ensures c.word-2.ensures)))
