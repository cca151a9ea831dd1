-- The goals of `print::put_refused` that the search leaves: its four pieces, one after the other.
use Rattle.lines.specs.Lines.{newline}
use Rattle.lines.proofs.Putting.{room-first, room_next}
use Rattle.lines.proofs.Writing.{writes_append}
use Rattle.print.proofs.put_refused.Goals as goal

pub put_told-requires : goal.put_told-requires
put_told-requires c =
    room-first _ newline (room_next _ _ (room_next _ _ c.requires c.word.ensures.puts) c.number.ensures.puts)

pub word-requires-2 : goal.word-requires-2
word-requires-2 c =
    room_next _ newline (room_next _ _ (room_next _ _ c.requires c.word.ensures.puts) c.number.ensures.puts) c.put_told.ensures.puts

pub returns : goal.returns
returns c =
    writes_append c.word.ensures (writes_append c.number.ensures (writes_append c.put_told.ensures c.word-2.ensures))
