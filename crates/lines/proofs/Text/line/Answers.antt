-- `Text::line` meets its contract: the name, the entries and the line's end, one after the other. Assumes nothing.
use Rattle.lines.specs.Lines.{newline}
use Rattle.lines.proofs.Putting.{room-first, room_next}
use Rattle.lines.proofs.Writing.{writes_append}
use Rattle.lines.proofs.Text.line.Goals as goal

pub ring-requires : goal.ring-requires
ring-requires c = room-first _ newline (room_next _ _ c.requires c.word.ensures.puts)

pub word-requires-2 : goal.word-requires-2
word-requires-2 c = room_next _ _ (room_next _ _ c.requires c.word.ensures.puts) c.ring.ensures.puts

pub returns : goal.returns
returns c = writes_append c.word.ensures (writes_append c.ring.ensures c.word-2.ensures)
