-- The goals of `print::put_singular` that the search leaves: its four pieces, one after the other.
use Rattle.lines.specs.Items.{numbers, text}
use Rattle.lines.specs.Lines.{line}
use Rattle.lines.proofs.Putting.{room-first, room_next}
use Rattle.lines.proofs.Writing.{writes_append}
use Rattle.print.proofs.put_singular.Goals as goal

pub word-requires-2 : goal.word-requires-2
word-requires-2 c =
    room-first _ (line (text "ghost") (numbers c.args.w.now)) (room_next _ _ (room_next _ _ c.requires c.word.ensures.puts) c.number.ensures.puts)

pub line-requires : goal.line-requires
line-requires c =
    room_next _ _ (room_next _ _ (room_next _ _ c.requires c.word.ensures.puts) c.number.ensures.puts) c.word-2.ensures.puts

pub returns : goal.returns
returns c =
    writes_append c.word.ensures (writes_append c.number.ensures (writes_append c.word-2.ensures c.line.ensures))
