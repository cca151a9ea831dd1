-- `Text::named` meets its contract: a blank, the name, and the number after a blank, one after the other. Assumes nothing.
use Rattle.lines.proofs.Writing.{writes_append}
use Rattle.lines.proofs.Text.named.Goals as goal

pub returns : goal.returns
returns c = writes_append c.word.ensures (writes_append c.word-2.ensures c.number.ensures)
