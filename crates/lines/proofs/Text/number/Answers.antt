-- `Text::number` meets its contract: a blank and the digits, one after the other. Assumes nothing.
use mathlib.Core.List.{[], ◌∷◌}
use Rattle.lines.specs.Items.{number, text}
use Rattle.lines.proofs.Putting.{room_next, puts_append}
use Rattle.lines.proofs.Text.number.Goals as goal

pub put_digits-self-requires : goal.put_digits-self-requires
put_digits-self-requires c = room_next (text " " ∷ []) (number c.args.x ∷ []) c.requires c.word.ensures.puts

pub returns : goal.returns
returns c = record { same_buffer = c.word.ensures.same_buffer; puts = puts_append c.word.ensures.puts c.put_digits-self.ensures }
