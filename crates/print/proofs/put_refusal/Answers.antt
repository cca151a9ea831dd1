-- `print::put_refusal` meets its contract: the row of the case says what is put, and there is room for every refusal. Assumes nothing.
use borrow.Author.Rules.{rules}
use Rattle.lines.proofs.Writing.{room_new}
use Rattle.page.proofs.Rooms.{refused_room}
use Rattle.print.proofs.put_refusal.Goals as goal

pub put_refused-requires : goal.put_refused-requires
put_refused-requires c = room_new c.new-text.ensures.same_bytes c.new-text.ensures.empty (refused_room c.from.type_inv (search rules) (search rules) c.requires c.row-row.result.told)
