-- The goals of `print::put_ghost` that the search leaves: the heading and the line, one after the other.
use borrow.Author.Rules.{rules}
use Rattle.lines.proofs.Putting.{room_next}
use Rattle.lines.proofs.Writing.{room_new, writes_append}
use Rattle.page.specs.Page.{singular_line}
use Rattle.print.proofs.put_ghost.Goals as goal

pub put_singular-requires : goal.put_singular-requires
put_singular-requires c =
    rw c.from.ensures (room_next _ (singular_line c.args.prime c.args.w.now) (room_new c.new-text.ensures.same_bytes c.new-text.ensures.empty c.requires) c.put_heading.ensures.puts)

pub returns : goal.returns
returns c =
    let all = rw c.from.ensures at (writes_append c.put_heading.ensures c.put_singular.ensures) in
    search rules
