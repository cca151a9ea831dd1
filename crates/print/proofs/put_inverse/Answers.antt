-- The goals of `print::put_inverse` that the search leaves: its three pieces, one after the other.
use borrow.Author.Rules.{rules}
use mathlib.Core.List.{◌++◌}
use Rattle.lines.proofs.Putting.{room-first, room_next}
use Rattle.lines.proofs.Writing.{room_new, writes_append}
use Rattle.page.specs.Page.{inverse_line, counts_line}
use Rattle.sheet.specs.Held.{lent}
use Rattle.print.proofs.put_inverse.Goals as goal

pub line-requires : goal.line-requires
line-requires c =
    let counts = counts_line (lent c.args.counts) in
    room-first _ counts (room_next _ (inverse_line c.args.inverse.now ++ counts) (room_new c.new-text.ensures.same_bytes c.new-text.ensures.empty c.requires) c.put_heading.ensures.puts)

pub put_counts-requires : goal.put_counts-requires
put_counts-requires c =
    room_next _ _ (room_next _ _ (room_new c.new-text.ensures.same_bytes c.new-text.ensures.empty c.requires) c.put_heading.ensures.puts) c.line.ensures.puts

pub returns : goal.returns
returns c =
    let all = writes_append c.put_heading.ensures (writes_append c.line.ensures c.put_counts.ensures) in
    search rules
