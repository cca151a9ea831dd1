-- What the methods of a text ask of it, and what they do.
use Rattle.std.specs.Prelude.{◌≡◌, List}
use Rattle.lines.specs.declared.Text.{Text}
use Rattle.lines.specs.Items.{Item}
use Rattle.lines.specs.Puts.{Room, Puts}

-- The buffer has room for the items behind what stands in it.
abbrev pub Fits : List Item → Text → Type 0
Fits items text = Room items text.end text.buffer.now

-- The items stand behind what stood in the buffer, and the text ends after them.
pub record Writes (items : List Item) (old new : Text) : Type 0 where
  pub same_buffer : new.buffer.ghost_name ≡ old.buffer.ghost_name
  pub puts : Puts items old.end old.buffer.now new.buffer.now new.end
