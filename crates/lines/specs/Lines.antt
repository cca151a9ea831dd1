-- "One blank between items, a newline after each line." (document 01, The pattern sheet)
use Rattle.std.specs.Prelude.{List, [], ◌∷◌, ◌++◌}
use Rattle.lines.specs.Items.{Item, text}

-- Items, each after a blank.
abbrev pub after : List Item → List Item
after [] = []
after (item ∷ items) = text " " ∷ item ∷ after items

abbrev pub newline : List Item
newline = text "\n" ∷ []

abbrev pub line : (first : Item) (others : List Item) → List Item
line first others = first ∷ after others ++ newline
