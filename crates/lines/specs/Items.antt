-- What is printed, before it is bytes: words and numbers, one after another.
use Rattle.std.specs.Prelude.{ℕ, ◌≡◌, List, [], ◌∷◌, ◌++◌, map}
use Prim.Native.String.{String}
use Rattle.lines.specs.Decimal.{Decimal}
use Rattle.lines.specs.Words.{bytes}

pub data Item : Type 0 where
  word : List ℕ → Item
  number : ℕ → Item

abbrev pub text : String → Item
text s = word (bytes s)

abbrev pub numbers : List ℕ → List Item
numbers ring = map number ring

-- The bytes t are the item.
abbrev pub Spelled : Item → List ℕ → Type 0
Spelled (word w) t = t ≡ w
Spelled (number x) t = Decimal x t

pub record Begins (item : Item) (Rest : List ℕ → Type 0) (t : List ℕ) : Type 0 where
  pub head : List ℕ
  pub rest : List ℕ
  pub spelled : Spelled item head
  pub goes_on : Rest rest
  pub joined : t ≡ head ++ rest

-- The bytes t are the items, with nothing between them.
abbrev pub Spells : List Item → List ℕ → Type 0
Spells [] t = t ≡ []
Spells (item ∷ items) t = Begins item (Spells items) t
