-- The bytes of a quoted text in ASCII: the codes of its characters.
use Rattle.std.specs.Prelude.{ℕ, List, [], ◌∷◌}
use Prim.Native.Char.{code}
use Prim.Native.String.{String, [] as «empty», ◌∷◌ as ◌then◌}

abbrev pub bytes : String → List ℕ
bytes «empty» = []
bytes (c then s) = code c ∷ bytes s
