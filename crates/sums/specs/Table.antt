-- Lists by their entries: "entry 0 to entry n-1" of document 01.
use Rattle.std.specs.Prelude.{ℕ, zero, suc, List, [], ◌∷◌, get_or}

-- Entry i of a list; 0 past its end.
abbrev pub at : List ℕ → ℕ → ℕ
at l i = get_or l i 0

-- The list f 0, f 1, .. f (n - 1).
unfoldable pub table : ℕ → (ℕ → ℕ) → List ℕ
table zero f = []
table (suc n) f = f 0 ∷ table n (λ k. f (suc k))
