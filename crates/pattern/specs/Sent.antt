-- What a logger sends: a pattern "followed by its readings" (document 01, The calls, Same feeding).
use Rattle.std.specs.Prelude.{ℕ, List, length}

pub record Sent : Type 0 where
  pub pattern : List ℕ
  pub readings : List ℕ

abbrev pub sent : (f y : List ℕ) → Sent
sent f y = record { pattern = f; readings = y }

-- n, the number of its entries.
abbrev pub entries : Sent → ℕ
entries s = length s.pattern
