-- Rows of numbers below p, and what is done to them entry by entry modulo p.
use Rattle.std.specs.Prelude.{ℕ, ◌+◌, ◌*◌, ◌/◌, ◌%◌, ◌^◌, ◌≤◌, ◌<◌, ◌≡◌, List, ◌∷◌, length}
use Rattle.sums.specs.Table.{at, table}

-- The largest modulus of a row: three times it fits a word of 32 bits.
abbrev pub most_row_modulus : ℕ
most_row_modulus = 2 ^ 30

-- A factor f below p, and its quotient w: f / p in units of 2^-32, rounded down.
pub record Prepared (p f w : ℕ) : Type 0 where
  pub low : f < p
  pub quotient : w ≡ 2 ^ 32 * f / p

-- The terms of a multiple of a row by f.
abbrev pub times : ℕ → List ℕ → ℕ → ℕ
times f l i = f * at l i

-- The terms of a multiple by f + g x, where entry i stands for x^i.
abbrev pub times_linear : ℕ → ℕ → List ℕ → ℕ → ℕ
times_linear f g l i = f * at l i + g * at (0 ∷ l) i

-- A row of n terms, and a row plus terms, modulo p.
unfoldable pub terms : ℕ → ℕ → (ℕ → ℕ) → List ℕ
terms n p t = table n (λ i. t i % p)

unfoldable pub plus : ℕ → List ℕ → (ℕ → ℕ) → List ℕ
plus p l t = table (length l) (λ i. (at l i + t i) % p)

-- What a multiple of a row modulo p asks.
pub record Scalable (p : ℕ) (l : List ℕ) : Type 0 where
  pub modulus : p ≤ most_row_modulus
  pub low : (i : ℕ) → at l i < p

-- What a multiple by f + g x asks to be added to a row: p and q are the moduli of f and of g.
pub record LinearAddable (p q : ℕ) (dst src : List ℕ) : Type 0 where
  pub multiple : Scalable p src
  pub same : q ≡ p
  pub onto : (i : ℕ) → at dst i < p
  pub fits : length src < length dst
