-- Bytes put into a lent buffer.
use Rattle.std.specs.Prelude.{ℕ, ◌+◌, ◌≤◌, ◌≡◌, List, ◌++◌, length, take, drop}

-- The bytes t stand in place of as many from offset o on.
abbrev pub put : (t : List ℕ) (o : ℕ) → List ℕ → List ℕ
put t o old = take o old ++ t ++ drop (o + length t) old

-- They stand in the buffer from offset o up to `end`; the rest is as it came.
pub record PutsBytes (t : List ℕ) (o : ℕ) (old new : List ℕ) (end : ℕ) : Type 0 where
  pub inside : end ≤ length old
  pub ends : end ≡ o + length t
  pub stands : new ≡ put t o old
