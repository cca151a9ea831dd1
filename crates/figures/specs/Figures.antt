-- Document 01, "Figures to try it on": the lines marked P and those on factor lists, as document 02's first request reads them, as one table, and what each
-- kind of line says. That all of them hold is the theorem `figures` in proofs/Figures.antt. Beside them lines that a wrong program would give, and what it is that one is rejected: all of them are, by
-- `rejected_figures`.
use Rattle.std.specs.Prelude.{ℕ, ◌≡◌, List, [], ◌∷◌, length, Ok, Err}
use Rattle.ring.specs.Mix.{mix}
use Rattle.ring.specs.Fold.{fold}
use Rattle.answer.specs.Reply.{check_reply}
use Rattle.answer.specs.declared.Failure.TheVariants as answer
use Rattle.checks.specs.Factors.{factors}
use Rattle.pattern.specs.Singular.{Singular}
use Rattle.factors.specs.Factored.{factored}
use Rattle.pattern.specs.Promises.{Inverts}

-- The factor list of m, which document 01 leaves out, is given by its primes and exponents.
pub data Line : Type 0 where
  inverse : (m : ℕ) (primes exponents f g : List ℕ) → Line
  ghost : (m : ℕ) (primes exponents f : List ℕ) (p : ℕ) (out also : List ℕ) → Line
  mixed : (m : ℕ) (a b c : List ℕ) → Line
  folded : (m : ℕ) (a c : List ℕ) → Line
  listed : (m : ℕ) (primes exponents : List ℕ) (number place : ℕ) → Line

-- Each of the primes is singular for f.
abbrev pub AllSingular : List ℕ → List ℕ → Type 0
AllSingular f [] = Unit {0}
AllSingular f (p ∷ ps) = Singular (length f) p f × AllSingular f ps

-- "m, f has inverse g": invert answers Done and g, into any output of n entries. "m, f: prime p, ghost out; also .. is singular": it answers p and out,
-- and the further primes are singular. "m, a mixed with b is c"; "m, a folded onto the length of c is c"; "m with primes and exponents is number at
-- place": the checks of the factor list answer so, 0 where they pass.
abbrev pub Says : Line → Type 0
Says (inverse m ps es f g) = (old : List ℕ) → length old ≡ length f → Inverts f (factored m ps es) old (Ok tt) g
Says (ghost m ps es f p out also) = ((old : List ℕ) → length old ≡ length f → Inverts f (factored m ps es) old (Err (answer.Singular 1 p)) out) × AllSingular f also
Says (mixed m a b c) = mix (length a) m a b ≡ c
Says (folded m a c) = fold (length a) (length c) m a ≡ c
Says (listed m ps es number place) = let r = check_reply (factors m ps es) in (r.number ≡ number) × (r.place ≡ place)

-- Of an answer that is wrong: it fits in no call, whatever output was lent.
abbrev pub Rejected : Line → Type 0
Rejected (inverse m ps es f g) = (old : List ℕ) → ¬ Inverts f (factored m ps es) old (Ok tt) g
Rejected (ghost m ps es f p out also) = (old : List ℕ) → ¬ Inverts f (factored m ps es) old (Err (answer.Singular 1 p)) out
Rejected (mixed m a b c) = ¬ (mix (length a) m a b ≡ c)
Rejected (folded m a c) = ¬ (fold (length a) (length c) m a ≡ c)
Rejected (listed m ps es number place) = ¬ Says (listed m ps es number place)

abbrev pub All : (Line → Type 0) → List Line → Type 0
All P [] = Unit {0}
All P (l ∷ ls) = P l × All P ls

abbrev pub lines : List Line
lines =
    inverse 4 (2 ∷ []) (2 ∷ []) (1 ∷ 2 ∷ 0 ∷ []) (1 ∷ 2 ∷ 0 ∷ [])
    ∷ inverse 8 (2 ∷ []) (3 ∷ []) (1 ∷ 2 ∷ []) (5 ∷ 6 ∷ [])
    ∷ inverse 9 (3 ∷ []) (2 ∷ []) (2 ∷ 3 ∷ []) (5 ∷ 6 ∷ [])
    ∷ inverse 5 (5 ∷ []) (1 ∷ []) (1 ∷ 1 ∷ 0 ∷ []) (3 ∷ 2 ∷ 3 ∷ [])
    ∷ inverse 6 (2 ∷ 3 ∷ []) (1 ∷ 1 ∷ []) (0 ∷ 1 ∷ 0 ∷ []) (0 ∷ 0 ∷ 1 ∷ [])
    ∷ inverse 1000 (2 ∷ 5 ∷ []) (3 ∷ 3 ∷ []) (3 ∷ []) (667 ∷ [])
    ∷ ghost 10 (2 ∷ 5 ∷ []) (1 ∷ 1 ∷ []) (1 ∷ 1 ∷ []) 2 (5 ∷ 5 ∷ []) (5 ∷ [])
    ∷ ghost 6 (2 ∷ 3 ∷ []) (1 ∷ 1 ∷ []) (1 ∷ 1 ∷ 0 ∷ []) 2 (3 ∷ 3 ∷ 3 ∷ []) []
    ∷ ghost 1000 (2 ∷ 5 ∷ []) (3 ∷ 3 ∷ []) (1 ∷ 1 ∷ 1 ∷ []) 2 (500 ∷ 500 ∷ 0 ∷ []) []
    ∷ ghost 1000 (2 ∷ 5 ∷ []) (3 ∷ 3 ∷ []) (3 ∷ 2 ∷ 0 ∷ []) 5 (200 ∷ 200 ∷ 200 ∷ []) []
    ∷ ghost 1000 (2 ∷ 5 ∷ []) (3 ∷ 3 ∷ []) (0 ∷ []) 2 (500 ∷ []) []
    ∷ mixed 10 (1 ∷ 2 ∷ 0 ∷ []) (1 ∷ 0 ∷ 5 ∷ []) (1 ∷ 2 ∷ 5 ∷ [])
    ∷ folded 10 (1 ∷ 2 ∷ 3 ∷ 4 ∷ []) (4 ∷ 6 ∷ [])
    ∷ listed 12 (2 ∷ 3 ∷ []) (2 ∷ 1 ∷ []) 0 0
    ∷ listed 12 (4 ∷ 3 ∷ []) (1 ∷ 1 ∷ []) 11 0
    ∷ listed 12 (3 ∷ 2 ∷ []) (1 ∷ 2 ∷ []) 12 1
    ∷ listed 12 (2 ∷ 3 ∷ []) (255 ∷ 1 ∷ []) 13 0
    ∷ []

-- Invert: the pattern handed back as its own inverse; one lifting round too few; an output that came as zeros and was left alone; the larger singular
-- prime with its own ghost; a ghost without the factor m/p. Mix: the matrix applied to a column. Fold: one part forgotten. Factor lists:
-- a place one too far; an equal prime let through; 13 left out; 11 before 10 at an entry; entry 1's exponent judged before entry 0's prime; eight entries walked.
abbrev pub wrong_lines : List Line
wrong_lines =
    inverse 8 (2 ∷ []) (3 ∷ []) (1 ∷ 2 ∷ []) (1 ∷ 2 ∷ [])
    ∷ inverse 8 (2 ∷ []) (3 ∷ []) (1 ∷ 2 ∷ []) (1 ∷ 6 ∷ [])
    ∷ inverse 8 (2 ∷ []) (3 ∷ []) (1 ∷ 2 ∷ []) (0 ∷ 0 ∷ [])
    ∷ ghost 10 (2 ∷ 5 ∷ []) (1 ∷ 1 ∷ []) (1 ∷ 1 ∷ []) 5 (8 ∷ 2 ∷ []) []
    ∷ ghost 10 (2 ∷ 5 ∷ []) (1 ∷ 1 ∷ []) (1 ∷ 1 ∷ []) 2 (1 ∷ 1 ∷ []) []
    ∷ mixed 10 (1 ∷ 2 ∷ 0 ∷ []) (1 ∷ 0 ∷ 5 ∷ []) (1 ∷ 0 ∷ 7 ∷ [])
    ∷ folded 10 (1 ∷ 2 ∷ 3 ∷ 4 ∷ []) (3 ∷ 4 ∷ [])
    ∷ listed 12 (4 ∷ 3 ∷ []) (1 ∷ 1 ∷ []) 11 1
    ∷ listed 8 (2 ∷ 2 ∷ []) (1 ∷ 2 ∷ []) 0 0
    ∷ listed 12 (2 ∷ 3 ∷ []) (255 ∷ 1 ∷ []) 0 0
    ∷ listed 12 (4 ∷ 3 ∷ []) (0 ∷ 1 ∷ []) 11 0
    ∷ listed 12 (4 ∷ 3 ∷ []) (1 ∷ 0 ∷ []) 10 1
    ∷ listed 12 (2 ∷ 3 ∷ 5 ∷ 7 ∷ 11 ∷ 13 ∷ 17 ∷ 18 ∷ []) (2 ∷ 1 ∷ 1 ∷ 1 ∷ 1 ∷ 1 ∷ 1 ∷ 1 ∷ []) 11 7
    ∷ []
